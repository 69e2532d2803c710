-- What standard error has behind the report of a run.
use Rattle.std.specs.Prelude.{◌≡◌, ◌+◌, ◌*◌, ◌/◌, ◌==◌, ℕ, Bool, true, false, List, [], ◌++◌, Option, None, Some, codes}
use Rattle.std.specs.Prelude.{count_by, if◌then◌else◌, ◌&&◌, is_none, is_some, IfSome}
use Rattle.std.specs.Fmt.{decimal}
use Rattle.pp_judge.specs.Answers.{Answer, ran}
use Rattle.pp_judge.specs.Lines.{fault_text}
use Rattle.pp_judge.specs.declared.exit.FileFault.{FileFault}
use Rattle.pp_model.specs.declared.event.Event.{Event}
use Rattle.pp_model.specs.declared.event.Event.TheVariants.{Step}
use Rattle.pp_model.specs.declared.moves.Move.{Move}
use Rattle.pp_model.specs.declared.moves.Move.TheVariants.{FlushBegin}
use Rattle.pp_report.specs.Reports.{counts, report_text}
use Rattle.pp_report.specs.declared.figure.Figure.{Figure}
use Rattle.pp_report.specs.declared.figure.Figure.TheVariants.{Hits, Loads}
use Rattle.pp_report.specs.declared.record.RunRecord.{RunRecord}
use Rattle.pp_words.specs.CommandLine.{Text}
use Rattle.pp_explain.specs.Paragraphs.{IsAbout}
use Rattle.pp_run_command.specs.Endings.{went_well}

-- how many of the events count for the figure
abbrev pub counted : Figure → List Event → ℕ
counted figure events = count_by (counts figure) events

-- the move is the beginning of a flush
abbrev pub is_flush_begin : Move → Bool
is_flush_begin (FlushBegin page) = true
is_flush_begin _ = false

-- the event is the beginning of a flush
abbrev pub begins_flush : Event → Bool
begins_flush (Step did reply) = is_flush_begin did
begins_flush _ = false

-- how many flushes were begun
abbrev pub begun_flushes : List Event → ℕ
begun_flushes events = count_by begins_flush events

-- the path and the cause of a fault
abbrev pub seen_fault : FileFault → Text × Text
seen_fault fault = (fault.path.now, fault.cause.now)

-- why the journal isn't kept, where it isn't
abbrev pub unkept_line : Option (Text × Text) → Text
unkept_line None = []
unkept_line (Some fault) = codes "fault writing " ++ (fault_text fault.0 fault.1 ++ codes "\n")

-- how many fixes found their page in memory, and how many in a hundred that are; nothing where there was no fix
abbrev pub ratio_line : (hits loads : ℕ) → Text
ratio_line hits loads =
    if hits + loads == 0 then []
    else codes "hits " ++ decimal hits ++ codes " of " ++ decimal (hits + loads) ++ codes " fixes: "
    ++ decimal (hits * 100 / (hits + loads)) ++ codes " %\n"

-- `page was` for one, `pages were` for more
abbrev pub pages_were : ℕ → Text
pages_were n = if n == 1 then codes "page was" else codes "pages were"

-- how many pages are newer than the device, which is so only where as many flushes were begun as the settings allow
abbrev pub dirty_line : (dirty begun : ℕ) → Text
dirty_line dirty begun =
    if dirty == 0 then []
    else decimal dirty ++ (codes " " ++ (pages_were dirty ++ (codes " changed and not written: flushes = "
    ++ (decimal begun ++ codes " were used up\n"))))

-- how many choices were made by the seed, where others were given
abbrev pub missed_line : Option ℕ → Text
missed_line None = []
missed_line (Some missed) =
    if missed == 0 then []
    else codes "choices made by the seed, since no number that may be chosen is given for them: " ++ decimal missed
    ++ codes "\n"

-- what standard error has behind the report of this run
abbrev pub run_note : RunRecord → (missed : Option ℕ) → (unkept : Option (Text × Text)) → Text
run_note run missed unkept = unkept_line unkept
    ++ (ratio_line (counted Hits run.events.items) (counted Loads run.events.items)
    ++ (dirty_line run.dirty (begun_flushes run.events.items) ++ missed_line missed))

-- the answer is the report of a run
abbrev pub is_report : Answer → Bool
is_report (ran report is_well) = true
is_report _ = false

-- a fault of writing is one of the journal's file
abbrev pub IsOfJournal : (journal : Option Text) → (unkept : Option (Text × Text)) → Type 0
IsOfJournal journal unkept = IfSome unkept (λ fault. journal ≡ Some fault.0)

-- the text is what standard error has behind this report: the run went well where no plan was left, no flush failed and the
-- journal is kept; choices by the seed are counted where others were given
pub record IsRunNote (journal : Option Text) (is_traced : Bool) (report : Text) (is_well : Bool) (text : Text) : Type 0 where
  pub run : RunRecord
  pub missed : Option ℕ
  pub unkept : Option (Text × Text)
  pub report_is : report ≡ report_text run
  pub text_is : text ≡ run_note run missed unkept
  pub well : is_well ≡ (went_well run.events.items && is_none unkept)
  pub of_journal : IsOfJournal journal unkept
  pub given : is_some missed ≡ is_traced

-- behind a report there is that text
abbrev pub IsNoted : (journal : Option Text) → (is_traced : Bool) → (report : Text) → (is_well : Bool)
    → (why : Option Text) → Type 0
IsNoted journal is_traced report is_well None = ⊥
IsNoted journal is_traced report is_well (Some text) = IsRunNote journal is_traced report is_well text

-- what comes on standard error behind what a run comes to: behind its report that text, and else nothing, or a paragraph about
-- one of these files
abbrev pub IsBeside : (files : List Text) → (journal : Option Text) → (is_traced : Bool) → Answer → (why : Option Text)
    → Type 0
IsBeside files journal is_traced (ran report is_well) why = IsNoted journal is_traced report is_well why
IsBeside files journal is_traced _ why = IfSome why (IsAbout files)
