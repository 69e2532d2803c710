-- What stands on standard error behind what a run comes to.
use Rattle.std.proofs.Common.{◌≡◌, ◌⊎◌, ◌&&◌, ℕ, Bool, true, false, List, ◌∷◌, Option, None, Some, IfSome, option_map, is_none, is_some}
use Rattle.std.proofs.Common.{refl, sym, subst, ap, inl, inr, codes}
use Rattle.std.specs.Global.{Vec}
use Rattle.pp_judge.specs.Answers.{Answer, seen, done, made, simulated, formatted, ran, stopped, audited, drawn, shown}
use Rattle.pp_judge.specs.Answers.{audited_segments}
use Rattle.pp_judge.specs.Answers.{kept, refused, misused, wordless, in_use, unread, unwritten, out_of_memory}
use Rattle.pp_explain.specs.Paragraphs.{IsAbout}
use Rattle.pp_report.specs.Reports.{report_text}
use Rattle.pp_report.specs.declared.record.RunRecord.{RunRecord}
use Rattle.pp_run_command.specs.Endings.{went_well}
use Rattle.pp_words.specs.CommandLine.{Asked, Text}
use Rattle.pp_cli.specs.Faults.{IsMisusedBy, IsUnheld}
use Rattle.pp_cli.specs.Journals.{IsUnopened}
use Rattle.pp_cli.specs.Notes.{IsBeside, IsNoted, IsOfJournal, IsRunNote, is_report, run_note}
use Rattle.pp_cli.specs.Runs.{ExplainsOf, IsUnopenedAt, IsUnprepared}
use Rattle.pp_cli.specs.Traces.{IsMistraced}

-- A paragraph, where there is one, is about one of the files.
pub lifted : (paths : List Text) (o : Option (Vec ℕ)) → IfSome o (λ text. IsAbout paths text.items)
    → IfSome (option_map (λ text. text.items) o) (IsAbout paths)
lifted paths None h = tt
lifted paths (Some text) h = h

-- The text behind a report.
pub noted : (journal : Option Text) (run : RunRecord) (missed : Option ℕ) (unkept : Option (Text × Text))
    (report : Text) (is_well : Bool) (text : Text) → report ≡ report_text run → text ≡ run_note run missed unkept
    → is_well ≡ (went_well run.events.items && is_none unkept) → IsOfJournal journal unkept
    → IsRunNote journal (is_some missed) report is_well text
noted journal run missed unkept report is_well text report_is text_is well of_journal = record {
  run = run;
  missed = missed;
  unkept = unkept;
  report_is = report_is;
  text_is = text_is;
  well = well;
  of_journal = of_journal;
  given = refl;
}

-- Behind another answer there may be nothing.
silent : (files : List Text) (journal : Option Text) (is_traced : Bool) (answer : Answer) → (is_report answer ≡ true → ⊥)
    → IsBeside files journal is_traced answer None
silent files journal is_traced (done figures) h = tt
silent files journal is_traced (made text) h = tt
silent files journal is_traced (simulated text) h = tt
silent files journal is_traced (formatted pages) h = tt
silent files journal is_traced (ran report is_well) h = absurd (h refl)
silent files journal is_traced (stopped text) h = tt
silent files journal is_traced (audited lines) h = tt
silent files journal is_traced (audited_segments lines segments) h = tt
silent files journal is_traced (drawn text) h = tt
silent files journal is_traced (shown text) h = tt
silent files journal is_traced kept h = tt
silent files journal is_traced (refused refusal) h = tt
silent files journal is_traced (misused text) h = tt
silent files journal is_traced wordless h = tt
silent files journal is_traced (in_use path) h = tt
silent files journal is_traced (unread path cause) h = tt
silent files journal is_traced (unwritten path cause) h = tt
silent files journal is_traced out_of_memory h = tt

abbrev IsFalse : Bool → Type 0
IsFalse true = ⊥
IsFalse false = Unit {0}

no_report : false ≡ true → ⊥
no_report is = subst IsFalse is tt

unheld : (device : Text) (answer : Answer) → IsUnheld device answer → is_report answer ≡ true → ⊥
unheld device (done figures) h e = no_report e
unheld device (made text) h e = no_report e
unheld device (simulated text) h e = no_report e
unheld device (formatted pages) h e = no_report e
unheld device (ran report is_well) (inl h) e = absurd h
unheld device (ran report is_well) (inr (inl h)) e = absurd h
unheld device (ran report is_well) (inr (inr h)) e = no_report (sym (ap is_report h))
unheld device (stopped text) h e = no_report e
unheld device (audited lines) h e = no_report e
unheld device (audited_segments lines segments) h e = no_report e
unheld device (drawn text) h e = no_report e
unheld device (shown text) h e = no_report e
unheld device kept h e = no_report e
unheld device (refused refusal) h e = no_report e
unheld device (misused text) h e = no_report e
unheld device wordless h e = no_report e
unheld device (in_use path) h e = no_report e
unheld device (unread path cause) h e = no_report e
unheld device (unwritten path cause) h e = no_report e
unheld device out_of_memory h e = no_report e

unopened : (journal : Text) (answer : Answer) → IsUnopened journal answer → is_report answer ≡ true → ⊥
unopened journal (done figures) h e = no_report e
unopened journal (made text) h e = no_report e
unopened journal (simulated text) h e = no_report e
unopened journal (formatted pages) h e = no_report e
unopened journal (ran report is_well) (inl h) e = absurd h
unopened journal (ran report is_well) (inr h) e = absurd h
unopened journal (stopped text) h e = no_report e
unopened journal (audited lines) h e = no_report e
unopened journal (audited_segments lines segments) h e = no_report e
unopened journal (drawn text) h e = no_report e
unopened journal (shown text) h e = no_report e
unopened journal kept h e = no_report e
unopened journal (refused refusal) h e = no_report e
unopened journal (misused text) h e = no_report e
unopened journal wordless h e = no_report e
unopened journal (in_use path) h e = no_report e
unopened journal (unread path cause) h e = no_report e
unopened journal (unwritten path cause) h e = no_report e
unopened journal out_of_memory h e = no_report e

misplaced : (line : Text) (answer : Answer) → IsMisusedBy line answer → is_report answer ≡ true → ⊥
misplaced line (done figures) h e = no_report e
misplaced line (made text) h e = no_report e
misplaced line (simulated text) h e = no_report e
misplaced line (formatted pages) h e = no_report e
misplaced line (ran report is_well) h e = absurd h
misplaced line (stopped text) h e = no_report e
misplaced line (audited lines) h e = no_report e
misplaced line (audited_segments lines segments) h e = no_report e
misplaced line (drawn text) h e = no_report e
misplaced line (shown text) h e = no_report e
misplaced line kept h e = no_report e
misplaced line (refused refusal) h e = no_report e
misplaced line (misused text) h e = no_report e
misplaced line wordless h e = no_report e
misplaced line (in_use path) h e = no_report e
misplaced line (unread path cause) h e = no_report e
misplaced line (unwritten path cause) h e = no_report e
misplaced line out_of_memory h e = no_report e

-- A run that isn't begun has nothing behind it.
unprepared_silent : (files : List Text) (journal : Option Text) (is_traced : Bool) (device : Text) (wanted : Option Text)
    (answer : Answer) → IsUnprepared device wanted answer → IsBeside files journal is_traced answer None
unprepared_silent files journal is_traced device wanted answer (inl h) =
    silent files journal is_traced answer (unheld device answer h)
unprepared_silent files journal is_traced device None answer (inr h) = absurd h
unprepared_silent files journal is_traced device (Some path) answer (inr h) =
    silent files journal is_traced answer (unopened path answer h)

-- And the same where the note is what it was.
pub quiet : (files : List Text) (journal : Option Text) (is_traced : Bool) (device : Text) (wanted : Option Text)
    (answer : Answer) (told : Option (Vec ℕ)) → IsUnprepared device wanted answer → told ≡ None
    → IsBeside files journal is_traced answer (option_map (λ text. text.items) told)
quiet files journal is_traced device wanted answer told h none =
    rw none (unprepared_silent files journal is_traced device wanted answer h)

-- A bad command line has nothing behind it either.
pub misused_quiet : (files : List Text) (journal : Option Text) (is_traced : Bool) (line : Text) (answer : Answer)
    (told : Option (Vec ℕ)) → IsMisusedBy line answer → told ≡ None
    → IsBeside files journal is_traced answer (option_map (λ text. text.items) told)
misused_quiet files journal is_traced line answer told h none =
    rw none (silent files journal is_traced answer (misplaced line answer h))

-- Nor have choices that are no text of choices.
pub mistraced_quiet : (files : List Text) (journal : Option Text) (is_traced : Bool) (path : Text) (answer : Answer)
    (told : Option (Vec ℕ)) → IsMistraced path answer → told ≡ None
    → IsBeside files journal is_traced answer (option_map (λ text. text.items) told)
mistraced_quiet files journal is_traced path answer told h none = misused_quiet files journal is_traced _ answer told h.2 none

-- Nor has a command of which two words name one file.
pub clash_quiet : (command : Asked) (line : Text) (answer : Answer) (told : Option (Vec ℕ)) → IsMisusedBy line answer
    → told ≡ None → ExplainsOf command answer (option_map (λ text. text.items) told)
clash_quiet (Asked.run journal trace settings device seed plans) line answer told h none =
    misused_quiet (settings ∷ plans) journal (is_some trace) line answer told h none
clash_quiet (Asked.check settings plan certificate) line answer told h none = rw none tt
clash_quiet (Asked.annotate output settings plan) line answer told h none = rw none tt
clash_quiet (Asked.simulate settings script plans) line answer told h none = rw none tt
clash_quiet (Asked.format settings device) line answer told h none = rw none tt
clash_quiet (Asked.audit lives settings journal plans) line answer told h none = rw none tt
clash_quiet (Asked.segments ended settings plans files) line answer told h none = rw none tt
clash_quiet (Asked.draw output settings journal plans) line answer told h none = rw none tt
