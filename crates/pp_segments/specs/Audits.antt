-- When texts are the segments of a true journal, and what is their first fault where they aren't.
use Rattle.std.specs.Prelude.{◌≡◌, ◌≢◌, ◌⊎◌, ℕ, ◌+◌, Bool, true, List, [], ◌∷◌, ◌++◌, length, map, flat_map, slice_get}
use Rattle.std.specs.Prelude.{Some, None}
use Rattle.std.specs.List.{AllByRecursion}
use Rattle.pp_settings.specs.declared.span.Span.TheVariants.{Bounded}
use Rattle.pp_settings.specs.Settings.{Configuration}
use Rattle.pp_cert.specs.Accepted.{Acceptance}
use Rattle.pp_model.specs.declared.moves.Move.{Move}
use Rattle.pp_model.specs.Pool.{State, opening}
use Rattle.pp_model.specs.Moves.{reply_of, IsPossible}
use Rattle.pp_model.specs.Submitting.{submit_error}
use Rattle.pp_model.specs.Turns.{next_turn}
use Rattle.pp_model.specs.Journals.{IsJournalFrom}
use Rattle.pp_core.specs.Opening.{kept_of}
use Rattle.pp_report.specs.declared.line.Asked.{Asked}
use Rattle.pp_report.specs.declared.line.Asked.TheVariants as asked
use Rattle.pp_report.specs.declared.line.Told.{Told}
use Rattle.pp_report.specs.declared.line.Told.TheVariants.{Answer}
use Rattle.pp_report.specs.declared.error.Next.{Next}
use Rattle.pp_report.specs.declared.error.AuditError.TheVariants.{NotALine, NotPossible, ReplyDiffers, NotRenewed}
use Rattle.pp_report.specs.declared.error.AuditError.TheVariants.{Unfinished, OutOfMemory}
use Rattle.pp_report.specs.Journals.{journal_lines}
use Rattle.pp_segments.specs.declared.auditing.AuditedSegments.{AuditedSegments}
use Rattle.pp_segments.specs.declared.line.SegmentLine.{SegmentLine}
use Rattle.pp_segments.specs.declared.line.SegmentLine.TheVariants.{Head, Submit, Step}
use Rattle.pp_segments.specs.declared.error.SegmentError.{SegmentError}
use Rattle.pp_segments.specs.declared.error.SegmentError.TheVariants.{Audit, OtherSegment, NotPrepared, OtherLife}
use Rattle.pp_segments.specs.declared.error.SegmentError.TheVariants.{Prepare}
use Rattle.pp_segments.specs.Lines.{line_words, FitsLine, Says}
use Rattle.pp_segments.specs.Segments.{ToldSegment, IsNamed, all_events, all_names, all_lines, SpellsSegments}
use Rattle.pp_segments.specs.Auditing.{told_count, begin_fault}

-- What is told of segments that were audited: how many lines they have, and how many they are.
abbrev pub counts : AuditedSegments → ℕ × ℕ
counts audited = (audited.lines, audited.segments)

-- ---- true segments

-- These are true segments of a pool with these prepared plans, and lead to the state: one behind the other their
-- events are a true journal of it, from the settings' opening state on, and each submit is of the prepared plan that is
-- named.
pub record AreTrueSegments (c : Configuration) (prepared : List Acceptance) (xs : List ToldSegment)
    (t : State) : Type 0 where
  pub is_true : IsJournalFrom (opening (kept_of c)) t (all_events xs)
  pub plans : map (slice_get prepared) (all_names xs) ≡ map Some t.plans
  pub named : AllByRecursion IsNamed xs

-- Nothing is left to do in the state, where that is wanted.
abbrev pub EndsSo : (ended : Bool) → State → Type 0
EndsSo ended t = ended ≡ true → next_turn t ≡ None

-- The texts are those of so many true segments, with so many lines, of a pool that has these settings and prepares
-- these plans. Where an end is wanted, nothing is left to do behind them.
pub record IsAuditedSegments (c : Configuration) (prepared : List Acceptance) (ended : Bool) (texts : List (List ℕ))
    (lines segments : ℕ) : Type 0 where
  pub begins : begin_fault c prepared ≡ None
  pub told : List ToldSegment
  pub state : State
  pub spelled : SpellsSegments texts told
  pub are_true : AreTrueSegments c prepared told state
  pub ends : EndsSo ended state
  pub lines_are : lines ≡ told_count (length (all_lines told))
  pub segments_are : segments ≡ told_count (length told)

-- ---- the first fault

-- The lines before the one with this number, from 1, are those of true segments, and this line is wrong behind them.
pub record StopsAt (c : Configuration) (prepared : List Acceptance) (texts : List (List ℕ)) (number : ℕ)
    (IsWrong : List ToldSegment → State → List ℕ → Type 0) : Type 0 where
  pub begins : begin_fault c prepared ≡ None
  pub before : List ToldSegment
  pub state : State
  pub line : List ℕ
  pub after : List (List ℕ)
  pub fits : AllByRecursion FitsLine (all_lines before)
  pub are_true : AreTrueSegments c prepared before state
  pub stands : flat_map journal_lines texts ≡ map line_words (all_lines before) ++ (line ∷ after)
  pub number_is : number ≡ told_count (length (all_lines before) + 1)
  pub wrong : IsWrong before state line

-- It says nothing that a line of a segment can say.
abbrev pub IsNoLine : List ToldSegment → State → List ℕ → Type 0
IsNoLine before s text = (l : SegmentLine) → ¬ Says text l

-- It is the first line and no head, or a head with another number than that of the next segment, or with another
-- number of plans than were submitted.
abbrev pub IsOtherLine : List ToldSegment → State → SegmentLine → Type 0
IsOtherLine before s (Head segment plans_before) = (segment ≢ length before) ⊎ (plans_before ≢ length s.plans)
IsOtherLine before s (Submit plan name) = before ≡ []
IsOtherLine before s (Step did told) = before ≡ []

-- The line says so.
abbrev pub IsNoNextHead : List ToldSegment → State → List ℕ → Type 0
IsNoNextHead before s text = (l : SegmentLine) × Says text l × IsOtherLine before s l

-- It submits the next plan, in a segment, and the plan that it names isn't prepared.
abbrev pub NamesNone : List Acceptance → List ToldSegment → State → List ℕ → Type 0
NamesNone prepared before s text =
    (before ≢ []) × (name : ℕ) × Says text (Submit (length s.plans) name) × (slice_get prepared name ≡ None)

-- The prepared plan of this name is refused.
abbrev pub IsRefused : List Acceptance → State → (name : ℕ) → Type 0
IsRefused prepared s name = (a : Acceptance) × (slice_get prepared name ≡ Some a) × (submit_error s a ≢ None)

-- The line asks this, which isn't possible: a move, or a submit of another plan than the next one, or of one that is
-- refused.
abbrev pub CannotAsk : List Acceptance → State → List ℕ → Asked → Type 0
CannotAsk prepared s text (asked.Submit plan) =
    (name : ℕ) × Says text (Submit plan name) × ((plan ≢ length s.plans) ⊎ IsRefused prepared s name)
CannotAsk prepared s text (asked.Do did) = (told : Told) × Says text (Step did told) × (¬ IsPossible s did)

abbrev pub AsksImpossible : List Acceptance → Asked → Next → List ToldSegment → State → List ℕ → Type 0
AsksImpossible prepared asked next before s text =
    (before ≢ []) × CannotAsk prepared s text asked × (next.turn ≡ next_turn s)

-- It has a move that is possible, and tells something else than the pool.
abbrev pub TellsOther : Told → Told → List ToldSegment → State → List ℕ → Type 0
TellsOther told right before s text =
    (before ≢ []) × (did : Move) × Says text (Step did told) × IsPossible s did
    × (right ≡ Answer (reply_of s did)) × (told ≢ right)

-- The texts are true segments, and something is left to do at the end, though an end is wanted.
pub record EndsEarly (c : Configuration) (prepared : List Acceptance) (ended : Bool)
    (texts : List (List ℕ)) : Type 0 where
  pub begins : begin_fault c prepared ≡ None
  pub told : List ToldSegment
  pub state : State
  pub spelled : SpellsSegments texts told
  pub are_true : AreTrueSegments c prepared told state
  pub wanted : ended ≡ true
  pub early : next_turn state ≢ None

-- The error tells the first fault. Want of memory tells nothing. There are no renewals, so none is refused.
abbrev pub TellsFault : Configuration → List Acceptance → (ended : Bool) → (texts : List (List ℕ))
    → SegmentError → Type 0
TellsFault c prepared ended texts (Audit (NotALine n)) = StopsAt c prepared texts n IsNoLine
TellsFault c prepared ended texts (Audit (NotPossible n asked next)) =
    StopsAt c prepared texts n (AsksImpossible prepared asked next)
TellsFault c prepared ended texts (Audit (ReplyDiffers n told right)) =
    StopsAt c prepared texts n (TellsOther told right)
TellsFault c prepared ended texts (Audit (NotRenewed n why next)) = ⊥
TellsFault c prepared ended texts (Audit Unfinished) = EndsEarly c prepared ended texts
TellsFault c prepared ended texts (Audit OutOfMemory) = Unit {0}
TellsFault c prepared ended texts (OtherSegment n) = StopsAt c prepared texts n IsNoNextHead
TellsFault c prepared ended texts (NotPrepared n) = StopsAt c prepared texts n (NamesNone prepared)
TellsFault c prepared ended texts OtherLife = c.span ≡ Bounded
TellsFault c prepared ended texts (Prepare error) = begin_fault c prepared ≡ Some (Prepare error)
