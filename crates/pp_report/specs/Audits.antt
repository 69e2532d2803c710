-- When a text is a true journal of plans, and what is its first fault where it isn't one.
use Rattle.std.specs.Prelude.{◌≡◌, ◌≢◌, ℕ, ◌+◌, List, ◌∷◌, ◌++◌, length, map, None}
use Rattle.std.specs.List.{AllByRecursion}
use Rattle.pp_settings.specs.Settings.{Configuration}
use Rattle.pp_cert.specs.Accepted.{Acceptance}
use Rattle.pp_model.specs.declared.event.Event.{Event}
use Rattle.pp_model.specs.Pool.{State, opening}
use Rattle.pp_model.specs.Moves.{reply_of, IsPossible}
use Rattle.pp_model.specs.Turns.{next_turn}
use Rattle.pp_model.specs.Journals.{replay, IsNextPlan, IsTrueFrom}
use Rattle.pp_core.specs.Opening.{kept_of}
use Rattle.pp_report.specs.declared.line.Asked.{Asked}
use Rattle.pp_report.specs.declared.line.Asked.TheVariants.{Submit, Do}
use Rattle.pp_report.specs.declared.line.Told.{Told}
use Rattle.pp_report.specs.declared.line.Told.TheVariants.{Queued, Answer}
use Rattle.pp_report.specs.declared.line.Line.{Line}
use Rattle.pp_report.specs.declared.error.Next.{Next}
use Rattle.pp_report.specs.declared.error.AuditError.{AuditError}
use Rattle.pp_report.specs.declared.error.AuditError.TheVariants.{NotALine, NotPossible, ReplyDiffers, NotRenewed}
use Rattle.pp_report.specs.declared.error.AuditError.TheVariants.{Unfinished, OutOfMemory}
use Rattle.pp_report.specs.Journals.{journal_lines}
use Rattle.pp_report.specs.Lines.{line_of, line_words, FitsEvent, Says, Spells}

-- ---- a journal of these plans

-- The state that events lead to, from a new pool.
abbrev pub reached : Configuration → List Acceptance → List Event → State
reached c plans es = replay plans (opening (kept_of c)) es

-- Each event is possible at its point, and its reply is the pool's.
abbrev pub IsTrue : Configuration → List Acceptance → List Event → Type 0
IsTrue c plans es = IsTrueFrom plans (opening (kept_of c)) es

-- Every plan is submitted, and nothing more is possible.
pub record IsOver (plans : List Acceptance) (s : State) : Type 0 where
  pub submitted : s.plans ≡ plans
  pub ended : next_turn s ≡ None

-- The events are a whole journal of these plans: a true one, at whose end they are all submitted and ended, and no flush is
-- in flight.
pub record IsWhole (c : Configuration) (plans : List Acceptance) (es : List Event) : Type 0 where
  pub is_true : IsTrue c plans es
  pub over : IsOver plans (reached c plans es)

-- The text is a true journal of these plans with so many lines, at whose end they are all submitted and ended, and no flush
-- is in flight.
pub record IsAudited (c : Configuration) (plans : List Acceptance) (text : List ℕ) (lines : ℕ) : Type 0 where
  pub events : List Event
  pub spelled : Spells text events
  pub is_true : IsTrue c plans events
  pub over : IsOver plans (reached c plans events)
  pub number : lines ≡ length events

-- ---- the first fault

-- In the state, this can be asked: the move is possible, or the plan is the next one and is taken in.
abbrev pub CanAsk : List Acceptance → State → Asked → Type 0
CanAsk plans s (Submit number) = IsNextPlan plans s number
CanAsk plans s (Do m) = IsPossible s m

-- What the pool then tells.
abbrev pub due : State → Asked → Told
due s (Submit number) = Queued
due s (Do m) = Answer (reply_of s m)

-- The lines before the one with this number, from 1, are true, and this line is wrong in the state after them.
pub record StopsAt (c : Configuration) (plans : List Acceptance) (text : List ℕ) (number : ℕ)
    (IsWrong : State → List ℕ → Type 0) : Type 0 where
  pub before : List Event
  pub line : List ℕ
  pub after : List (List ℕ)
  pub fits : AllByRecursion FitsEvent before
  pub is_true : IsTrue c plans before
  pub stands : journal_lines text ≡ map (λ e. line_words (line_of e)) before ++ (line ∷ after)
  pub number_is : number ≡ length before + 1
  pub wrong : IsWrong (reached c plans before) line

-- It says nothing that a line of a journal can say.
abbrev pub IsNoLine : State → List ℕ → Type 0
IsNoLine s text = (l : Line) → ¬ Says text l

-- It asks what isn't possible.
abbrev pub AsksImpossible : List Acceptance → Asked → Next → State → List ℕ → Type 0
AsksImpossible plans asked next s text =
    (told : Told) × Says text (record { asked = asked; told = told }) × (¬ CanAsk plans s asked) × (next.turn ≡ next_turn s)

-- It asks what is possible, and tells something else than the pool.
abbrev pub TellsOther : List Acceptance → Told → Told → State → List ℕ → Type 0
TellsOther plans told right s text =
    (asked : Asked) × Says text (record { asked = asked; told = told }) × CanAsk plans s asked × (right ≡ due s asked)
    × (told ≢ right)

-- All lines are true, and some plan isn't submitted or ended, or a flush is in flight.
pub record EndsEarly (c : Configuration) (plans : List Acceptance) (text : List ℕ) : Type 0 where
  pub events : List Event
  pub spelled : Spells text events
  pub is_true : IsTrue c plans events
  pub early : ¬ IsOver plans (reached c plans events)

-- The error tells the first fault of the text. Want of memory tells nothing. A journal has no renewals, so none is refused.
abbrev pub TellsFault : Configuration → List Acceptance → List ℕ → AuditError → Type 0
TellsFault c plans text (NotALine n) = StopsAt c plans text n IsNoLine
TellsFault c plans text (NotPossible n asked next) = StopsAt c plans text n (AsksImpossible plans asked next)
TellsFault c plans text (ReplyDiffers n told right) = StopsAt c plans text n (TellsOther plans told right)
TellsFault c plans text (NotRenewed n why next) = ⊥
TellsFault c plans text Unfinished = EndsEarly c plans text
TellsFault c plans text OutOfMemory = Unit {0}
