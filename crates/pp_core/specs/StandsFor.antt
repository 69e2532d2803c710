-- What a core stands for: how what it keeps hangs together with a state of the model. The core keeps cursors, counters
-- and one map of marks; the state has lists of actions done.
use Rattle.std.specs.Prelude.{◌≡◌, ℕ, ◌+◌, Bool, Option, None, Some, option_map, List, length, map, slice_get}
use Rattle.pp_settings.specs.Limits.{most_slots}
use Rattle.pp_cursor.specs.Cursor as cursor
use Rattle.pp_cert.specs.Held.{holding_at}
use Rattle.pp_cert.specs.Accepted.{Acceptance}
use Rattle.pp_model.specs.declared.moves.Move.{Move}
use Rattle.pp_model.specs.declared.reply.Reply.{Reply}
use Rattle.pp_settings.specs.declared.span.Span.TheVariants.{Bounded}
use Rattle.pp_model.specs.Pool.{Stage, acting, writing, reading, leaving, Running, Flush as FlushInFlight, State, waiting}
use Rattle.pp_model.specs.Holders.{holdings, held_slots, is_in_flight}
use Rattle.pp_model.specs.Budget.{running_peaks, journal_need, bound}
use Rattle.pp_model.specs.Marks.{marks}
use Rattle.pp_model.specs.Moves.{asked_by, act_by, seat_of, outcome_of, reply_of, next_of}
use Rattle.pp_model.specs.Outcome.{Outcome, off_plan}
use Rattle.pp_model.specs.Laws.{IsActing}
use Rattle.pp_model.specs.declared.refusals.Cause.{Cause}
use Rattle.pp_plan.specs.declared.action.Ask.{Ask}
use Rattle.pp_model.specs.Reached.{IsReached}
use Rattle.pp_core.specs.declared.seat.Phase.{Phase}
use Rattle.pp_core.specs.declared.seat.Phase.TheVariants.{Acting, Writing, Reading, Leaving}
use Rattle.pp_core.specs.declared.seat.Seat.{Seat}
use Rattle.pp_core.specs.declared.table.Flush.{Flush}
use Rattle.pp_core.specs.Slots.{hold_at, hold_of}
use Rattle.pp_core.specs.Gathered.{BundlesFit}
use Rattle.pp_core.specs.Parts.{Parts}

-- ---- one worker

-- The slots that a leaving worker gave back aren't kept; they hold nothing.
abbrev pub FitsStage : Phase → Stage → Type 0
FitsStage Acting acting = Unit {0}
FitsStage (Writing slot page victim) (writing t x v) = (slot ≡ t) × (page ≡ x) × (victim ≡ v)
FitsStage (Reading slot page) (reading t x) = (slot ≡ t) × (page ≡ x)
FitsStage Leaving (leaving given) = Unit {0}
FitsStage _ _ = ⊥

pub record FitsRunning (plans : List Acceptance) (x : Seat) (r : Running) : Type 0 where
  pub number : x.plan ≡ r.number
  -- the plan stands at its place among those that are kept
  pub plan : slice_get plans x.place ≡ Some r.accepted
  -- the cursor stands for the actions that the worker has done, also while it leaves its plan
  pub cursor : cursor.StandsFor r.accepted.plan x.cursor r.done
  -- what the plan asks after them
  pub ask : x.ask ≡ asked_by r
  pub actions : x.actions ≡ length r.done
  -- how many slots hold something
  pub holds : x.holds ≡ held_slots most_slots (holdings r)
  -- a slot holds what the worker holds in it, of a bundle the page that was gathered last
  pub width : length x.slots ≡ most_slots
  pub slots : (slot : ℕ) → hold_at x.slots slot ≡ option_map hold_of (holding_at (holdings r) slot)
  pub phase : FitsStage x.phase r.stage

-- Both idle, or both in a plan.
abbrev pub FitsSeat : List Acceptance → Option Seat → Option Running → Type 0
FitsSeat plans None None = Unit {0}
FitsSeat plans None (Some r) = ⊥
FitsSeat plans (Some x) None = ⊥
FitsSeat plans (Some x) (Some r) = FitsRunning plans x r

pub record FitsCrew (plans : List Acceptance) (xs : List (Option Seat)) (ys : List (Option Running)) : Type 0 where
  pub size : length xs ≡ length ys
  pub each : (w : ℕ) (x : Option Seat) (y : Option Running) → slice_get xs w ≡ Some x → slice_get ys w ≡ Some y
      → FitsSeat plans x y

-- ---- plans

-- The plans that are kept, and of each plan that waits its place among them.
pub record PlansFit (plans : List Acceptance) (places : List ℕ) (s : State) : Type 0 where
  pub waits : map (slice_get plans) places ≡ map Some (waiting s)
  pub submitted : s.taken + length places ≡ length s.plans
  -- in a bounded life they are those that were submitted
  pub all : s.settings.span ≡ Bounded → plans ≡ s.plans

-- ---- the pool

abbrev pub in_flight_as : Flush → FlushInFlight
in_flight_as f = record { page = f.page; began = f.began }

pub record StandsFor (f : Parts) (s : State) : Type 0 where
  pub reached : IsReached s
  pub layout : f.layout ≡ s.settings.layout
  pub span : f.span ≡ s.settings.span
  pub flushes : f.flushes ≡ s.settings.flushes
  pub flushes_left : f.flushes_left ≡ s.flushes_left
  pub plans : PlansFit f.plans f.waiting s
  pub taken : f.taken ≡ s.taken
  pub seats : FitsCrew f.plans f.seats s.seats
  pub lists : f.lists ≡ s.lists
  pub marks : f.marks ≡ marks s
  pub bundles : BundlesFit f.bundles s
  pub pages : length f.in_flight ≡ length s.notes
  pub in_flight : (page : ℕ) (b : Bool) → slice_get f.in_flight page ≡ Some b → b ≡ is_in_flight s page
  pub flush : option_map in_flight_as f.flush ≡ s.flush
  pub running : f.running ≡ running_peaks s
  pub need : f.need ≡ journal_need s.settings s.plans
  pub budget : f.budget ≡ bound s

-- ---- what a core keeps, and what a move does

-- The parts stand for some state.
pub record IsKept (f : Parts) : Type 0 where
  pub state : State
  pub stands : StandsFor f state

-- The move is answered so and leads to these parts, from every state that the old parts stand for. The plans that are kept stay.
pub record Moves (old : Parts) (move : Move) (reply : Reply) (new : Parts) : Type 0 where
  pub stands : (s : State) → StandsFor old s → StandsFor new (next_of s move)
  pub replies : (s : State) → StandsFor old s → reply ≡ reply_of s move
  pub plans : (s : State) → StandsFor old s → new.plans ≡ old.plans

-- The move is refused with this reply.
abbrev pub Refuses : Parts → Move → Reply → Type 0
Refuses f move reply =
    (s : State) → StandsFor f s → outcome_of s move ≡ record { reply = reply; state = s }

-- ---- what a worker is at

-- Worker w acts, and its plan asks this.
abbrev pub Asks : Parts → ℕ → Ask → Type 0
Asks f w ask = (s : State) → StandsFor f s → (r : Running) × IsActing s w r × (asked_by r ≡ ask)

-- Worker w doesn't act, and this is why.
abbrev pub CannotAct : Parts → ℕ → Cause → Type 0
CannotAct f w cause =
    (s : State) (act : Running → Outcome) → StandsFor f s → act_by s act (seat_of s w) ≡ off_plan s cause
