-- Turns: who can move, whatever is decided in the move, and who is next.
use Rattle.std.specs.Prelude.{◌≡◌, ◌<◌, ◌⊎◌, ℕ, Bool, true, false, not, nat_lt, Option, None, Some, option_map, IsSome}
use Rattle.std.specs.Prelude.{[]}
use Rattle.std.specs.Prelude.{length, position}
use Rattle.std.specs.Option.{option_or}
use Rattle.pp_plan.specs.declared.action.Action.{Action}
use Rattle.pp_plan.specs.declared.action.Action.TheVariants as action
use Rattle.pp_plan.specs.declared.action.Ask.{Ask}
use Rattle.pp_plan.specs.declared.action.Ask.TheVariants as ask
use Rattle.pp_plan.specs.PlanTraces.{PlanAsks}
use Rattle.pp_cert.specs.Held.{holding_at}
use Rattle.pp_model.specs.declared.moves.Move.{Move}
use Rattle.pp_model.specs.declared.moves.Move.TheVariants as move
use Rattle.pp_model.specs.declared.moves.Came.{Came}
use Rattle.pp_model.specs.declared.turn.Turn.{Turn}
use Rattle.pp_model.specs.declared.turn.Turn.TheVariants.{Device, FlushDevice, Act, Take}
use Rattle.pp_model.specs.Pool.{Stage, acting, writing, reading, leaving, Running, Flush, State}
use Rattle.pp_model.specs.Holders.{page_in, holdings}
use Rattle.pp_model.specs.Using.{goes_with}
use Rattle.pp_model.specs.Moves.{asked_by, seat_of, IsPossible}

-- ---- open turns

-- After the actions that the worker has done, its plan asks this one.
abbrev pub Asks : Running → Action → Type 0
Asks r a = PlanAsks r.accepted.plan r.done a

-- The move by which worker w does an action of its plan.
abbrev pub move_for : ℕ → Action → Move
move_for w (action.Fix slot page) = move.Fix w page
move_for w (action.Unfix slot) = move.Unfix w
move_for w (action.Latch slot m) = move.Latch w
move_for w (action.Unlatch slot) = move.Unlatch w
move_for w (action.Gather slot page) = move.Fix w page
move_for w (action.Scatter slot) = move.Unfix w
move_for w (action.Choose i) = move.Choose w i

-- A device works for the worker, and whatever it gives is possible.
abbrev pub CanAnswer : State → ℕ → Stage → Type 0
CanAnswer s w acting = ⊥
CanAnswer s w (writing slot page victim) = (ok : Bool) → IsPossible s (move.WriteDone w ok)
CanAnswer s w (reading slot page) = (came : Came) → IsPossible s (move.ReadDone w came)
CanAnswer s w (leaving given) = ⊥

-- The worker's plan asks an action, and each that it asks is possible.
pub record CanGoOn (s : State) (w : ℕ) (r : Running) : Type 0 where
  pub some : (a : Action) × Asks r a
  pub each : (a : Action) → Asks r a → IsPossible s (move_for w a)

-- Each slot that the worker still holds can be given back; where it holds none, it can finish.
pub record CanLeave (s : State) (w : ℕ) (r : Running) : Type 0 where
  pub each : (slot : ℕ) → IsSome (holding_at (holdings r) slot) → IsPossible s (move.Unwind w slot)
  pub last : holdings r ≡ [] → IsPossible s (move.Finish w)

abbrev pub CanAct : State → ℕ → Running → Stage → Type 0
CanAct s w r acting = CanGoOn s w r ⊎ IsPossible s (move.Finish w)
CanAct s w r (writing slot page victim) = ⊥
CanAct s w r (reading slot page) = ⊥
CanAct s w r (leaving given) = CanLeave s w r

-- The turn is open: its moves are possible, whatever is decided in them.
abbrev pub IsOpen : State → Turn → Type 0
IsOpen s (Device w) = (r : Running) × (seat_of s w ≡ Some (Some r)) × CanAnswer s w r.stage
IsOpen s FlushDevice = (ok : Bool) → IsPossible s (move.FlushDone ok)
IsOpen s (Act w) = (r : Running) × (seat_of s w ≡ Some (Some r)) × CanAct s w r r.stage
IsOpen s (Take w) = IsPossible s (move.Take w)

-- ---- the next turn

-- Whether an errand is out for the seat's worker.
abbrev pub is_out : Stage → Bool
is_out acting = false
is_out (writing slot page victim) = true
is_out (reading slot page) = true
is_out (leaving given) = false

abbrev pub has_errand : Option Running → Bool
has_errand None = false
has_errand (Some r) = is_out r.stage

-- Whether a worker is stopped by a latch: its plan asks one that doesn't go with those that stand on the page.
abbrev pub is_stopped_at : State → Running → Ask → Bool
is_stopped_at s r (ask.Latch slot m) = not (goes_with s m (page_in r slot))
is_stopped_at s r _ = false

-- Whether the worker runs its plan and isn't stopped by a latch, or leaves its plan.
abbrev pub goes_on : State → Running → Stage → Bool
goes_on s r acting = not (is_stopped_at s r (asked_by r))
goes_on s r (writing slot page victim) = false
goes_on s r (reading slot page) = false
goes_on s r (leaving given) = true

abbrev pub can_act : State → Option Running → Bool
can_act s None = false
can_act s (Some r) = goes_on s r r.stage

abbrev pub is_idle : Option Running → Bool
is_idle None = true
is_idle (Some r) = false

-- The least worker whose seat passes the test.
abbrev pub first_worker : State → (Option Running → Bool) → Option ℕ
first_worker s test = position test s.seats

abbrev pub flush_turn : Option Flush → Option Turn
flush_turn None = None
flush_turn (Some f) = Some FlushDevice

-- Where a plan waits.
abbrev pub take_turn : State → (waits : Bool) → Option Turn
take_turn s true = option_map Take (first_worker s is_idle)
take_turn s false = None

-- The turn that comes next, the first of these that there is: the least worker's with an errand out; the flusher's; the
-- least worker's that runs or leaves its plan and isn't stopped by a latch; the least idle worker's, where a plan
-- waits.
abbrev pub next_turn : State → Option Turn
next_turn s =
    option_or (option_map Device (first_worker s has_errand))
    (option_or (flush_turn s.flush)
    (option_or (option_map Act (first_worker s (can_act s))) (take_turn s (nat_lt s.taken (length s.plans)))))

-- Some plan waits or isn't finished, or a flush is in flight: a plan waits, some worker isn't idle, or there is a
-- flush.
abbrev pub IsUnderWay : State → Type 0
IsUnderWay s =
    (s.taken < length s.plans) ⊎ ((w : ℕ) × (r : Running) × (seat_of s w ≡ Some (Some r))) ⊎ IsSome s.flush
