-- Driving a pool to its end, by the moves of the turns that come next, as a host decides them.
use Rattle.std.specs.Prelude.{◌≡◌, ◌<◌, ◌≤◌, ◌⊎◌, ℕ, Bool, true, Option, None, Some, IsSome, List, [], ◌∷◌}
use Rattle.std.specs.Prelude.{length, slice_get}
use Rattle.pp_settings.specs.declared.extent.Extent.{Extent}
use Rattle.pp_settings.specs.Layout.{Geometry}
use Rattle.pp_plan.specs.declared.action.Ask.{Ask}
use Rattle.pp_plan.specs.declared.action.Ask.TheVariants as ask
use Rattle.pp_cert.specs.Held.{Holdings, holding_at}
use Rattle.pp_model.specs.declared.moves.Came.{Came}
use Rattle.pp_model.specs.declared.moves.Move.{Move}
use Rattle.pp_model.specs.declared.moves.Move.TheVariants as move
use Rattle.pp_model.specs.declared.turn.Turn.{Turn}
use Rattle.pp_model.specs.declared.turn.Turn.TheVariants.{Device, FlushDevice, Act, Take}
use Rattle.pp_model.specs.Pool.{Stage, acting, writing, reading, leaving, Running, Flush, State}
use Rattle.pp_model.specs.Holders.{holdings}
use Rattle.pp_model.specs.Laws.{endings_of}
use Rattle.pp_model.specs.Moves.{asked_by, seat_of, next_of, IsPossible}
use Rattle.pp_model.specs.Runs.{state_after}
use Rattle.pp_model.specs.Turns.{IsOpen, CanLeave, next_turn}
use Rattle.pp_core.specs.Parts.{Parts}
use Rattle.pp_core.specs.StandsFor.{StandsFor}
use Rattle.pp_core.specs.Queries.{leaves}

-- ---- hosts

-- What a host's answers mean: for each of its five questions, from the host as it is asked, with these numbers, which
-- answer it can give, and the host as it is then.
pub record Host (H : Type 0) : Type 1 where
  -- a page of a region
  pub picks : H → (region first count page : ℕ) → H → Type 0
  -- a branch, of so many
  pub chooses : H → (count branch : ℕ) → H → Type 0
  -- what the device gives of a page
  pub reads : H → (page : ℕ) → Came → H → Type 0
  -- whether the device has written a victim back
  pub writes : H → (page : ℕ) → (ok : Bool) → H → Type 0
  -- whether the device has written the flusher's page
  pub flushes : H → (page : ℕ) → (ok : Bool) → H → Type 0

-- The host whose answers mean this.
abbrev pub host_of : {H : Type 0} → (H → (region first count page : ℕ) → H → Type 0)
    → (H → (count branch : ℕ) → H → Type 0) → (H → (page : ℕ) → Came → H → Type 0)
    → (H → (page : ℕ) → (ok : Bool) → H → Type 0) → (H → (page : ℕ) → (ok : Bool) → H → Type 0) → Host H
host_of picks chooses reads writes flushes =
    record { picks = picks; chooses = chooses; reads = reads; writes = writes; flushes = flushes }

-- ---- the move of a turn, as the host decides it

-- The move is this one, and the host isn't asked.
abbrev pub IsUnasked : {H : Type 0} → H → (only m : Move) → H → Type 0
IsUnasked h only m i = (m ≡ only) × (i ≡ h)

-- The device's answer to the errand of worker w: whether it has written the victim back, or what it gives of the page.
abbrev pub AnswersErrand : {H : Type 0} → Host H → (w : ℕ) → Stage → H → Move → H → Type 0
AnswersErrand host w acting h m i = ⊥
AnswersErrand host w (writing slot page victim) h m i =
    (ok : Bool) × host.writes h victim ok i × (m ≡ move.WriteDone w ok)
AnswersErrand host w (reading slot page) h m i =
    (came : Came) × host.reads h page came i × (m ≡ move.ReadDone w came)
AnswersErrand host w (leaving given) h m i = ⊥

-- The device's answer to the flusher: whether it has written the page that is being flushed.
abbrev pub AnswersFlush : {H : Type 0} → Host H → Option Flush → H → Move → H → Type 0
AnswersFlush host None h m i = ⊥
AnswersFlush host (Some f) h m i = (ok : Bool) × host.flushes h f.page ok i × (m ≡ move.FlushDone ok)

-- Worker w does what its plan asks: where a fix or a gather is asked, it fixes the page that the host picks of the region, whose
-- number, first page and count the host is told; or it goes on with the branch that the host chooses, of as many as there are. All else is
-- determined.
abbrev pub DoesAsked : {H : Type 0} → Host H → Geometry → (w : ℕ) → Ask → H → Move → H → Type 0
DoesAsked host g w (ask.Fix slot region) h m i =
    (e : Extent) × (page : ℕ) × (slice_get g.extents region ≡ Some e) × host.picks h region e.first e.count page i
    × (m ≡ move.Fix w page)
DoesAsked host g w (ask.Unfix slot) h m i = IsUnasked h (move.Unfix w) m i
DoesAsked host g w (ask.Latch slot mode) h m i = IsUnasked h (move.Latch w) m i
DoesAsked host g w (ask.Unlatch slot) h m i = IsUnasked h (move.Unlatch w) m i
DoesAsked host g w (ask.Gather slot region) h m i =
    (e : Extent) × (page : ℕ) × (slice_get g.extents region ≡ Some e) × host.picks h region e.first e.count page i
    × (m ≡ move.Fix w page)
DoesAsked host g w (ask.Scatter slot) h m i = IsUnasked h (move.Unfix w) m i
DoesAsked host g w (ask.Choose count) h m i =
    (branch : ℕ) × host.chooses h count branch i × (m ≡ move.Choose w branch)
DoesAsked host g w ask.End h m i = IsUnasked h (move.Finish w) m i

-- The least slot that holds a page.
pub record IsLeastHeld (hs : Holdings) (slot : ℕ) : Type 0 where
  pub holds : IsSome (holding_at hs slot)
  pub least : (other : ℕ) → IsSome (holding_at hs other) → slot ≤ other

-- Worker w, which leaves its plan, gives back the least slot that it still holds, or finishes where it holds none.
abbrev pub Leaves : (w : ℕ) → Holdings → Move → Type 0
Leaves w hs m = ((slot : ℕ) × IsLeastHeld hs slot × (m ≡ move.Unwind w slot)) ⊎ ((hs ≡ []) × (m ≡ move.Finish w))

-- Worker w runs its plan, or leaves it.
abbrev pub Acts : {H : Type 0} → Host H → Geometry → (w : ℕ) → Running → Stage → H → Move → H → Type 0
Acts host g w r acting h m i = DoesAsked host g w (asked_by r) h m i
Acts host g w r (writing slot page victim) h m i = ⊥
Acts host g w r (reading slot page) h m i = ⊥
Acts host g w r (leaving given) h m i = Leaves w (holdings r) m × (i ≡ h)

-- In this state the turn's move is m, as the host decides from h on, which is i then. The host is asked exactly one
-- question where something is left to decide, and else none.
abbrev pub Decides : {H : Type 0} → Host H → State → Turn → H → Move → H → Type 0
Decides host s (Device w) h m i =
    (r : Running) × (seat_of s w ≡ Some (Some r)) × AnswersErrand host w r.stage h m i
Decides host s FlushDevice h m i = AnswersFlush host s.flush h m i
Decides host s (Act w) h m i =
    (r : Running) × (seat_of s w ≡ Some (Some r)) × Acts host s.settings.layout w r r.stage h m i
Decides host s (Take w) h m i = IsUnasked h (move.Take w) m i

-- ---- the moves of the turns

-- The move is possible, and it is the one that the host decides for the turn that comes next.
pub record IsNextMove {H : Type 0} (host : Host H) (s : State) (h : H) (m : Move) (i : H) : Type 0 where
  pub possible : IsPossible s m
  pub turn : Turn
  pub next : next_turn s ≡ Some turn
  pub decided : Decides host s turn h m i

-- Each of the moves is the one that the host decides for the turn that comes next at its point, and possible there.
abbrev pub GoesByTurns : {H : Type 0} → Host H → State → H → List Move → H → Type 0
GoesByTurns host s h [] i = i ≡ h
GoesByTurns {H} host s h (m ∷ ms) i = (j : H) × IsNextMove host s h m j × GoesByTurns host (next_of s m) j ms i

-- So many moves, each of the turn that comes next and as the host decides it, lead from the state to the parts.
pub record Drains {H : Type 0} (host : Host H) (s : State) (h : H) (f : Parts) (count : ℕ) (i : H) : Type 0 where
  pub moves : List Move
  pub many : length moves ≡ count
  pub by_turns : GoesByTurns host s h moves i
  pub leads : StandsFor f (state_after s moves)

-- ---- the end

-- Every plan was ended, exactly once: none waits, and no worker has one. And no flush is in flight.
pub record IsAtRest (s : State) : Type 0 where
  pub none_waits : s.taken ≡ length s.plans
  pub all_idle : (w : ℕ) (x : Option Running) → seat_of s w ≡ Some x → x ≡ None
  pub all_ended : (number : ℕ) → number < length s.plans → endings_of s number ≡ 1
  pub no_flush : s.flush ≡ None

-- It holds of each state that the parts stand for.
abbrev pub Rests : Parts → Type 0
Rests f = (s : State) → StandsFor f s → IsAtRest s

-- ---- inside the core

-- The turn is open in each state that the parts stand for.
abbrev pub IsOpenIn : Parts → Turn → Type 0
IsOpenIn f turn = (s : State) → StandsFor f s → IsOpen s turn

-- The move is possible in each state that the parts stand for.
abbrev pub CanBeMade : Parts → Move → Type 0
CanBeMade f m = (s : State) → StandsFor f s → IsPossible s m

-- The turn's move is decided so in each state that the parts stand for.
abbrev pub DecidesIn : {H : Type 0} → Host H → Parts → Turn → H → Move → H → Type 0
DecidesIn host f turn h m i = (s : State) → StandsFor f s → Decides host s turn h m i

-- Worker w leaves its plan, and can give back each slot that it holds.
abbrev pub CanGo : Parts → (w : ℕ) → Type 0
CanGo f w =
    (s : State) → StandsFor f s
    → (r : Running) × (seat_of s w ≡ Some (Some r)) × CanLeave s w r × (leaves r.stage ≡ true)

-- Worker w leaves its plan, and this is its move.
abbrev pub LeavesIn : Parts → (w : ℕ) → Move → Type 0
LeavesIn f w m =
    (s : State) → StandsFor f s
    → (r : Running) × (seat_of s w ≡ Some (Some r)) × (leaves r.stage ≡ true) × Leaves w (holdings r) m
