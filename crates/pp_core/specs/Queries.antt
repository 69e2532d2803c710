-- What a core tells of its state.
use Rattle.std.specs.Prelude.{ℕ, nat_lt, ◌&&◌, ◌==◌, Bool, true, false, if◌then◌else◌, Option, None, Some, option_map, unwrap_or}
use Rattle.std.specs.Prelude.{List, length}
use Rattle.pp_settings.specs.Limits.{most_slots}
use Rattle.pp_plan.specs.declared.action.Ask.{Ask}
use Rattle.pp_cert.specs.declared.note.Held.{Held}
use Rattle.pp_cert.specs.Held.{Holding, holding_at}
use Rattle.pp_cert.specs.Notes.{same_held}
use Rattle.pp_model.specs.Pool.{Stage, acting, writing, reading, leaving, Running, State}
use Rattle.pp_model.specs.Holders.{holdings}
use Rattle.pp_model.specs.Moves.{asked_by, seat_of}
use Rattle.pp_core.specs.declared.seat.Hold.{Hold}
use Rattle.pp_core.specs.declared.seat.Phase.{Phase}
use Rattle.pp_core.specs.declared.seat.Phase.TheVariants.{Acting, Writing, Reading, Leaving}
use Rattle.pp_core.specs.declared.seat.Seat.{Seat}
use Rattle.pp_core.specs.Slots.{hold_at}
use Rattle.pp_bundles.specs.Bundles.{PageStacks, pages_at}
use Rattle.pp_core.specs.Gathered.{bundle_place, bundle_in}

-- ---- of a worker in the state; there may be no worker of this number, and it may be idle

-- Whether worker w is idle.
abbrev pub idle_by : Option (Option Running) → Bool
idle_by None = false
idle_by (Some None) = true
idle_by (Some (Some r)) = false

abbrev pub is_idle : State → (w : ℕ) → Bool
is_idle s w = idle_by (seat_of s w)

-- Whether worker w leaves its plan after a fix that failed.
abbrev pub leaves : Stage → Bool
leaves acting = false
leaves (writing slot page victim) = false
leaves (reading slot page) = false
leaves (leaving given) = true

abbrev pub leaving_by : Option (Option Running) → Bool
leaving_by None = false
leaving_by (Some None) = false
leaving_by (Some (Some r)) = leaves r.stage

abbrev pub is_leaving : State → (w : ℕ) → Bool
is_leaving s w = leaving_by (seat_of s w)

-- What the plan of worker w asks next, where the worker acts in it.
abbrev pub ask_in : Running → Stage → Option Ask
ask_in r acting = Some (asked_by r)
ask_in r (writing slot page victim) = None
ask_in r (reading slot page) = None
ask_in r (leaving given) = None

abbrev pub ask_by : Option (Option Running) → Option Ask
ask_by None = None
ask_by (Some None) = None
ask_by (Some (Some r)) = ask_in r r.stage

abbrev pub ask_of : State → (w : ℕ) → Option Ask
ask_of s w = ask_by (seat_of s w)

-- A page of the slot's own, and how it is held; None of a bundle.
abbrev pub own_of : Option Holding → Option (ℕ × Held)
own_of None = None
own_of (Some h) = if h.bundled then None else Some (h.page, h.held)

-- The page that a slot of worker w holds, and how, where it holds one of its own.
abbrev pub held_by : Option (Option Running) → (slot : ℕ) → Option (ℕ × Held)
held_by None slot = None
held_by (Some None) slot = None
held_by (Some (Some r)) slot = own_of (holding_at (holdings r) slot)

abbrev pub held_of : State → (w slot : ℕ) → Option (ℕ × Held)
held_of s w slot = held_by (seat_of s w) slot

-- Whether what a slot holds, if it holds a page of its own, is this page, held so.
abbrev pub is_page_so : (page : ℕ) → Held → Option (ℕ × Held) → Bool
is_page_so page held None = false
is_page_so page held (Some h) = (h.0 == page) && same_held h.1 held

-- What the plan of worker w asks next, where the worker acts and its slot holds this page so.
abbrev pub ask_holding : State → (w slot page : ℕ) → Held → Option Ask
ask_holding s w slot page held = if is_page_so page held (held_of s w slot) then ask_of s w else None

-- The pages that a slot of worker w has as a bundle, the one that was gathered last first; none of any other slot. And how
-- many these are.
abbrev pub bundle_of : State → (w slot : ℕ) → List ℕ
bundle_of s w slot = bundle_in (unwrap_or (seat_of s w) None) slot

abbrev pub gathered_of : State → (w slot : ℕ) → ℕ
gathered_of s w slot = length (bundle_of s w slot)

-- What the plan of worker w asks, also while an errand is out for it; None where it leaves its plan or is in none.
abbrev pub pending_by : Option (Option Running) → Option Ask
pending_by None = None
pending_by (Some None) = None
pending_by (Some (Some r)) = if leaves r.stage then None else Some (asked_by r)

abbrev pub pending_of : State → (w : ℕ) → Option Ask
pending_of s w = pending_by (seat_of s w)

-- The errand that is out for worker w: the slot, the page that is loaded into it, and the victim that is written back
-- before, where one is.
abbrev pub errand_in : Stage → Option (ℕ × ℕ × Option ℕ)
errand_in acting = None
errand_in (writing slot page victim) = Some (slot, page, Some victim)
errand_in (reading slot page) = Some (slot, page, None)
errand_in (leaving given) = None

abbrev pub errand_by : Option (Option Running) → Option (ℕ × ℕ × Option ℕ)
errand_by None = None
errand_by (Some None) = None
errand_by (Some (Some r)) = errand_in r.stage

abbrev pub errand_of : State → (w : ℕ) → Option (ℕ × ℕ × Option ℕ)
errand_of s w = errand_by (seat_of s w)

-- ---- of the whole state

-- The page that is being flushed.
abbrev pub flushed_page : State → Option ℕ
flushed_page s = option_map (λ f. f.page) s.flush

-- How many plans were submitted.
abbrev pub plan_count : State → ℕ
plan_count s = length s.plans

-- ---- the same of what the core keeps of a worker

abbrev pub idle_seat : Option (Option Seat) → Bool
idle_seat None = false
idle_seat (Some None) = true
idle_seat (Some (Some x)) = false

abbrev pub leaves_at : Phase → Bool
leaves_at Acting = false
leaves_at (Writing slot page victim) = false
leaves_at (Reading slot page) = false
leaves_at Leaving = true

abbrev pub leaving_seat : Option (Option Seat) → Bool
leaving_seat None = false
leaving_seat (Some None) = false
leaving_seat (Some (Some x)) = leaves_at x.phase

abbrev pub pending_seat : Option (Option Seat) → Option Ask
pending_seat None = None
pending_seat (Some None) = None
pending_seat (Some (Some x)) = if leaves_at x.phase then None else Some x.ask

abbrev pub own_hold : Option Hold → Option (ℕ × Held)
own_hold None = None
own_hold (Some h) = if h.bundled then None else Some (h.page, h.held)

abbrev pub held_seat : Option (Option Seat) → (slot : ℕ) → Option (ℕ × Held)
held_seat None slot = None
held_seat (Some None) slot = None
held_seat (Some (Some x)) slot = own_hold (hold_at x.slots slot)

abbrev pub ask_at : Seat → Phase → Option Ask
ask_at x Acting = Some x.ask
ask_at x (Writing slot page victim) = None
ask_at x (Reading slot page) = None
ask_at x Leaving = None

abbrev pub ask_seat : Option (Option Seat) → Option Ask
ask_seat None = None
ask_seat (Some None) = None
ask_seat (Some (Some x)) = ask_at x x.phase

abbrev pub ask_holding_seat : Option (Option Seat) → (slot page : ℕ) → Held → Option Ask
ask_holding_seat o slot page held = if is_page_so page held (held_seat o slot) then ask_seat o else None

-- How many pages stand in the stack of the slot; 0 of a slot or a worker that isn't there.
abbrev pub gathered_in : PageStacks → (workers w slot : ℕ) → ℕ
gathered_in stacks workers w slot =
    if nat_lt slot most_slots && nat_lt w workers then length (pages_at stacks (bundle_place w slot)) else 0

abbrev pub errand_at : Phase → Option (ℕ × ℕ × Option ℕ)
errand_at Acting = None
errand_at (Writing slot page victim) = Some (slot, page, Some victim)
errand_at (Reading slot page) = Some (slot, page, None)
errand_at Leaving = None

abbrev pub errand_seat : Option (Option Seat) → Option (ℕ × ℕ × Option ℕ)
errand_seat None = None
errand_seat (Some None) = None
errand_seat (Some (Some x)) = errand_at x.phase
