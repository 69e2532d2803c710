-- A queue of those that wait to start, in the order in which they came: who may start, and what each call leaves.
use Rattle.std.specs.Prelude.{◌≡◌, ℕ, ◌+◌, ◌-◌, ◌^◌, ◌≤◌, ◌⊎◌}
use Rattle.std.specs.Prelude.{◌==◌, nat_lt, nat_le, Bool, true, false, not, if◌then◌else◌}
use Rattle.std.specs.Prelude.{Option, None, Some, IsSomeAnd, is_some, option_map}
use Rattle.std.specs.Prelude.{List, [], ◌∷◌, ◌++◌, length, map, filter}
use Rattle.std.specs.List.{list_any}
use Rattle.pp_admission.specs.declared.waiting.Waiting.{Waiting}

-- Who waits, in the order in which they came; the ticket of the next that comes; how many may wait at once; and how
-- often one that waits may be overtaken.
pub record Parts : Type 0 where
  pub waiting : List Waiting
  pub next : ℕ
  pub most : ℕ
  pub bypass : ℕ

-- ---- what a queue tells

-- The one of these that has this ticket, if one has it.
abbrev pub holder : (ticket : ℕ) → List Waiting → Option Waiting
holder ticket [] = None
holder ticket (w ∷ ws) = if w.ticket == ticket then Some w else holder ticket ws

-- Who waits with this ticket, if one does.
abbrev pub waiting_at : Parts → (ticket : ℕ) → Option Waiting
waiting_at q ticket = holder ticket q.waiting

-- Whether one waits with this ticket.
abbrev pub is_waiting : Parts → (ticket : ℕ) → Bool
is_waiting q ticket = is_some (waiting_at q ticket)

-- The peak of the one that waits with this ticket.
abbrev pub peak_at : Parts → (ticket : ℕ) → Option ℕ
peak_at q ticket = option_map (λ w. w.peak) (waiting_at q ticket)

-- Whether this one is asleep, if there is one.
abbrev pub is_asleep : Option Waiting → Bool
is_asleep None = false
is_asleep (Some w) = w.is_asleep

-- Whether one waits with this ticket and is asleep.
abbrev pub is_asleep_at : Parts → (ticket : ℕ) → Bool
is_asleep_at q ticket = is_asleep (waiting_at q ticket)

-- The ticket of the one that came first, if one waits.
abbrev pub first_ticket : List Waiting → Option ℕ
first_ticket [] = None
first_ticket (w ∷ ws) = Some w.ticket

-- As many wait as may, or there is no ticket left.
abbrev pub IsFull : Parts → Type 0
IsFull q = (length q.waiting ≡ q.most) ⊎ (q.next ≡ 2 ^ 64 - 1)

-- ---- who may start

-- The ticket of the first of these whose peak fits the room, where each one before it may be overtaken once more.
abbrev pub next_among : (bypass room : ℕ) → List Waiting → Option ℕ
next_among bypass room [] = None
next_among bypass room (w ∷ ws) =
    if nat_le w.peak room then Some w.ticket
    else (if nat_lt w.overtaken bypass then next_among bypass room ws else None)

-- The ticket of the one that may start while so many pages are free.
abbrev pub next_in : Parts → (room : ℕ) → Option ℕ
next_in q room = next_among q.bypass room q.waiting

-- One waits with this ticket, and its peak fits the room.
abbrev pub Fits : Parts → (ticket room : ℕ) → Type 0
Fits q ticket room = IsSomeAnd (peak_at q ticket) (λ peak. peak ≤ room)

-- Each of these fits the room.
abbrev pub AllFit : (room : ℕ) → List Waiting → Type 0
AllFit room [] = Unit {0}
AllFit room (w ∷ ws) = (w.peak ≤ room) × AllFit room ws

-- The one that may start is not asleep: it was never refused, or was woken since.
abbrev pub NextIsAwake : Parts → (room : ℕ) → Type 0
NextIsAwake q room = (ticket : ℕ) → next_in q room ≡ Some ticket → is_asleep_at q ticket ≡ false

-- ---- what calls leave

-- The same queue, but these wait.
abbrev pub with_waiting : Parts → List Waiting → Parts
with_waiting q ws = record q { waiting = ws }

-- Nobody waits.
abbrev pub empty_queue : (most bypass : ℕ) → Parts
empty_queue most bypass = record { waiting = []; next = 0; most = most; bypass = bypass }

-- One that has just come: nobody overtook it, and it is awake.
abbrev pub newcomer : (ticket peak : ℕ) → Waiting
newcomer ticket peak = record { ticket = ticket; peak = peak; overtaken = 0; is_asleep = false }

-- One more waits, behind all others, with the next ticket.
abbrev pub entered : Parts → (peak : ℕ) → Parts
entered q peak = record q { waiting = q.waiting ++ newcomer q.next peak ∷ []; next = q.next + 1 }

-- All of these but the one with this ticket.
abbrev pub without : (ticket : ℕ) → List Waiting → List Waiting
without ticket ws = filter (λ w. not (w.ticket == ticket)) ws

-- The same, but overtaken once more if it came before this ticket.
abbrev pub overtaken_by : (ticket : ℕ) → Waiting → Waiting
overtaken_by ticket w = if nat_lt w.ticket ticket then record w { overtaken = w.overtaken + 1 } else w

-- The one with this ticket is gone, and nobody was overtaken.
abbrev pub left : Parts → (ticket : ℕ) → Parts
left q ticket = with_waiting q (without ticket q.waiting)

-- Each that came before this ticket was overtaken once more.
abbrev pub overtaken : Parts → (ticket : ℕ) → Parts
overtaken q ticket = with_waiting q (map (overtaken_by ticket) q.waiting)

-- The one with this ticket has started: it is gone, and each that came before it was overtaken once more.
abbrev pub started : Parts → (ticket : ℕ) → Parts
started q ticket = overtaken (left q ticket) ticket

-- The same, but asleep or awake as told if it has this ticket.
abbrev pub marked : (ticket : ℕ) → Bool → Waiting → Waiting
marked ticket asleep w = if w.ticket == ticket then record w { is_asleep = asleep } else w

-- The one with this ticket is asleep or awake, as told.
abbrev pub set_asleep : Parts → (ticket : ℕ) → Bool → Parts
set_asleep q ticket asleep = with_waiting q (map (marked ticket asleep) q.waiting)

-- The one with this ticket is asleep.
abbrev pub put_to_sleep : Parts → (ticket : ℕ) → Parts
put_to_sleep q ticket = set_asleep q ticket true

-- The one with this ticket is awake.
abbrev pub woken : Parts → (ticket : ℕ) → Parts
woken q ticket = set_asleep q ticket false

-- The same, but awake.
abbrev pub awakened : Waiting → Waiting
awakened w = record w { is_asleep = false }

-- Everybody is awake.
abbrev pub all_woken : Parts → Parts
all_woken q = with_waiting q (map awakened q.waiting)

-- Whether one of these is asleep.
abbrev pub any_asleep : List Waiting → Bool
any_asleep ws = list_any (λ w. w.is_asleep) ws

-- Whether somebody is asleep.
abbrev pub some_asleep : Parts → Bool
some_asleep q = any_asleep q.waiting

-- ---- what is always true of a queue

-- Their tickets rise strictly: the first is at least this one, and the last is below the other.
abbrev pub AreRising : (from below : ℕ) → List Waiting → Type 0
AreRising from below [] = from ≤ below
AreRising from below (w ∷ ws) = (from ≤ w.ticket) × AreRising (w.ticket + 1) below ws

-- None of these was overtaken more often than that.
abbrev pub AreWithin : (bypass : ℕ) → List Waiting → Type 0
AreWithin bypass [] = Unit {0}
AreWithin bypass (w ∷ ws) = (w.overtaken ≤ bypass) × AreWithin bypass ws

-- What is true of each queue.
pub record IsSound (q : Parts) : Type 0 where
  -- those that wait stand in the order of their tickets, all below the next
  pub rising : AreRising 0 q.next q.waiting
  -- no more wait than may
  pub few : length q.waiting ≤ q.most
  -- nobody was overtaken more often than may be
  pub within : AreWithin q.bypass q.waiting
