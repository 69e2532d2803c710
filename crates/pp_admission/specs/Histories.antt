-- What calls make of a queue, one behind the other, and how often one that waits is overtaken by them.
use Rattle.std.specs.Prelude.{◌≡◌, ℕ, ◌<◌, ◌≤◌, Bool, false, nat_lt, Some, List, [], ◌∷◌, count_by}
use Rattle.pp_admission.specs.declared.waiting.Waiting.{Waiting}
use Rattle.pp_admission.specs.Queues.{Parts, waiting_at, next_in, IsFull}
use Rattle.pp_admission.specs.Queues.{entered, started, left, set_asleep, all_woken}

-- ---- who may start, in other words

-- The one with this ticket waits, its peak fits the room, and each one before it doesn't fit and may be overtaken.
pub record IsNext (q : Parts) (room ticket : ℕ) : Type 0 where
  pub one : Waiting
  pub waits : waiting_at q ticket ≡ Some one
  pub fits : one.peak ≤ room
  pub before : (t : ℕ) (other : Waiting) → waiting_at q t ≡ Some other → t < ticket
      → (room < other.peak) × (other.overtaken < q.bypass)

-- ---- calls, one behind the other

-- What a call does: one comes; one starts while so many pages are free; one leaves; one falls asleep or is woken;
-- everybody is woken.
pub data Call : Type 0 where
  Enters : (peak : ℕ) → Call
  Starts : (ticket room : ℕ) → Call
  Leaves : (ticket : ℕ) → Call
  Marks : (ticket : ℕ) (asleep : Bool) → Call
  WakesAll : Call

-- The queue behind a call.
abbrev pub after : Parts → Call → Parts
after q (Enters peak) = entered q peak
after q (Starts ticket room) = started q ticket
after q (Leaves ticket) = left q ticket
after q (Marks ticket asleep) = set_asleep q ticket asleep
after q WakesAll = all_woken q

-- Whether a call may do this: none comes to a full queue, and none starts but who may.
abbrev pub IsPossible : Parts → Call → Type 0
IsPossible q (Enters peak) = ¬ IsFull q
IsPossible q (Starts ticket room) = next_in q room ≡ Some ticket
IsPossible q _ = Unit {0}

-- The queue behind these calls.
abbrev pub after_all : Parts → List Call → Parts
after_all q [] = q
after_all q (c ∷ cs) = after_all (after q c) cs

-- Whether calls may do these things, one behind the other.
abbrev pub ArePossible : Parts → List Call → Type 0
ArePossible q [] = Unit {0}
ArePossible q (c ∷ cs) = IsPossible q c × ArePossible (after q c) cs

-- Whether the call starts one that came after this ticket.
abbrev pub overtakes : (ticket : ℕ) → Call → Bool
overtakes ticket (Starts other room) = nat_lt ticket other
overtakes ticket _ = false

-- How many of these calls start one that came after this ticket.
abbrev pub overtakings : (ticket : ℕ) → List Call → ℕ
overtakings ticket cs = count_by (overtakes ticket) cs
