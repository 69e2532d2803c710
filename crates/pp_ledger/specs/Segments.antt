-- What clauses see of a segment of a journal.
use Rattle.std.specs.Prelude.{ℕ, ◌+◌, ◌==◌, ◌&&◌, nat_le, Bool, Option, List, [], ◌∷◌, ◌++◌, length}
use Rattle.pp_model.specs.declared.event.Event.{Event}
use Rattle.pp_model.specs.declared.event.Event.TheVariants.{Submit, Step}
use Rattle.pp_pool.specs.Requests.{events_in}

-- A part of the journal of an endless life.
pub record Segment : Type 0 where
  -- what was done in it, the first event first
  pub events : List Event
  -- of each submit among them the plan that was submitted, in order: its place among those that are prepared
  pub prepared : List ℕ
  -- how many segments of the life were taken out before it
  pub number : ℕ
  -- how many plans were submitted in the life before it
  pub plans_before : ℕ
  -- how many events it has memory for
  pub capacity : ℕ

-- Nothing was noted in it yet, and so many segments and so many plans come before it.
abbrev pub begun : (capacity number plans_before : ℕ) → Segment
begun capacity number plans_before =
    record { events = []; prepared = []; number = number; plans_before = plans_before; capacity = capacity }

-- Nothing was noted in it, and nothing came before it.
abbrev pub empty_segment : (capacity : ℕ) → Segment
empty_segment capacity = begun capacity 0 0

-- Whether there is no memory for one event more.
abbrev pub is_full : Segment → Bool
is_full g = nat_le g.capacity (length g.events)

-- Whether a ledger can go on in it: nothing was noted in it, and it has memory for an event.
abbrev pub is_ready : Segment → Bool
is_ready g = (length g.events == 0) && nat_le 1 g.capacity

-- How many of the events are submits.
abbrev pub count_submits : List Event → ℕ
count_submits [] = 0
count_submits (Submit k ∷ es) = 1 + count_submits es
count_submits (Step m reply ∷ es) = count_submits es

-- ---- what is noted in it

-- The segment with this event behind the others, if one.
abbrev pub with_event : Segment → Option Event → Segment
with_event g e = record g { events = g.events ++ events_in e }

-- The segment with the submit of this number behind the others, of the plan that is prepared at this place.
abbrev pub with_submit : Segment → (number place : ℕ) → Segment
with_submit g number place =
    record g { events = g.events ++ Submit number ∷ []; prepared = g.prepared ++ place ∷ [] }

-- The same under these numbers: so many segments and so many plans come before it.
abbrev pub numbered : Segment → (number plans_before : ℕ) → Segment
numbered g number plans_before = record g { number = number; plans_before = plans_before }
