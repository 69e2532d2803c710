-- Who waits to start.
use Rattle.std.specs.Prelude.{◌≡◌, ℕ, ◌+◌, ◌-◌, ◌<◌, ◌==◌, ◌&&◌, nat_lt, if◌then◌else◌, Bool, true, Option, None, Some, is_none, List, length, slice_get, slice_set}
use Rattle.pp_steps.specs.declared.pass.Pass.{Pass}
use Rattle.pp_steps.specs.declared.line.Waiter.{Waiter}
use Rattle.pp_steps.specs.declared.line.LinePlace.{LinePlace}

-- The bell of the first place, and at place k how many waited there, and who does.
pub record Parts : Type 0 where
  pub first : ℕ
  pub places : List LinePlace

-- What holds of each: there are so many places, and their bells are small numbers.
pub record IsLine (first count : ℕ) (places : List LinePlace) : Type 0 where
  pub long : length places ≡ count
  pub bells : first + count < 65536

-- The one that has this turn of a place, if it waits.
abbrev pub waiter_in : Option LinePlace → (turn : ℕ) → Option Waiter
waiter_in None turn = None
waiter_in (Some p) turn = if p.turn == turn then p.waiter else None

-- The one that waits with this pass.
abbrev pub waiter_at : Parts → Pass → Option Waiter
waiter_at l pass =
    if nat_lt pass.bell l.first then None else waiter_in (slice_get l.places (pass.bell - l.first)) pass.turn

-- Whether nobody waits in a place, and it has had fewer than can be told.
abbrev pub is_open : LinePlace → Bool
is_open p = is_none p.waiter && nat_lt p.turn 281474976710655

-- The place is there, and is free.
pub record IsFreeAt (places : List LinePlace) (at : ℕ) : Type 0 where
  pub place : LinePlace
  pub there : slice_get places at ≡ Some place
  pub free : is_open place ≡ true

-- No place is free.
abbrev pub HasNoFree : List LinePlace → Type 0
HasNoFree places = (at : ℕ) → ¬ IsFreeAt places at

-- The next pass of a place that is free: nobody had it before.
pub record IsNextPass (l : Parts) (pass : Pass) : Type 0 where
  pub at : ℕ
  pub place : LinePlace
  pub there : slice_get l.places at ≡ Some place
  pub free : place.waiter ≡ None
  pub bell : pass.bell ≡ l.first + at
  pub turn : pass.turn ≡ place.turn + 1

-- This one waits there, with this turn.
abbrev pub put_at : Parts → (at turn : ℕ) → Waiter → Parts
put_at l at turn waiter =
    record l { places = slice_set l.places at (record { turn = turn; waiter = Some waiter }) }

-- The one with this pass waits no more.
abbrev pub without : Parts → Pass → Parts
without l pass =
    record l { places = slice_set l.places (pass.bell - l.first) (record { turn = pass.turn; waiter = None }) }

-- The one with this ticket waits in this place.
pub record HasTicket (places : List LinePlace) (ticket at : ℕ) : Type 0 where
  pub place : LinePlace
  pub there : slice_get places at ≡ Some place
  pub waiter : Waiter
  pub waits : place.waiter ≡ Some waiter
  pub ticket_is : waiter.ticket ≡ ticket

-- The bell of the place in which the one with this ticket waits.
pub record IsBellOf (l : Parts) (ticket bell : ℕ) : Type 0 where
  pub at : ℕ
  pub bell_is : bell ≡ l.first + at
  pub has : HasTicket l.places ticket at
