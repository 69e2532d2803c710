-- Places that are taken by turns.
use Rattle.std.specs.Prelude.{◌≡◌, ℕ, ◌+◌, ◌==◌, min, if◌then◌else◌, Option, None, Some, List, slice_get, slice_set, IfSome}
use Rattle.pp_steps.specs.declared.pass.Pass.{Pass}
use Rattle.pp_steps.specs.declared.seats.Place.{Place}

-- The one in a place, if anybody is.
abbrev pub who : {T : Type 0} → Option (Place T) → Option T
who None = None
who (Some p) = p.seated

-- The one that has this turn of a place, if it is there.
abbrev pub seated_in : {T : Type 0} → Option (Place T) → (turn : ℕ) → Option T
seated_in None turn = None
seated_in (Some p) turn = if p.turn == turn then p.seated else None

-- The one with this pass.
abbrev pub seated_at : {T : Type 0} → List (Place T) → Pass → Option T
seated_at places pass = seated_in (slice_get places pass.bell) pass.turn

-- In no place is anybody.
abbrev pub AllFree : {T : Type 0} → List (Place T) → Type 0
AllFree places = (k : ℕ) (p : Place _) → slice_get places k ≡ Some p → p.seated ≡ None

-- This holds of each, with the number of its place.
abbrev pub EachSeated : {T : Type 0} → (ℕ → T → Type 0) → List (Place T) → Type 0
EachSeated P places = (k : ℕ) → IfSome (who (slice_get places k)) (P k)

-- The place is there, and nobody is in it.
pub record IsFree {T : Type 0} (places : List (Place T)) (at : ℕ) : Type 0 where
  pub place : Place T
  pub there : slice_get places at ≡ Some place
  pub free : place.seated ≡ None

-- The next pass of a place that is free: nobody had it before, unless the place has given all that can be told.
pub record IsNextSeat {T : Type 0} (places : List (Place T)) (pass : Pass) : Type 0 where
  pub place : Place T
  pub there : slice_get places pass.bell ≡ Some place
  pub free : place.seated ≡ None
  pub turn : pass.turn ≡ min (place.turn + 1) 281474976710655

-- This one has the pass's turn of its place.
abbrev pub with_seat : {T : Type 0} → List (Place T) → Pass → T → List (Place T)
with_seat places pass one = slice_set places pass.bell (record { turn = pass.turn; seated = Some one })

-- Nobody has the pass's turn of its place any more.
abbrev pub without : {T : Type 0} → List (Place T) → Pass → List (Place T)
without places pass = slice_set places pass.bell (record { turn = pass.turn; seated = None })
