-- What the search for a name in slot_of keeps true.
use Rattle.std.proofs.Common.{◌≢◌, ◌-◌, length}
use Rattle.pp_names.specs.Slots.{at, home_of, distance_of}
use Rattle.pp_names.proofs.SlotLemmas.{IsPassed}
use Rattle.pp_names.proofs.slots.slot_of.Given as goal

-- no slot from the home of the name's key to the place has the name
abbrev pub invariant-loop-place : goal.invariant-loop-place
invariant-loop-place l =
    IsPassed (length l.slots) (λ j. at l.slots j ≢ l.name) (home_of (length l.keys) (at l.keys l.name)) l.place

abbrev pub decreases-loop-place : goal.decreases-loop-place
decreases-loop-place l =
    length l.slots - distance_of (length l.slots) (home_of (length l.keys) (at l.keys l.name)) l.place
