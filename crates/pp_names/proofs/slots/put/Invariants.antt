-- What the search for an empty slot in put keeps true.
use Rattle.std.proofs.Common.{◌-◌, length}
use Rattle.pp_names.specs.Slots.{home_of, distance_of}
use Rattle.pp_names.proofs.SlotLemmas.{IsFull, IsPassed}
use Rattle.pp_names.proofs.slots.put.Given as goal

-- the slots from the key's home to the place are full
abbrev pub invariant-loop-place : goal.invariant-loop-place
invariant-loop-place l = IsPassed (length l.slots) (IsFull l.slots) (home_of (length l.keys) l.key) l.place

abbrev pub decreases-loop-place : goal.decreases-loop-place
decreases-loop-place l =
    length l.slots - distance_of (length l.slots) (home_of (length l.keys) l.key) l.place
