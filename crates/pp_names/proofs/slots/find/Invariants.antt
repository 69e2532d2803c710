-- What the search for a key in find keeps true.
use Rattle.std.proofs.Common.{◌-◌, length}
use Rattle.pp_names.specs.Slots.{home_of, distance_of}
use Rattle.pp_names.proofs.SlotLemmas.{IsOther, IsPassed}
use Rattle.pp_names.proofs.slots.find.Given as goal

-- no slot from the key's home to the place is empty, or has a name of this key
abbrev pub invariant-loop-place : goal.invariant-loop-place
invariant-loop-place l =
    IsPassed (length l.slots) (IsOther l.keys l.slots l.key) (home_of (length l.keys) l.key) l.place

abbrev pub decreases-loop-place : goal.decreases-loop-place
decreases-loop-place l =
    length l.slots - distance_of (length l.slots) (home_of (length l.keys) l.key) l.place
