-- What the loop in close keeps true.
use Rattle.std.proofs.Common.{◌-◌, length}
use Rattle.pp_names.specs.Slots.{at, distance_of}
use Rattle.pp_names.proofs.SlotLemmas.{IsClosing}
use Rattle.pp_names.proofs.slots.close.Given as goal

abbrev pub invariant-loop-slots : goal.invariant-loop-slots
invariant-loop-slots l = IsClosing l.keys l.slots (at l.fn.slots l.start) l.start l.hole l.place

abbrev pub decreases-loop-slots : goal.decreases-loop-slots
decreases-loop-slots l = length l.slots - distance_of (length l.slots) l.start l.place
