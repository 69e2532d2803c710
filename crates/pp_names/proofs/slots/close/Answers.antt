-- What is left to show of close.
use Rattle.std.proofs.Common.{◌≡◌, length, arith}
use Rattle.pp_names.specs.Slots.{at}
use Rattle.pp_names.proofs.SlotLemmas.{IsFull, read_full, read_empty, read_key, less_next, not_all}
use Rattle.pp_names.proofs.SlotLemmas.{closing_first, closing_kept, closing_moved, closing_last}
use Rattle.pp_names.proofs.slots.close.Goals as goal
use Rattle.pp_names.proofs.slots.close.Goals.{then-distance, else-distance}

pub loop-slots-init : goal.loop-slots-init
loop-slots-init c = rw c.next-place.ensures.value
    (closing_first c.args.keys.now c.args.slots.now c.args.start c.requires.table c.requires.full)

pub bounds-keys-name : goal.bounds-keys-name
bounds-keys-name c = (read_key c.args.keys.now c.loop-slots.slots c.loop-slots.place c.loop-slots.invariant.holed.named
    c.loop-slots.invariant.passed.low c.loop-slots-test.true).below

pub loop-slots-smaller : goal.loop-slots-smaller
loop-slots-smaller c =
    let same : length c.if-distance.slots ≡ length c.loop-slots.slots = omega (arith, c.if-distance.auto, c.loop-slots.auto) in
    less_next (length c.loop-slots.slots) (length c.if-distance.slots) (IsFull c.loop-slots.slots) c.args.start
    c.loop-slots.place c.next-place-in-loop-slots.result c.loop-slots.invariant.passed
    (read_full c.loop-slots.slots c.loop-slots.place c.loop-slots.invariant.passed.low c.loop-slots-test.true)
    (not_all c.args.keys.now c.loop-slots.slots c.loop-slots.invariant.size c.loop-slots.invariant.count) same
    c.next-place-in-loop-slots.ensures.value

pub loop-slots-preserved : goal.loop-slots-preserved
loop-slots-preserved c = rw c.next-place-in-loop-slots.ensures.value (elim c.if-distance.branch [
  | then-distance w ↦ closing_moved c.args.keys.now c.loop-slots.slots c.if-distance.slots (at c.args.slots.now c.args.start)
      c.args.start c.loop-slots.hole c.if-distance.hole c.loop-slots.place c.home-first.result c.distance.result
      c.distance-in-loop-slots.result c.loop-slots.invariant c.loop-slots-test.true c.home-first.ensures.value
      c.distance.ensures.value c.distance-in-loop-slots.ensures.value w.if-distance.true w.slots-is w.hole-is
  | else-distance w ↦ closing_kept c.args.keys.now c.loop-slots.slots c.if-distance.slots (at c.args.slots.now c.args.start)
      c.args.start c.loop-slots.hole c.if-distance.hole c.loop-slots.place c.home-first.result c.distance.result
      c.distance-in-loop-slots.result c.loop-slots.invariant c.loop-slots-test.true c.home-first.ensures.value
      c.distance.ensures.value c.distance-in-loop-slots.ensures.value w.if-distance.false w.slots-is w.hole-is
])

pub returns : goal.returns
returns c = record {
  table = closing_last c.args.keys.now c.loop-slots.slots (at c.args.slots.now c.args.start) c.args.start c.loop-slots.hole
      c.loop-slots.place c.loop-slots.invariant c.requires.table.fits
      (c.requires.table.laid.named c.args.start c.requires.full)
      (read_empty c.loop-slots.slots c.loop-slots.place c.loop-slots.invariant.passed.low c.loop-slots-test.false);
}
