-- What is left to show of put.
use Rattle.std.proofs.Common.{length, refl}
use Rattle.pp_names.specs.Slots.{home_of}
use Rattle.pp_names.proofs.SlotLemmas.{IsFull, read_full, read_empty, passed_next, less_next, not_all, table_more}
use Rattle.pp_names.proofs.slots.put.Goals as goal

pub loop-place-smaller : goal.loop-place-smaller
loop-place-smaller c = less_next (length c.args.slots.now) (length c.args.slots.now) (IsFull c.args.slots.now)
    (home_of (length c.args.keys.now) c.args.key) c.loop-place.place c.next-place.result c.loop-place.invariant
    (read_full c.args.slots.now c.loop-place.place c.loop-place.invariant.low c.loop-place-test.true)
    (not_all c.args.keys.now c.args.slots.now c.requires.table.size c.requires.table.count) refl c.next-place.ensures.value

pub loop-place-preserved : goal.loop-place-preserved
loop-place-preserved c = rw c.next-place.ensures.value (passed_next (length c.args.slots.now) (IsFull c.args.slots.now)
    (home_of (length c.args.keys.now) c.args.key) c.loop-place.place c.loop-place.invariant
    (read_full c.args.slots.now c.loop-place.place c.loop-place.invariant.low c.loop-place-test.true)
    (not_all c.args.keys.now c.args.slots.now c.requires.table.size c.requires.table.count))

pub returns : goal.returns
returns c = record {
  table = table_more c.args.keys.now c.args.slots.now c.args.name c.args.key c.loop-place.place c.requires.table
      c.requires.name c.requires.unused c.requires.key
      (read_empty c.args.slots.now c.loop-place.place c.loop-place.invariant.low c.loop-place-test.false)
      c.loop-place.invariant;
}
