-- What is left to show of slot_of: the search comes to the name before it is round.
use Rattle.std.proofs.Common.{◌≢◌, length, refl, ◌∙◌}
use Rattle.pp_names.specs.Slots.{at, home_of}
use Rattle.pp_names.proofs.SlotLemmas.{read_slot, passed_next, less_next, not_without}
use Rattle.pp_names.proofs.slots.slot_of.Goals as goal

pub loop-place-smaller : goal.loop-place-smaller
loop-place-smaller c = less_next (length c.args.slots.now) (length c.args.slots.now) (λ j. at c.args.slots.now j ≢ c.args.name)
    (home_of (length c.args.keys.now) (at c.args.keys.now c.args.name)) c.loop-place.place c.next-place.result
    c.loop-place.invariant
    (λ z. c.loop-place-test.true (read_slot c.args.slots.now c.loop-place.place c.loop-place.invariant.low ∙ z))
    (not_without c.args.keys.now c.args.slots.now c.args.name c.requires.table c.requires.used) refl
    c.next-place.ensures.value

pub loop-place-preserved : goal.loop-place-preserved
loop-place-preserved c = rw c.next-place.ensures.value (passed_next (length c.args.slots.now)
    (λ j. at c.args.slots.now j ≢ c.args.name) (home_of (length c.args.keys.now) (at c.args.keys.now c.args.name))
    c.loop-place.place c.loop-place.invariant
    (λ z. c.loop-place-test.true (read_slot c.args.slots.now c.loop-place.place c.loop-place.invariant.low ∙ z))
    (not_without c.args.keys.now c.args.slots.now c.args.name c.requires.table c.requires.used))
