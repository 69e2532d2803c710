-- What is left to show of Numbers::new: no page has a slot, and each slot is free.
use Rattle.std.proofs.Common.{◌≡◌, ◌+◌, ℕ, refl, arith}
use Rattle.std.specs.Prelude.{replicate}
use Rattle.pp_arc.proofs.SlotLemmas.{IsSlotted-new}
use Rattle.pp_arc.proofs.numbers.Numbers.new.Goals as goal

pub invariant_of-result : goal.invariant_of-result
invariant_of-result c =
    let slots : c.in_ok-vec.field-0.items ≡ replicate c.args.pages 0 =
    c.in_ok-vec.ensures.items_if_clones_equal (λ y e. e) in
    let pages : c.in_ok-vec-2.field-0.items ≡ replicate (c.args.most + 1) 0 =
    c.in_ok-vec-2.ensures.items_if_clones_equal (λ y e. e) in
    let numbers : c.in_ok-vec-3.field-0.items ≡ replicate (c.args.most + 1) 0 =
    c.in_ok-vec-3.ensures.items_if_clones_equal (λ y e. e) in
    IsSlotted-new _ c.args.most c.args.pages slots pages numbers c.in_ok-new.ensures.length c.in_ok-new.ensures.empty
    c.in_ok-new-2.ensures.length c.in_ok-new-2.ensures.empty c.loop-slot.invariant.size refl
    (λ k lt. c.loop-slot.invariant.filled k (omega arith))

pub returns-clause-slotted : goal.returns-clause-slotted
returns-clause-slotted c = invariant_of-result c
