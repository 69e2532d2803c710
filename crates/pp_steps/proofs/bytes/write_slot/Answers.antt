use Rattle.std.proofs.Common.{◌≡◌, ◌∙◌, ◌+◌, ◌-◌, Some, length, sym, ap}
use Rattle.std.proofs.lemmas.Bool.{false≢true}
use borrow.Rule.Slice.PartMut.{put_mid}
use Rattle.pp_vault.specs.declared.guards.Guard.TheVariants as guard
use Rattle.pp_vault.specs.Holding.{placed, slot_by}
use Rattle.pp_vault.specs.Lending.{with_body}
use Rattle.pp_steps.proofs.Bodies.{guard_back, keeps_slot, writes_slot}
use Rattle.pp_steps.proofs.bytes.write_slot.Goals as goal
use Rattle.pp_steps.proofs.bytes.write_slot.Goals.{then-fits, else-fits}

pub returns-then-fits-2-clause-ok : goal.returns-then-fits-2-clause-ok
returns-then-fits-2-clause-ok c =
    let g = c.in-Some-Write.guard in
    let there : placed c.args.guards.now c.args.slot ≡ Some (guard.Write g) =
    sym c.take.ensures.guard ∙ c.in-Some-Write.is ∙ ap (λ x. Some x) c.in-Some-Write.field-0-is in
    elim c.if-fits.branch [
      | then-fits w ↦
          let other : c.if-fits.guard
          ≡ record g {
            image = with_body g.image (put_mid c.args.from (c.args.from + length c.args.bytes.now - c.args.from)
                c.body_mut-body.result.now w.copy_from_slice.new.self);
          } = w.guard-is in
          writes_slot c.args.guards.now c.take.new.self c.put.new.guards c.args.slot c.args.from c.body_mut-body.result.now
          w.copy_from_slice.new.self c.args.bytes.now g c.if-fits.guard there c.in-Some-Write.ensures.taken
          (ap slot_by (sym c.in-Some-Write.field-0-is) ∙ c.in-Some-Write.ensures.slot) c.body_mut-body.ensures.body
          w.copy_from_slice.ensures.after other c.put.ensures
      | else-fits w ↦ absurd (false≢true (sym w.if-fits.false ∙ c.if-fits-2.true))
    ]

pub returns-else-fits-2-clause-err : goal.returns-else-fits-2-clause-err
returns-else-fits-2-clause-err c =
    let g = c.in-Some-Write.guard in
    let there : placed c.args.guards.now c.args.slot ≡ Some (guard.Write g) =
    sym c.take.ensures.guard ∙ c.in-Some-Write.is ∙ ap (λ x. Some x) c.in-Some-Write.field-0-is in
    elim c.if-fits.branch [
      | then-fits w ↦ absurd (false≢true (sym c.if-fits-2.false ∙ w.if-fits.true))
      | else-fits w ↦
          keeps_slot c.args.guards.now c.take.new.self c.put.new.guards c.args.slot c.body_mut-body.result.now g
          c.if-fits.guard there c.in-Some-Write.ensures.taken
          (ap slot_by (sym c.in-Some-Write.field-0-is) ∙ c.in-Some-Write.ensures.slot) c.body_mut-body.ensures.body w.guard-is
          c.put.ensures
    ]

pub returns-in-Some-clause-err : goal.returns-in-Some-clause-err
returns-in-Some-clause-err c =
    guard_back c.args.guards.now c.take.new.self c.put-in-Some.new.guards c.args.slot (slot_by c.in-Some.guard)
    c.in-Some.guard (sym c.in-Some.is ∙ c.take.ensures.guard) c.in-Some.ensures.taken c.in-Some.ensures.slot
    c.put-in-Some.ensures
