use Rattle.std.proofs.Common.{◌∙◌, ◌+◌, sym, ap, subst, arith}
use Rattle.std.specs.Prelude.{vec_capacity}
use Rattle.pp_pool.specs.Lent.{AreOthers, TakesOut}
use Rattle.pp_pool.proofs.Bodies.{others_same}
use Rattle.pp_pool.proofs.TakenOut.{TakenBefore, none_taken, one_taken, all_taken}
use Rattle.pp_pool.proofs.held.Held.out_of.Goals.{in-Some, in_default}
use Rattle.pp_pool.proofs.held.Held.out_of.Goals as goal

pub loop-slot-preserved : goal.loop-slot-preserved
loop-slot-preserved g c =
    elim c.match-take_writer.branch [
      | in-Some w ↦
          one_taken c.loop-slot.slot c.args.guards.now c.loop-slot.guards c.loop-slot.out.items (vec_capacity c.loop-slot.out)
          c.loop-slot.invariant c.loop-slot-test.true c.take_writer.ensures.long w.in-Some.guard w.in-Some.ensures.guard
          w.in-Some.ensures.slot c.take_writer.new.guards w.in-Some.ensures.taken c.match-take_writer.out.items
          (ap (λ v. v.items) w.out-is ∙ w.push_reserved.ensures.items) (vec_capacity c.match-take_writer.out)
          (ap (λ v. vec_capacity v) w.out-is ∙ w.push_reserved.ensures.capacity)
      | in_default w ↦
          subst (λ v. TakenBefore (c.loop-slot.slot + 1) c.args.guards.now c.take_writer.new.guards v.items (vec_capacity v))
          (sym w.out-is)
          (none_taken c.loop-slot.slot c.args.guards.now c.loop-slot.guards c.loop-slot.out.items (vec_capacity c.loop-slot.out)
          c.loop-slot.invariant c.loop-slot-test.true c.take_writer.ensures.long (sym w.in_default.ensures.there)
          c.take_writer.new.guards w.in_default.ensures.none)
    ]

pub invariant_of-result : goal.invariant_of-result
invariant_of-result g c =
    let all = all_taken c.loop-slot.slot c.args.guards.now c.loop-slot.guards c.loop-slot.out.items (vec_capacity c.loop-slot.out)
    c.loop-slot.invariant (omega (arith, c.loop-slot.auto.slot-end, c.loop-slot-test.false)) in
    record {
      others = subst (λ ws. AreOthers ws c.loop-slot.out.items) (all.all ∙ sym c.requires.loan) (others_same c.loop-slot.out.items);
      places = c.loop-slot.invariant.capacity;
    }

pub returns-clause-out : goal.returns-clause-out
returns-clause-out g c =
    let all = all_taken c.loop-slot.slot c.args.guards.now c.loop-slot.guards c.loop-slot.out.items (vec_capacity c.loop-slot.out)
    c.loop-slot.invariant (omega (arith, c.loop-slot.auto.slot-end, c.loop-slot-test.false)) in
    subst (λ ws. TakesOut ws c.args.guards.now c.loop-slot.guards) (all.all ∙ sym c.requires.loan) all
