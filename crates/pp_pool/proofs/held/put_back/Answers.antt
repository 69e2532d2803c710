use Rattle.std.proofs.Common.{◌∙◌, Some, ap, sym}
use Rattle.std.specs.Prelude.{slice_set}
use Rattle.std.proofs.lemmas.Bool.{false≢true}
use Rattle.pp_vault.specs.declared.guards.Guard.TheVariants as guard
use Rattle.pp_vault.specs.Holding.{is_free}
use Rattle.pp_pool.specs.Lent.{with_back}
use Rattle.pp_pool.proofs.TakenOut.{next_back}
use Rattle.pp_pool.proofs.held.put_back.Goals as goal

pub unreachable-requires : goal.unreachable-requires
unreachable-requires c =
    let n = next_back c.args.guards.now c.args.out.now.items c.loop-guard.out.items c.pop.new.self.items c.in-Some.guard
    c.loop-guard.invariant.left c.in-Some.ensures.items c.requires in
    absurd (false≢true (sym c.in-Err.ensures.err
    ∙ ap (λ ps. is_free ps c.in-Some.guard.slot) c.loop-guard.invariant.back ∙ n.finds))

pub loop-guard-preserved : goal.loop-guard-preserved
loop-guard-preserved c =
    let n = next_back c.args.guards.now c.args.out.now.items c.loop-guard.out.items c.pop.new.self.items c.in-Some.guard
    c.loop-guard.invariant.left c.in-Some.ensures.items c.requires in
    record {
      left = n.left_is;
      back =
          c.in-Ok.ensures.joined
          ∙ ap (λ ps. slice_set ps c.in-Some.guard.slot (Some (guard.Write c.in-Some.guard))) c.loop-guard.invariant.back
          ∙ ap (with_back c.args.guards.now) (sym n.back);
      capacity = c.pop.ensures.capacity ∙ c.loop-guard.invariant.capacity;
    }
