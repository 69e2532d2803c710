use Rattle.std.proofs.Common.{ap, ◌∙◌}
use Rattle.pp_model.specs.Pool.{State}
use Rattle.pp_vault.specs.Parts.{Parts}
use Rattle.pp_vault.specs.StandsFor.{StandsFor}
use Rattle.pp_simulate.specs.Simulating.{IsSimulateError}
use Rattle.pp_simulate.proofs.Submits.{handed_on, last_first, not_taken, one_more}
use Rattle.pp_simulate.proofs.simulation.take_all_in.Goals as goal

pub loop-plan-preserved : goal.loop-plan-preserved
loop-plan-preserved c =
    let taken = c.in_ok-take_in.ensures in
    record {
      so_far = λ s stands.
          one_more s c.args.plans.items c.loop-plan.vault c.take_in.new.vault _ _ c.in-Some.plan _
          (c.loop-plan.invariant.so_far s stands)
          (last_first c.loop-plan.waiting.items c.pop.new.self.items c.in-Some.plan c.in-Some.ensures.items)
          taken.ok taken.keeps;
      kept = taken.known;
      fit = λ h fits.
          c.hands_still_fit.ensures.submits _ _ _ _ c.loop-plan.invariant.kept taken.ok h
          (c.loop-plan.invariant.fit h fits);
      length = ap (λ (v : Parts). v.page_bytes) taken.ok.rest ∙ c.loop-plan.invariant.length;
    }

pub returns-in_err-take_in-clause-err : goal.returns-in_err-take_in-clause-err
returns-in_err-take_in-clause-err c =
    handed_on
    (λ error. (s : State) → StandsFor c.args.vault.now s → IsSimulateError s c.args.plans.items error)
    c.from_residual.result c.in_err-take_in.field-0.0 c.from_residual.ensures.1
    (λ s stands. not_taken s c.args.plans.items c.loop-plan.vault _ _ c.in-Some.plan _
    (c.loop-plan.invariant.so_far s stands)
    (last_first c.loop-plan.waiting.items c.pop.new.self.items c.in-Some.plan c.in-Some.ensures.items)
    c.in_err-take_in.ensures.error)
