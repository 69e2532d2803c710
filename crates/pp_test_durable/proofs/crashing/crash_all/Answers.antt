use Rattle.std.proofs.Common.{◌<◌, length, arith, subst, ◌∙◌}
use Rattle.pp_test_durable.specs.Leaves.{IsCrashed}
use Rattle.pp_test_durable.specs.Power.{no_leaf}
use Rattle.pp_test_durable.proofs.Steps.{crashed-more, within}
use Rattle.pp_test_durable.proofs.crashing.crash_all.Goals as goal

pub loop-page-preserved : goal.loop-page-preserved
loop-page-preserved c =
    let below : c.loop-page.page < length c.args.leaves.now = omega arith in
    let less : c.loop-page.page < length c.loop-page.leaves = omega arith in
    crashed-more c.loop-page.page c.args.leaves.now c.loop-page.leaves c.crash.new.self c.loop-page.invariant below
    (subst (λ l. IsCrashed l c.crash.new.self)
    (within c.loop-page.leaves c.loop-page.page c.index-leaves-page.result no_leaf less
    ∙ c.loop-page.invariant.others c.loop-page.page (omega arith))
    c.crash.ensures)
