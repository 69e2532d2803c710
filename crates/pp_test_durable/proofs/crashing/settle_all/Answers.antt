use Rattle.std.proofs.Common.{◌≡◌, ◌∙◌, ◌<◌, ◌≤◌, All, map, length, ap, sym, subst, rules}
use Rattle.pp_test_durable.specs.Leaves.{settled}
use Rattle.pp_test_durable.proofs.Steps.{settled-more, settled-lengths, settled-all}
use Rattle.pp_test_durable.proofs.crashing.settle_all.Goals as goal

pub loop-page-preserved : goal.loop-page-preserved
loop-page-preserved c =
    let below : c.loop-page.page < length c.args.leaves.now.items = search rules in
    settled-more c.args.leaves.now.items c.loop-page.leaves.items c.loop-page.page c.index_mut.result.now c.settle.new.self
    c.loop-page.invariant below (c.settle.ensures ∙ ap settled c.index_mut.ensures.value)

pub returns-clause-lengths : goal.returns-clause-lengths
returns-clause-lengths c len each =
    let past : length c.args.leaves.now.items ≤ c.loop-page.page = search rules in
    let all : c.loop-page.leaves.items ≡ map settled c.args.leaves.now.items =
    c.loop-page.invariant ∙ settled-all c.args.leaves.now.items c.loop-page.page past in
    subst (All (λ image. length image.shown ≡ len)) (sym all) (settled-lengths c.args.leaves.now.items len each)
