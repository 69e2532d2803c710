-- What is left to show of Stacks::new.
use Rattle.std.proofs.Common.{◌≡◌, ◌∙◌, ap, sym, subst, set}
use Rattle.pp_bundles.specs.Chains.{IsKept, stacks_in}
use Rattle.pp_bundles.proofs.FreshLemmas.{fresh_tops, first_top, fresh_tops-is, kept-fresh, stacks-fresh}
use Rattle.pp_bundles.proofs.stacks.Stacks.new.Goals as goal

pub invariant_of-result : goal.invariant_of-result
invariant_of-result c =
    let tops : set c.in_ok-tops.tops.items 0 (first_top c.args.records) ≡ fresh_tops c.args.records c.args.others =
    fresh_tops-is c.in_ok-tops.tops.items c.args.records c.args.others (c.in_ok-tops.ensures.items_if_clones_equal (λ y e. e)) in
    subst (λ ts. IsKept (record { records = c.in_ok-chain.chain.items; tops = ts })) (sym tops)
    (kept-fresh c.in_ok-chain.chain.items c.args.records c.args.others c.in_ok-chain.ensures c.ranges.records.fits)

pub returns : goal.returns
returns c =
    let tops : set c.in_ok-tops.tops.items 0 (first_top c.args.records) ≡ fresh_tops c.args.records c.args.others =
    fresh_tops-is c.in_ok-tops.tops.items c.args.records c.args.others (c.in_ok-tops.ensures.items_if_clones_equal (λ y e. e)) in
    ap (λ ts. stacks_in (record { records = c.in_ok-chain.chain.items; tops = ts })) tops
    ∙ stacks-fresh c.in_ok-chain.chain.items c.args.records c.args.others c.in_ok-chain.ensures c.ranges.records.fits
