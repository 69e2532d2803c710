-- What is left to show of Stacks::first.
use Rattle.std.proofs.Common.{◌≡◌, ◌<◌, ◌∙◌, ap, length, vec_len, rules, arith}
use Rattle.pp_bundles.specs.Chains.{parts_of, top_at, empty}
use Rattle.pp_bundles.proofs.LookLemmas.{head_below, first_is}
use Rattle.pp_bundles.proofs.stacks.Stacks.first.Goals as goal

pub index-requires : goal.index-requires
index-requires c =
    let read : c.in_ok-top.top.now ≡ top_at c.self.inside.tops.items c.args.stack =
    c.in_ok-top.ensures.lookup.3.1 empty ∙ ap (λ l. top_at l c.args.stack) c.deref.ensures.value in
    let l : c.args.stack < length c.self.inside.tops.items =
    omega (arith, c.in_ok-top.ensures.lookup.3.0, ap length c.deref.ensures.value) in
    let below =
    head_below (parts_of c.self.inside) c.args.stack c.in_ok-top.top.now c.self.invariant l read (omega arith) in
    let long : vec_len c.self.inside.records ≡ length c.self.inside.records.items = search rules in
    omega (arith, long, below)

pub returns : goal.returns
returns c =
    let read : c.in_ok-top.top.now ≡ top_at c.self.inside.tops.items c.args.stack =
    c.in_ok-top.ensures.lookup.3.1 empty ∙ ap (λ l. top_at l c.args.stack) c.deref.ensures.value in
    let l : c.args.stack < length c.self.inside.tops.items =
    omega (arith, c.in_ok-top.ensures.lookup.3.0, ap length c.deref.ensures.value) in
    let some : 0 < c.in_ok-top.top.now.count = omega arith in
    let below =
    head_below (parts_of c.self.inside) c.args.stack c.in_ok-top.top.now c.self.invariant l read some in
    first_is (parts_of c.self.inside) c.args.self.now c.args.stack c.in_ok-top.top.now c.index.result.now
    c.self.view_is read some below c.index.ensures
