-- What is left to show of Stacks::len.
use Rattle.std.proofs.Common.{◌≡◌, ◌∙◌, ap}
use Rattle.pp_bundles.specs.Chains.{parts_of, top_at, empty}
use Rattle.pp_bundles.proofs.LookLemmas.{len_is}
use Rattle.pp_bundles.proofs.stacks.Stacks.len.Goals as goal

pub returns-in-Some : goal.returns-in-Some
returns-in-Some c =
    let read : c.in-Some.top.now ≡ top_at c.self.inside.tops.items c.args.stack =
    c.in-Some.ensures.lookup.3.1 empty ∙ ap (λ l. top_at l c.args.stack) c.deref.ensures.value in
    len_is (parts_of c.self.inside) c.args.self.now c.args.stack c.in-Some.top.now c.self.view_is read
