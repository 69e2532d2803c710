use Rattle.pp_plan.proofs.Sorted.{texts_cloned, sorted_is}
use Rattle.pp_plan.proofs.numbering.in_byte_order.Goals as goal
use Rattle.std.proofs.Common.{map, string_bytes}

pub returns-clause-names : goal.returns-clause-names
returns-clause-names c =
    let before = c.in_ok-ordered.ordered.items in
    let same = texts_cloned c.args.names.now.items before c.in_ok-ordered.ensures.cases.0 in
    sorted_is (map string_bytes c.args.names.now.items) before c.sort_unstable.new.self.items same
    c.sort_unstable.ensures.permutation c.sort_unstable.ensures.sorted
