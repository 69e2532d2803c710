-- What is left to show of NamedLinks::node.
use Rattle.std.proofs.Common.{◌≡◌, ◌-◌, length, arith, get_or}
use Rattle.pp_arc.proofs.NameLemmas.{times_none}
use Rattle.pp_arc.proofs.NamingLemmas.{undone}
use Rattle.pp_arc.proofs.named.NamedLinks.node.Goals as goal

pub returns-then-name-gt0-clause-some : goal.returns-then-name-gt0-clause-some
returns-then-name-gt0-clause-some c = λ n e.
    let q : c.name-name.result - 1 ≡ n = cc in
    c.name-name.ensures.naming.known c.args.page n (omega (arith, q, c.name-name.ensures.name))

pub returns-else-name-gt0-clause-none : goal.returns-else-name-gt0-clause-none
returns-else-name-gt0-clause-none c = λ e.
    let z : get_or c.args.self.now.names c.args.page 0 ≡ 0 = omega (arith, c.name-name.ensures.name) in
    times_none (length c.args.self.now.names) c.args.self.now.names c.args.self.now.pages c.args.self.now.links
    (undone c.args.self.now c.name-name.ensures.naming) c.args.page z
