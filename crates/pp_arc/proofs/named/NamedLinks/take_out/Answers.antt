-- What is left to show of NamedLinks::take_out.
use Rattle.std.proofs.Common.{◌≡◌, refl}
use Rattle.std.specs.Prelude.{None}
use Rattle.pp_arc.specs.Names.{lists_named}
use Rattle.pp_arc.proofs.LinkLemmas.{gone-forget}
use Rattle.pp_arc.proofs.NameLemmas.{forget_none}
use Rattle.pp_arc.proofs.StepLemmas.{place-times_named}
use Rattle.pp_arc.proofs.named.NamedLinks.take_out.Goals as goal

pub let_go-requires : goal.let_go-requires
let_go-requires c = record { node = c.in-Some.ensures.some c.in-Some.node refl }

pub returns-in-Some-clause-gone : goal.returns-in-Some-clause-gone
returns-in-Some-clause-gone c =
    gone-forget (lists_named c.args.self.now) (lists_named c.let_go.new.self) c.args.page c.let_go.ensures.lists

pub returns-in_default-clause-lists : goal.returns-in_default-clause-lists
returns-in_default-clause-lists c =
    let none : c.node.result ≡ None = cc in
    forget_none (lists_named c.args.self.now) c.args.page (c.node.ensures.none none)

pub returns-in_default-clause-gone : goal.returns-in_default-clause-gone
returns-in_default-clause-gone c =
    let none : c.node.result ≡ None = cc in
    place-times_named (lists_named c.args.self.now) c.args.page (c.node.ensures.none none)
