-- What is left to show of NamedLinks::after.
use Rattle.std.proofs.Common.{sym, refl, ◌∙◌}
use Rattle.pp_arc.specs.Names.{lists_named}
use Rattle.pp_arc.proofs.NamingLemmas.{after-node, after-none}
use Rattle.pp_arc.proofs.named.NamedLinks.after.Goals as goal

pub returns-in-Some : goal.returns-in-Some
returns-in-Some c =
    c.page_after.ensures
    ∙ sym (after-node c.args.self.now c.args.page c.in-Some.node c.in-Some.ensures.naming
    (c.in-Some.ensures.some c.in-Some.node refl))

pub returns-in-None : goal.returns-in-None
returns-in-None c = sym (after-none (lists_named c.args.self.now) c.args.page (c.in-None.ensures.none refl))
