-- What is left to show of NamedLinks::drop_last: what leaves is the last page, where there is one.
use Rattle.std.proofs.Common.{◌≡◌, sym, ◌∙◌}
use Rattle.std.specs.Prelude.{None}
use Rattle.pp_arc.specs.Pages.{last_page}
use Rattle.pp_arc.specs.FourLists.{list_of}
use Rattle.pp_arc.specs.Names.{naming_of}
use Rattle.pp_arc.proofs.NamingLemmas.{drops, drops_none}
use Rattle.pp_arc.proofs.named.NamedLinks.drop_last.Goals as goal

pub let_go-requires : goal.let_go-requires
let_go-requires c = record {
  node = (drops (naming_of c.self.inside) c.args.self.now c.args.list c.page.result c.in-Some.node c.self.invariant
      c.self.view_is (sym c.in-Some.ensures) c.page.ensures).has;
}

pub returns-in-Some-clause-lists : goal.returns-in-Some-clause-lists
returns-in-Some-clause-lists c =
    c.let_go.ensures.lists
    ∙ (drops (naming_of c.self.inside) c.args.self.now c.args.list c.page.result c.in-Some.node c.self.invariant
    c.self.view_is (sym c.in-Some.ensures) c.page.ensures).lists

pub returns-in_default-clause-lists : goal.returns-in_default-clause-lists
returns-in_default-clause-lists c =
    let none : last_page (list_of c.self.inside.links c.args.list) ≡ None = cc in
    drops_none (naming_of c.self.inside) c.args.self.now c.args.list c.self.view_is none
