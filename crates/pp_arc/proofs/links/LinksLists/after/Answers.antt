-- What is left to show of Links::after.
use Rattle.std.proofs.Common.{◌≡◌, ◌∙◌}
use Rattle.std.specs.Prelude.{Some}
use Rattle.pp_arc.specs.FourLists.{place}
use Rattle.pp_arc.specs.Table.{content_of}
use Rattle.pp_arc.proofs.LookLemmas.{after_at}
use Rattle.pp_arc.proofs.links.LinksLists.after.Goals as goal

pub returns : goal.returns
returns c =
    let stands : place c.args.self.now c.args.page ≡ Some c.in_ok-_list._list = cc
    (c.in_ok-_list.was, c.place.ensures.place) in
    c.page_at.ensures ∙ after_at (content_of c.self.inside) c.args.self.now c.in_ok-_list._list c.args.page
    c.index.result.now c.self.invariant c.self.view_is c.in_ok-_list.ensures.below stands c.index.ensures
