-- What is left to show of Directory::last: the last page stands in the list.
use Rattle.std.proofs.Common.{◌≡◌, sym, ap, ◌∙◌, length}
use Rattle.pp_arc.specs.Pages.{last_page}
use Rattle.pp_arc.specs.FourLists.{FourLists, list_of}
use Rattle.pp_arc.proofs.SizeLemmas.{contains-last, last-none, list_of-sized}
use Rattle.pp_arc.proofs.directory.Directory.last.Goals as goal

pub returns-clause-stands : goal.returns-clause-stands
returns-clause-stands g c = λ page e.
    let same : list_of c.args.self.now c.args.list ≡ list_of (g.L.Lists.lists c.self.inside.links) c.args.list =
    sym (ap (λ (w : FourLists). list_of w c.args.list) c.self.view_is)
    ∙ list_of-sized (g.L.Lists.lists c.self.inside.links) c.self.inside.c c.self.inside.target c.args.list in
    contains-last (list_of c.args.self.now c.args.list) page (ap last_page same ∙ sym c.last.ensures ∙ e)

pub returns-clause-empty : goal.returns-clause-empty
returns-clause-empty g c = λ e.
    let same : list_of c.args.self.now c.args.list ≡ list_of (g.L.Lists.lists c.self.inside.links) c.args.list =
    sym (ap (λ (w : FourLists). list_of w c.args.list) c.self.view_is)
    ∙ list_of-sized (g.L.Lists.lists c.self.inside.links) c.self.inside.c c.self.inside.target c.args.list in
    ap length (last-none (list_of c.args.self.now c.args.list) (ap last_page same ∙ sym c.last.ensures ∙ e))
