-- What is left to show of NamedLinks::last_not_busy: what is found of the nodes is found of their pages.
use Rattle.std.proofs.Common.{◌≡◌, ℕ, ap, sym, ◌∙◌}
use Rattle.std.specs.Prelude.{Some, None}
use Rattle.pp_arc.specs.Names.{naming_of}
use Rattle.pp_arc.proofs.NameLemmas.{page_in}
use Rattle.pp_arc.proofs.NamingLemmas.{finds}
use Rattle.pp_arc.proofs.named.NamedLinks.last_not_busy.Goals as goal

pub returns-in_err-node : goal.returns-in_err-node
returns-in_err-node g c =
    let e : c.from_residual.result ≡ None = cc in
    let o : c.last_not_busy.result ≡ None = cc in
    let same : c.deref.result.now ≡ c.self.inside.pages.items = cc (c.deref.ensures.value) in
    e ∙ ap (page_in c.args.self.now.pages) (sym o)
    ∙ (finds (naming_of c.self.inside) c.args.self.now c.args.list (g.B.Busy.busy c.args.busy.now) c.deref.result.now
    c.last_not_busy.result c.self.invariant c.self.view_is same c.last_not_busy.ensures).victim

pub returns : goal.returns
returns g c =
    let o : c.last_not_busy.result ≡ Some c.in_ok-node.node = cc in
    let same : c.deref.result.now ≡ c.self.inside.pages.items = cc (c.deref.ensures.value) in
    ap (λ (p : ℕ). Some p) c.page.ensures ∙ ap (page_in c.args.self.now.pages) (sym o)
    ∙ (finds (naming_of c.self.inside) c.args.self.now c.args.list (g.B.Busy.busy c.args.busy.now) c.deref.result.now
    c.last_not_busy.result c.self.invariant c.self.view_is same c.last_not_busy.ensures).victim
