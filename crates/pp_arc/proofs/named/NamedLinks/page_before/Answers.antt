-- What is left to show of NamedLinks::page_before.
use Rattle.std.proofs.Common.{◌≡◌, ap, sym, subst, ℕ, ◌∙◌, ◌≤◌, get_or}
use Rattle.std.specs.Prelude.{Option, Some, None}
use Rattle.pp_arc.specs.FourLists.{times_named}
use Rattle.pp_arc.specs.Links.{SomeAhead, NoneAhead}
use Rattle.pp_arc.specs.Names.{Naming, naming_of, lists_named}
use Rattle.pp_arc.proofs.NameLemmas.{page_in}
use Rattle.pp_arc.proofs.NamingLemmas.{aheads, placed}
use Rattle.pp_arc.proofs.named.NamedLinks.page_before.Goals as goal

pub before-requires : goal.before-requires
before-requires c =
    placed c.self.inside.links c.args.node
    (subst (λ (w : Naming). 1 ≤ times_named w.links c.args.node) (sym c.self.view_is) c.requires.stands)

pub returns-in_err-ahead : goal.returns-in_err-ahead
returns-in_err-ahead c =
    let e : c.from_residual.result ≡ None = cc in
    let o : c.before-2.result ≡ None = cc in
    let same : page_in c.args.self.now.pages c.before-2.result ≡ c.from_residual.result =
    ap (page_in c.args.self.now.pages) o ∙ sym e in
    let a = aheads (naming_of c.self.inside) c.args.self.now c.args.node c.before-2.result c.self.invariant
    c.self.view_is c.requires.stands c.before-2.ensures.some c.before-2.ensures.none in
    record {
      some = subst (λ (o : Option ℕ). SomeAhead (lists_named c.args.self.now)
          (get_or c.args.self.now.pages c.args.node 0) o) same a.some;
      none = subst (λ (o : Option ℕ). NoneAhead (lists_named c.args.self.now)
          (get_or c.args.self.now.pages c.args.node 0) o) same a.none;
    }

pub returns : goal.returns
returns c =
    let o : c.before-2.result ≡ Some c.in_ok-ahead.ahead = cc in
    let same : page_in c.args.self.now.pages c.before-2.result ≡ Some c.page.result =
    ap (page_in c.args.self.now.pages) o ∙ ap (λ (p : ℕ). Some p) (sym c.page.ensures) in
    let a = aheads (naming_of c.self.inside) c.args.self.now c.args.node c.before-2.result c.self.invariant
    c.self.view_is c.requires.stands c.before-2.ensures.some c.before-2.ensures.none in
    record {
      some = subst (λ (o : Option ℕ). SomeAhead (lists_named c.args.self.now)
          (get_or c.args.self.now.pages c.args.node 0) o) same a.some;
      none = subst (λ (o : Option ℕ). NoneAhead (lists_named c.args.self.now)
          (get_or c.args.self.now.pages c.args.node 0) o) same a.none;
    }
