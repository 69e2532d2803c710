use Rattle.std.proofs.Common.{◌≡◌, ◌∙◌, Some, [], length, sym, ap, arith}
use Rattle.std.proofs.lemmas.List.{get_or_read}
use Rattle.pp_vault.specs.declared.guards.WriteGuard.{WriteGuard}
use Rattle.pp_pool.specs.Lent.{guard_at}
use Rattle.pp_pool.proofs.Lookups.{found, missing}
use Rattle.pp_pool.proofs.held.Held.page.Goals as goal

pub returns-in-Some : goal.returns-in-Some
returns-in-Some g c =
    let f = found c.args.self.now c.args.slot c.in-Some.place (sym c.place.ensures ∙ c.in-Some.is) in
    let long : length c.self.inside.guards.items ≡ length c.args.self.now = ap length c.self.view_is in
    let read : c.index.result.now ≡ guard_at c.args.self.now c.in-Some.place
    = get_or_read c.self.inside.guards.items c.in-Some.place c.index.result.now (let lt = f.within in omega (arith, long, lt))
    c.index.ensures (guard_at [] 0)
    ∙ ap (λ ws. guard_at ws c.in-Some.place) c.self.view_is in
    ap (λ (n : _). Some n) (c.page.ensures ∙ ap (λ (x : WriteGuard). x.page) read) ∙ sym f.its_page

pub returns-in-None : goal.returns-in-None
returns-in-None g c = sym (missing c.args.self.now c.args.slot (sym c.place.ensures ∙ c.in-None.is)).1
