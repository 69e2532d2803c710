use Rattle.std.proofs.Common.{◌≡◌, ◌∙◌, Some, sym, subst}
use Rattle.pp_vault.specs.Headline.{Holds}
use Rattle.pp_pool.specs.Performing.{is_no}
use Rattle.pp_hall.specs.Seatings.{NoPlanWaits}
use Rattle.pp_hall.specs.Halls.{Parts, IsHall}
use Rattle.pp_buffer_pool.specs.Sites.{GivesTake}
use Rattle.pp_buffer_pool.proofs.Taking.{take_given}
use Rattle.pp_buffer_pool.proofs.site.ExecuteSite.take.Goals as goal

pub returns-clause-given : goal.returns-clause-given
returns-clause-given g c =
    let seen = c.self.view_is in
    let taken = c.take.ensures.value in
    let found = c.in-Some.is in
    let is : c.args.self.now ≡ Some c.in-Some.prepared = cc in
    let under : c.deref.result.now ≡ c.deref_mut.result.now = c.deref.ensures ∙ sym c.deref_mut.ensures.value in
    subst (λ p. GivesTake p c.args.chair c.take-response.result.0) (sym is)
    (take_given c.deref_mut.result.now c.args.chair c.in-Some.prepared c.take-response.result.0 c.take-response.result.1
    c.take-response.new.self (is_no c.take-response.result.0.answer)
    (subst (λ (p : Parts). IsHall p) under c.known.ensures.hall)
    (subst (λ (p : Parts). Holds p.seating.vault) under c.known.ensures.holds)
    (subst (λ (p : Parts). NoPlanWaits p.seating.vault) under c.known.ensures.straight)
    c.take-response.ensures.fits c.take-response.ensures.is)
