use Rattle.std.proofs.Common.{◌≡◌, ◌∙◌, sym, subst}
use Rattle.pp_vault.specs.Headline.{Holds}
use Rattle.pp_pool.specs.Readings.{ReadsBy}
use Rattle.pp_hall.specs.Halls.{Parts}
use Rattle.pp_buffer_pool.specs.Sites.{GivesCall}
use Rattle.pp_buffer_pool.proofs.Reading.{read_given}
use Rattle.pp_buffer_pool.proofs.site.ExecuteSiteSite.read.Goals as goal

pub returns-in-Ok-clause-given : goal.returns-in-Ok-clause-given
returns-in-Ok-clause-given g c =
    let same : c.self.inside.plan ≡ c.args.self.now = c.self.view_is ∙ c.owe.ensures ∙ c.hold-hall.ensures in
    let holds : Holds c.deref_mut.result.now.seating.vault =
    subst (λ (p : Parts). Holds p.seating.vault) (c.deref.ensures ∙ sym c.deref_mut.ensures.value) c.known.ensures.holds in
    subst (λ p. ReadsBy (λ s asked response t. GivesCall s asked response t) c.args.self.now c.args.session c.args.page p
    c.in-Ok.session c.in-Ok.guard c.in-Ok.frame) (sym same)
    (read_given c.args.self.now c.deref_mut.result.now c.args.session c.args.page c.in-Ok.session c.in-Ok.guard c.in-Ok.frame
    c.in-Ok.told c.read.new.self holds c.in-Ok.ensures.ok)
