use Rattle.std.proofs.Common.{◌≡◌, ◌∙◌, sym, subst}
use Rattle.pp_vault.specs.Headline.{Holds}
use Rattle.pp_pool.specs.Readings.{EndsReadBy}
use Rattle.pp_hall.specs.Halls.{Parts}
use Rattle.pp_buffer_pool.specs.Sites.{GivesCall}
use Rattle.pp_buffer_pool.proofs.Reading.{end_given}
use Rattle.pp_buffer_pool.proofs.site.ExecuteSiteSite.end_read.Goals as goal

pub returns-in-Ok-clause-given : goal.returns-in-Ok-clause-given
returns-in-Ok-clause-given g c =
    let same : c.self.inside.plan ≡ c.args.self.now = c.self.view_is ∙ c.owe.ensures ∙ c.hold-hall.ensures in
    let holds : Holds c.deref_mut.result.now.seating.vault =
    subst (λ (p : Parts). Holds p.seating.vault) (c.deref.ensures ∙ sym c.deref_mut.ensures.value) c.known.ensures.holds in
    subst (λ p. EndsReadBy (λ s asked response t. GivesCall s asked response t) c.args.self.now c.args.session c.args.guard p
    c.in-Ok.session c.in-Ok.mark) (sym same)
    (end_given c.args.self.now c.deref_mut.result.now c.args.session c.args.guard c.in-Ok.session c.in-Ok.mark c.in-Ok.told
    c.end_read.new.self holds c.in-Ok.ensures.ok)
