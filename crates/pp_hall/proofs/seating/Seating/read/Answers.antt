use Rattle.std.proofs.Common.{◌≡◌, sym, ap, subst}
use Rattle.pp_vault.specs.Parts as vault
use Rattle.pp_vault.specs.StandsFor.{StandsFor}
use Rattle.pp_hall.specs.Seatings as seatings
use Rattle.pp_hall.proofs.Keeping.{reads_keep}
use Rattle.pp_hall.proofs.seating.Seating.read.Goals as goal

pub invariant_of-self : goal.invariant_of-self
invariant_of-self c =
    reads_keep (record {
      vault = c.self.inside.site.vault;
      frames = c.self.inside.frames;
      peaks = c.self.inside.peaks.items;
      counts = c.self.inside.counts;
    }) c.self.inside.out c.self.invariant c.args.session c.args.page c.read.new.self c.in-Ok.read.0 c.in-Ok.read.1
    c.in-Ok.read.2 c.count_hit.new.self c.in-Ok.ensures.ok

pub returns-in-Ok-clause-exact : goal.returns-in-Ok-clause-exact
returns-in-Ok-clause-exact c = λ s stands.
    c.in-Ok.ensures.exact s
    (subst (λ (v : vault.Parts). StandsFor v s) (sym (ap (λ (x : seatings.Parts). x.vault) c.self.view_is)) stands)
