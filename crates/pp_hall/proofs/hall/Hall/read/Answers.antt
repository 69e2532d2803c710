use Rattle.std.proofs.Common.{◌≡◌, Some, None, refl, sym, ap, subst, rules}
use Rattle.pp_vault.specs.Parts as vault
use Rattle.pp_vault.specs.StandsFor.{StandsFor}
use Rattle.pp_hall.specs.Seatings as seatings
use Rattle.pp_hall.specs.Waiters as waiters
use Rattle.pp_hall.specs.Halls.{Parts}
use Rattle.pp_hall.specs.Calls.{Reads}
use Rattle.pp_hall.proofs.Kept.{kept, settled}
use Rattle.pp_hall.proofs.hall.Hall.read.Goals as goal

pub invariant_of-self : goal.invariant_of-self
invariant_of-self g c =
    let h : Parts = record {
      seating = c.self.inside.seating;
      waiters = c.self.inside.waiters;
      posts = c.self.inside.posts;
      policy = c.self.inside.policy;
    } in
    kept h c.self.invariant c.read.new.self c.settle-told.new.self c.settle-told.ensures.awake
    (ap (λ (x : seatings.Parts). x.peaks) c.in-Ok.ensures.rest)

pub returns-in-Ok-clause-ok : goal.returns-in-Ok-clause-ok
returns-in-Ok-clause-ok g c =
    let h : Parts = record {
      seating = c.self.inside.seating;
      waiters = c.self.inside.waiters;
      posts = c.self.inside.posts;
      policy = c.self.inside.policy;
    } in
    subst (λ (p : Parts). Reads p c.args.session c.args.page c.in-Ok.session c.in-Ok.guard c.in-Ok.frame c.settle-told.result
    (record h { seating = c.read.new.self; waiters = c.settle-told.new.self })) c.self.view_is (record {
      seating = c.read.new.self;
      reads = c.in-Ok.ensures.ok;
      rest = c.in-Ok.ensures.rest;
      settles = settled (record h {
        seating = c.read.new.self;
        waiters = waiters.with_place h.waiters (Some c.args.session.worker) None;
      }) c.rise.new.self c.settle-told.new.self c.settle-told.result (search rules) c.settle-told.ensures.settles;
    })

pub returns-in-Ok-clause-exact : goal.returns-in-Ok-clause-exact
returns-in-Ok-clause-exact g c = λ s stands.
    c.in-Ok.ensures.exact s
    (subst (λ (v : vault.Parts). StandsFor v s) (sym (ap (λ (h : Parts). h.seating.vault) c.self.view_is)) stands)
