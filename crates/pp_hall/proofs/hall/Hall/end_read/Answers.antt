use Rattle.std.proofs.Common.{◌≡◌, refl, sym, ap, subst, rules}
use Rattle.pp_hall.specs.Seatings as seatings
use Rattle.pp_hall.specs.Waiters as waiters
use Rattle.pp_hall.specs.Halls.{Parts}
use Rattle.pp_hall.specs.Calls.{EndsRead}
use Rattle.pp_hall.proofs.Kept.{kept, settled}
use Rattle.pp_hall.proofs.hall.Hall.end_read.Goals as goal

pub invariant_of-self : goal.invariant_of-self
invariant_of-self g c =
    let h : Parts = record {
      seating = c.self.inside.seating;
      waiters = c.self.inside.waiters;
      posts = c.self.inside.posts;
      policy = c.self.inside.policy;
    } in
    kept h c.self.invariant c.end_read.new.self c.settle-told.new.self c.settle-told.ensures.awake
    (ap (λ (x : seatings.Parts). x.peaks) c.in-Ok.ensures.rest)

pub returns-in-Ok-clause-ok : goal.returns-in-Ok-clause-ok
returns-in-Ok-clause-ok g c =
    let h : Parts = record {
      seating = c.self.inside.seating;
      waiters = c.self.inside.waiters;
      posts = c.self.inside.posts;
      policy = c.self.inside.policy;
    } in
    subst (λ (p : Parts). EndsRead p c.args.session c.args.guard c.in-Ok.session c.in-Ok.mark c.settle-told.result
    (record h { seating = c.end_read.new.self; waiters = c.settle-told.new.self })) c.self.view_is (record {
      seating = c.end_read.new.self;
      ends = c.in-Ok.ensures.ok;
      rest = c.in-Ok.ensures.rest;
      settles = settled (record h { seating = c.end_read.new.self }) h.waiters c.settle-told.new.self c.settle-told.result refl
          c.settle-told.ensures.settles;
    })
