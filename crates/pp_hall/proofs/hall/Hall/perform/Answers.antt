use Rattle.std.proofs.Common.{◌≡◌, refl, sym, ap, subst, rules}
use Rattle.pp_wants.specs.Wants.{want_of}
use Rattle.pp_hall.specs.Askers.{asker}
use Rattle.pp_hall.specs.Seatings as seatings
use Rattle.pp_hall.specs.Waiters as waiters
use Rattle.pp_hall.specs.Halls.{Parts}
use Rattle.pp_hall.specs.Calls.{Performs}
use Rattle.pp_hall.proofs.Kept.{kept, settled}
use Rattle.pp_hall.proofs.hall.Hall.perform.Goals as goal

pub invariant_of-self : goal.invariant_of-self
invariant_of-self g c =
    let h : Parts = record {
      seating = c.self.inside.seating;
      waiters = c.self.inside.waiters;
      posts = c.self.inside.posts;
      policy = c.self.inside.policy;
    } in
    kept h c.self.invariant c.perform-response.new.self c.settle-told.new.self c.settle-told.ensures.awake
    (ap (λ (x : seatings.Parts). x.peaks) c.perform-response.ensures.given.rest)

pub returns-clause-is : goal.returns-clause-is
returns-clause-is g c =
    let h : Parts = record {
      seating = c.self.inside.seating;
      waiters = c.self.inside.waiters;
      posts = c.self.inside.posts;
      policy = c.self.inside.policy;
    } in
    subst (λ (p : Parts). Performs p c.args.request c.perform-response.result c.settle-told.result
    (record h { seating = c.perform-response.new.self; waiters = c.settle-told.new.self })) c.self.view_is (record {
      seating = c.perform-response.new.self;
      performs = c.perform-response.ensures.given;
      settles = settled (record h {
        seating = c.perform-response.new.self;
        waiters = waiters.with_place h.waiters (asker c.args.request)
            (waiters.place_after (want_of c.args.request) c.perform-response.result.answer);
      }) c.note.new.self c.settle-told.new.self c.settle-told.result (search rules) c.settle-told.ensures.settles;
    })
