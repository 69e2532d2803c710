use Rattle.std.proofs.Common.{sym, subst}
use Rattle.pp_vault.specs.Stages.{stage_worker}
use Rattle.pp_hall.specs.Halls.{Parts}
use Rattle.pp_hall.specs.Calls.{Starts}
use Rattle.pp_hall.proofs.Kept.{kept_with, sent_homes, begun_settles}
use Rattle.pp_hall.proofs.hall.Hall.start.Goals as goal

pub invariant_of-self-2 : goal.invariant_of-self-2
invariant_of-self-2 g c =
    let h : Parts = record {
      seating = c.self.inside.seating;
      waiters = c.self.inside.waiters;
      posts = c.self.inside.posts;
      policy = c.self.inside.policy;
    } in
    kept_with (record {
      seating = c.send_out.new.self;
      waiters = c.settle-told.new.self;
      posts = c.take.new.self;
      policy = c.self.inside.policy;
    }) c.settle-told.ensures.awake
    (sent_homes h c.self.invariant c.send_out.new.self c.take.new.self c.in-Some-first_home.chair c.in-Some.peak
    c.send_out.ensures c.in-Some-take.ensures.gone)

pub returns : goal.returns
returns g c =
    let h : Parts = record {
      seating = c.self.inside.seating;
      waiters = c.self.inside.waiters;
      posts = c.self.inside.posts;
      policy = c.self.inside.policy;
    } in
    subst (λ (p : Parts). Starts p c.args.ticket (stage_worker c.in-Some-take.post.hand.stage) c.settle-told.result
    (record h { seating = c.send_out.new.self; waiters = c.settle-told.new.self; posts = c.take.new.self })) c.self.view_is
    (record {
      going = sym c.if-is_stopped.ensures;
      may = c.in-Some.ensures.some;
      chair = c.in-Some-first_home.chair;
      home = sym c.in-Some-first_home.ensures.is;
      is = c.in-Some-take.ensures.of;
      peak = c.in-Some.peak;
      waits = c.in-Some.ensures.peak;
      settles = begun_settles h c.args.ticket c.in-Some-first_home.chair c.in-Some.peak c.send_out.new.self c.take.new.self
          c.start.new.self c.settle-told.new.self c.settle-told.result c.send_out.ensures c.in-Some-take.ensures.gone
          c.in-Some.ensures.started c.settle-told.ensures.settles;
    })
