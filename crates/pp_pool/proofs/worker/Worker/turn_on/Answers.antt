use Rattle.std.proofs.Common.{◌∙◌, ◌≤◌, refl, arith}
use Rattle.pp_pool.proofs.Turning.{turn_from, errand_made}
use Rattle.pp_pool.proofs.worker.Worker.turn_on.Goals as goal

pub returns-clause-turn : goal.returns-clause-turn
returns-clause-turn g c =
    let made = c.make_room.new.self in
    let first = c.make_room.ensures.grown in
    let then = c.has_room.ensures.grown in
    let grown : c.args.self.now.log.capacity ≤ c.has_room.new.log.capacity = omega (arith, first, then) in
    turn_from g.S.Site g.D.Device g.W.Work _ _ _ _ _ _
    c.make_room.ensures.site c.make_room.ensures.device c.make_room.ensures.hand
    (c.has_room.ensures.items ∙ c.make_room.ensures.log) c.make_room.ensures.layout
    c.make_room.ensures.end
    (c.has_room.ensures.len ∙ c.make_room.ensures.len) grown
    (c.ask.ensures.turn
    record {
      site = c.ask.new.site;
      device = c.ask.new.device;
      hand = record { stage = c.ask.new.stage; guards = c.ask.new.guards };
      log = c.ask.new.log;
      layout = made.layout;
      page_bytes = made.page_bytes;
      seen = c.ask.new.seen;
      kept = c.ask.new.kept;
      alloc = made.alloc;
    } refl c.ask.ensures.seen)

pub returns-clause-errand : goal.returns-clause-errand
returns-clause-errand g c has keeps =
    errand_made g.S.Site g.D.Device g.W.Work _ _ _ _ _ (returns-clause-turn g c) has keeps
