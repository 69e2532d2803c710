use Rattle.std.proofs.Common.{◌∙◌, [], length, refl, sym, ap, subst}
use Rattle.pp_vault.specs.Stages.{stage_worker}
use Rattle.pp_vault.specs.declared.stage.Hand.{Hand}
use Rattle.pp_pool.specs.Turns.{KeepsPlace}
use Rattle.pp_pool.proofs.Turning.{errand_made}
use Rattle.pp_pool.proofs.QuickTurns.{behind, worker_behind, keeps_behind, no_errand, room_behind, hand_same, turn_still, room_still}
use Rattle.pp_pool.proofs.worker.Worker.quick_turns.Goals as goal

pub returns-in-Some-clause-turns : goal.returns-in-Some-clause-turns
returns-in-Some-clause-turns g c =
    behind g.S.Site g.D.Device g.W.Work c.args.self.now.layout (length c.args.self.now.seen.items) c.args.self.now
    record {
      site = c.read_on-read.new.site;
      device = c.args.self.now.device;
      hand = record { stage = c.read_on-read.new.stage; guards = c.read_on-read.new.guards };
      log = c.read_on-read.new.log;
      layout = c.args.self.now.layout;
      page_bytes = c.args.self.now.page_bytes;
      seen = c.read_on-read.new.seen;
      kept = record c.args.self.now.kept { reach = c.read_on-read.new.reach };
      alloc = c.args.self.now.alloc;
    } c.args.work.now c.read_on-read.new.work c.in-Some.turned c.in-Some.ensures.turns
    refl c.in-Some.ensures.seen refl refl refl c.in-Some.ensures.seen refl

pub returns-in-Some-clause-errand : goal.returns-in-Some-clause-errand
returns-in-Some-clause-errand g c has keeps =
    absurd (no_errand g.S.Site g.D.Device g.W.Work c.args.self.now.layout (length c.args.self.now.seen.items) c.args.self.now
    record {
      site = c.read_on-read.new.site;
      device = c.args.self.now.device;
      hand = record { stage = c.read_on-read.new.stage; guards = c.read_on-read.new.guards };
      log = c.read_on-read.new.log;
      layout = c.args.self.now.layout;
      page_bytes = c.args.self.now.page_bytes;
      seen = c.read_on-read.new.seen;
      kept = record c.args.self.now.kept { reach = c.read_on-read.new.reach };
      alloc = c.args.self.now.alloc;
    } c.args.work.now c.read_on-read.new.work c.in-Some.turned c.in-Some.ensures.turns has)

pub returns-in-Some-clause-keeps : goal.returns-in-Some-clause-keeps
returns-in-Some-clause-keeps g c keeps =
    keeps_behind g.S.Site g.D.Device g.W.Work c.args.self.now.layout (length c.args.self.now.seen.items) c.args.self.now
    record {
      site = c.read_on-read.new.site;
      device = c.args.self.now.device;
      hand = record { stage = c.read_on-read.new.stage; guards = c.read_on-read.new.guards };
      log = c.read_on-read.new.log;
      layout = c.args.self.now.layout;
      page_bytes = c.args.self.now.page_bytes;
      seen = c.read_on-read.new.seen;
      kept = record c.args.self.now.kept { reach = c.read_on-read.new.reach };
      alloc = c.args.self.now.alloc;
    } c.args.work.now c.read_on-read.new.work c.in-Some.turned c.in-Some.ensures.turns
    refl c.in-Some.ensures.seen

pub returns-in-Some-clause-room : goal.returns-in-Some-clause-room
returns-in-Some-clause-room g c =
    room_behind g.S.Site g.D.Device g.W.Work c.args.self.now.layout (length c.args.self.now.seen.items) c.args.self.now
    record {
      site = c.read_on-read.new.site;
      device = c.args.self.now.device;
      hand = record { stage = c.read_on-read.new.stage; guards = c.read_on-read.new.guards };
      log = c.read_on-read.new.log;
      layout = c.args.self.now.layout;
      page_bytes = c.args.self.now.page_bytes;
      seen = c.read_on-read.new.seen;
      kept = record c.args.self.now.kept { reach = c.read_on-read.new.reach };
      alloc = c.args.self.now.alloc;
    } c.args.work.now c.read_on-read.new.work c.in-Some.turned c.in-Some.ensures.turns
    c.in-Some.ensures.memory c.in-Some.ensures.seen

pub returns-in-Some-clause-worker : goal.returns-in-Some-clause-worker
returns-in-Some-clause-worker g c =
    worker_behind g.S.Site g.D.Device g.W.Work c.args.self.now.layout (length c.args.self.now.seen.items) c.args.self.now
    record {
      site = c.read_on-read.new.site;
      device = c.args.self.now.device;
      hand = record { stage = c.read_on-read.new.stage; guards = c.read_on-read.new.guards };
      log = c.read_on-read.new.log;
      layout = c.args.self.now.layout;
      page_bytes = c.args.self.now.page_bytes;
      seen = c.read_on-read.new.seen;
      kept = record c.args.self.now.kept { reach = c.read_on-read.new.reach };
      alloc = c.args.self.now.alloc;
    } c.args.work.now c.read_on-read.new.work c.in-Some.turned c.in-Some.ensures.turns
    refl c.in-Some.ensures.seen

pub returns-in-None-clause-turns : goal.returns-in-None-clause-turns
returns-in-None-clause-turns g c = (
  [],
  turn_still g.S.Site g.D.Device g.W.Work c.args.self.now
      record {
        site = c.read_on-read.new.site;
        device = c.args.self.now.device;
        hand = record { stage = c.read_on-read.new.stage; guards = c.read_on-read.new.guards };
        log = c.read_on-read.new.log;
        layout = c.args.self.now.layout;
        page_bytes = c.args.self.now.page_bytes;
        seen = c.read_on-read.new.seen;
        kept = record c.args.self.now.kept { reach = c.read_on-read.new.reach };
        alloc = c.args.self.now.alloc;
      } c.turn_on.new.self c.args.work.now c.read_on-read.new.work c.turn_on.new.work c.turn_on.result c.in-None.ensures.turns
      refl refl refl c.turn_on.ensures.turn,
)

pub returns-in-None-clause-errand : goal.returns-in-None-clause-errand
returns-in-None-clause-errand g c has keeps =
    errand_made g.S.Site g.D.Device g.W.Work c.args.self.now c.turn_on.new.self c.args.work.now c.turn_on.new.work
    c.turn_on.result
    (turn_still g.S.Site g.D.Device g.W.Work c.args.self.now
    record {
      site = c.read_on-read.new.site;
      device = c.args.self.now.device;
      hand = record { stage = c.read_on-read.new.stage; guards = c.read_on-read.new.guards };
      log = c.read_on-read.new.log;
      layout = c.args.self.now.layout;
      page_bytes = c.args.self.now.page_bytes;
      seen = c.read_on-read.new.seen;
      kept = record c.args.self.now.kept { reach = c.read_on-read.new.reach };
      alloc = c.args.self.now.alloc;
    } c.turn_on.new.self c.args.work.now c.read_on-read.new.work c.turn_on.new.work c.turn_on.result c.in-None.ensures.turns
    refl refl refl c.turn_on.ensures.turn)
    has keeps

pub returns-in-None-clause-keeps : goal.returns-in-None-clause-keeps
returns-in-None-clause-keeps g c keeps =
    c.turn_on.ensures.keeps
    (subst (λ (h : Hand). KeepsPlace h) (sym (hand_same g.S.Site g.D.Device g.W.Work c.args.self.now
    record {
      site = c.read_on-read.new.site;
      device = c.args.self.now.device;
      hand = record { stage = c.read_on-read.new.stage; guards = c.read_on-read.new.guards };
      log = c.read_on-read.new.log;
      layout = c.args.self.now.layout;
      page_bytes = c.args.self.now.page_bytes;
      seen = c.read_on-read.new.seen;
      kept = record c.args.self.now.kept { reach = c.read_on-read.new.reach };
      alloc = c.args.self.now.alloc;
    } c.turn_on.new.self c.args.work.now c.read_on-read.new.work c.turn_on.new.work c.turn_on.result c.in-None.ensures.turns
    refl refl refl)) keeps)

pub returns-in-None-clause-room : goal.returns-in-None-clause-room
returns-in-None-clause-room g c =
    room_still g.S.Site g.D.Device g.W.Work c.args.self.now
    record {
      site = c.read_on-read.new.site;
      device = c.args.self.now.device;
      hand = record { stage = c.read_on-read.new.stage; guards = c.read_on-read.new.guards };
      log = c.read_on-read.new.log;
      layout = c.args.self.now.layout;
      page_bytes = c.args.self.now.page_bytes;
      seen = c.read_on-read.new.seen;
      kept = record c.args.self.now.kept { reach = c.read_on-read.new.reach };
      alloc = c.args.self.now.alloc;
    } c.turn_on.new.self c.args.work.now c.read_on-read.new.work c.turn_on.new.work c.turn_on.result c.in-None.ensures.turns
    refl refl refl refl c.in-None.ensures.seen c.turn_on.ensures.room

pub returns-in-None-clause-worker : goal.returns-in-None-clause-worker
returns-in-None-clause-worker g c =
    c.turn_on.ensures.worker
    ∙ ap (λ (h : Hand). stage_worker h.stage) (hand_same g.S.Site g.D.Device g.W.Work c.args.self.now
    record {
      site = c.read_on-read.new.site;
      device = c.args.self.now.device;
      hand = record { stage = c.read_on-read.new.stage; guards = c.read_on-read.new.guards };
      log = c.read_on-read.new.log;
      layout = c.args.self.now.layout;
      page_bytes = c.args.self.now.page_bytes;
      seen = c.read_on-read.new.seen;
      kept = record c.args.self.now.kept { reach = c.read_on-read.new.reach };
      alloc = c.args.self.now.alloc;
    } c.turn_on.new.self c.args.work.now c.read_on-read.new.work c.turn_on.new.work c.turn_on.result c.in-None.ensures.turns
    refl refl refl)
