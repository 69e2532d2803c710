use Rattle.std.proofs.Common.{refl, None, arith}
use Rattle.pp_pool.proofs.Turning.{turn_from, errand_made}
use Rattle.pp_pool.proofs.ShortTurns.{turn_let_go, turn_forgets}
use Rattle.pp_pool.proofs.worker.Worker.turn.Goals as goal

pub returns-clause-turn : goal.returns-clause-turn
returns-clause-turn g c =
    let mid = record c.args.self.now { kept = record c.args.self.now.kept { reach = None } } in
    turn_from g.S.Site g.D.Device g.W.Work c.args.self.now mid
    (record c.turn_on-turned.new.self {
      kept = record c.turn_on-turned.new.self.kept { reach = None };
      site = c.let_go.new.self;
    }) c.args.work.now c.turn_on-turned.new.work
    c.turn_on-turned.result refl refl refl refl refl refl refl (omega arith)
    (turn_let_go g.S.Site g.D.Device g.W.Work mid (record c.turn_on-turned.new.self { kept = record c.turn_on-turned.new.self.kept { reach = None } }) c.args.work.now
    c.turn_on-turned.new.work c.turn_on-turned.result c.let_go.new.self c.let_go.ensures.same
    (turn_forgets g.S.Site g.D.Device g.W.Work mid c.turn_on-turned.new.self c.args.work.now c.turn_on-turned.new.work
    c.turn_on-turned.result None c.turn_on-turned.ensures.turn))

pub returns-clause-errand : goal.returns-clause-errand
returns-clause-errand g c has keeps =
    errand_made g.S.Site g.D.Device g.W.Work _ _ _ _ _ (returns-clause-turn g c) has keeps
