use Rattle.std.proofs.Common.{length, subst}
use Rattle.pp_vault.specs.declared.stage.Stage.TheVariants as stages
use Rattle.pp_pool.specs.ShortTurns.{TurnsAtOnce}
use Rattle.pp_pool.proofs.reading.go_on.Goals as goal

pub returns-in-Some-clause-turns : goal.returns-in-Some-clause-turns
returns-in-Some-clause-turns g c =
    subst
    (λ x. TurnsAtOnce g.S.Site g.W.Work c.args.layout.now (length c.args.seen.now.items)
    (record {
      stage = stages.In c.args.session;
      places = c.args.guards.now;
      site = x;
      log = c.args.log.now;
      work = c.args.work.now;
    }) c.read-stage.result.1
    (record {
      stage = c.read-stage.result.0;
      places = c.read-stage.new.guards;
      site = c.read-stage.new.site;
      log = c.read-stage.new.log;
      work = c.read-stage.new.work;
    }))
    c.let_go.ensures.same
    (c.read-stage.ensures.turns c.args.layout.now c.args.work.now c.in-Some.ensures.step c.in-Some.ensures.consults)
