use Rattle.std.proofs.Common.{◌∙◌, Option, Some, length, refl, subst}
use Rattle.pp_vault.specs.declared.stage.Stage.{Stage}
use Rattle.pp_vault.specs.declared.stage.Stage.TheVariants as stages
use Rattle.pp_pool.specs.declared.turned.Turned.{Turned}
use Rattle.pp_pool.specs.ShortTurns.{TurnsIfAny}
use Rattle.pp_pool.proofs.ShortTurns.{turns_on}
use Rattle.pp_pool.proofs.reading.read_many.Goals as goal

pub returns-then-not-is_done : goal.returns-then-not-is_done
returns-then-not-is_done g c = record {
  turns =
      turns_on g.S.Site g.W.Work c.args.layout.now (length c.args.seen.now.items)
      (record {
        stage = stages.In c.args.session;
        places = c.args.guards.now;
        site = c.args.site.now;
        log = c.args.log.now;
        work = c.args.work.now;
      })
      (record {
        stage = stages.In c.loop.session;
        places = c.loop.guards;
        site = c.loop.site;
        log = c.loop.log;
        work = c.loop.work;
      })
      c.loop.turned c.loop.invariant.0 (length c.loop.seen.items) c.loop.invariant.3 (Some c.in-Some.now)
      (record {
        stage = c.go_on-stage.result.0;
        places = c.go_on-stage.new.guards;
        site = c.go_on-stage.new.site;
        log = c.go_on-stage.new.log;
        work = c.go_on-stage.new.work;
      })
      (subst (λ (o : Option Turned). TurnsIfAny g.S.Site g.W.Work c.args.layout.now (length c.loop.seen.items)
      (record {
        stage = stages.In c.loop.session;
        places = c.loop.guards;
        site = c.loop.site;
        log = c.loop.log;
        work = c.loop.work;
      }) o
      (record {
        stage = c.go_on-stage.result.0;
        places = c.go_on-stage.new.guards;
        site = c.go_on-stage.new.site;
        log = c.go_on-stage.new.log;
        work = c.go_on-stage.new.work;
      })) c.in-Some.is c.go_on-stage.ensures.turns)
      c.loop.invariant.1 c.in-Some.now refl;
  memory = c.go_on-stage.ensures.memory ∙ c.loop.invariant.2;
  seen = c.go_on-stage.ensures.seen ∙ c.loop.invariant.3;
  reach = c.go_on-stage.ensures.reach;
}

pub returns-in_default : goal.returns-in_default
returns-in_default g c = record {
  turns =
      turns_on g.S.Site g.W.Work c.args.layout.now (length c.args.seen.now.items)
      (record {
        stage = stages.In c.args.session;
        places = c.args.guards.now;
        site = c.args.site.now;
        log = c.args.log.now;
        work = c.args.work.now;
      })
      (record {
        stage = stages.In c.loop.session;
        places = c.loop.guards;
        site = c.loop.site;
        log = c.loop.log;
        work = c.loop.work;
      })
      c.loop.turned c.loop.invariant.0 (length c.loop.seen.items) c.loop.invariant.3 (Some c.in-Some.now)
      (record {
        stage = c.go_on-stage.result.0;
        places = c.go_on-stage.new.guards;
        site = c.go_on-stage.new.site;
        log = c.go_on-stage.new.log;
        work = c.go_on-stage.new.work;
      })
      (subst (λ (o : Option Turned). TurnsIfAny g.S.Site g.W.Work c.args.layout.now (length c.loop.seen.items)
      (record {
        stage = stages.In c.loop.session;
        places = c.loop.guards;
        site = c.loop.site;
        log = c.loop.log;
        work = c.loop.work;
      }) o
      (record {
        stage = c.go_on-stage.result.0;
        places = c.go_on-stage.new.guards;
        site = c.go_on-stage.new.site;
        log = c.go_on-stage.new.log;
        work = c.go_on-stage.new.work;
      })) c.in-Some.is c.go_on-stage.ensures.turns)
      c.loop.invariant.1 c.in-Some.now refl;
  memory = c.go_on-stage.ensures.memory ∙ c.loop.invariant.2;
  seen = c.go_on-stage.ensures.seen ∙ c.loop.invariant.3;
  reach = c.go_on-stage.ensures.reach;
}

pub loop-preserved : goal.loop-preserved
loop-preserved g c = (
  subst (λ (at : Stage). TurnsIfAny g.S.Site g.W.Work c.args.layout.now (length c.args.seen.now.items)
      (record {
        stage = stages.In c.args.session;
        places = c.args.guards.now;
        site = c.args.site.now;
        log = c.args.log.now;
        work = c.args.work.now;
      }) (Some c.in-Some.now)
      (record {
        stage = at;
        places = c.go_on-stage.new.guards;
        site = c.go_on-stage.new.site;
        log = c.go_on-stage.new.log;
        work = c.go_on-stage.new.work;
      })) c.in-In.is
      (turns_on g.S.Site g.W.Work c.args.layout.now (length c.args.seen.now.items)
      (record {
        stage = stages.In c.args.session;
        places = c.args.guards.now;
        site = c.args.site.now;
        log = c.args.log.now;
        work = c.args.work.now;
      })
      (record {
        stage = stages.In c.loop.session;
        places = c.loop.guards;
        site = c.loop.site;
        log = c.loop.log;
        work = c.loop.work;
      })
      c.loop.turned c.loop.invariant.0 (length c.loop.seen.items) c.loop.invariant.3 (Some c.in-Some.now)
      (record {
        stage = c.go_on-stage.result.0;
        places = c.go_on-stage.new.guards;
        site = c.go_on-stage.new.site;
        log = c.go_on-stage.new.log;
        work = c.go_on-stage.new.work;
      })
      (subst (λ (o : Option Turned). TurnsIfAny g.S.Site g.W.Work c.args.layout.now (length c.loop.seen.items)
      (record {
        stage = stages.In c.loop.session;
        places = c.loop.guards;
        site = c.loop.site;
        log = c.loop.log;
        work = c.loop.work;
      }) o
      (record {
        stage = c.go_on-stage.result.0;
        places = c.go_on-stage.new.guards;
        site = c.go_on-stage.new.site;
        log = c.go_on-stage.new.log;
        work = c.go_on-stage.new.work;
      })) c.in-Some.is c.go_on-stage.ensures.turns)
      c.loop.invariant.1 c.in-Some.now refl),
  c.if-not-is_done.ensures refl,
  c.go_on-stage.ensures.memory ∙ c.loop.invariant.2,
  c.go_on-stage.ensures.seen ∙ c.loop.invariant.3,
  c.go_on-stage.ensures.reach,
)
