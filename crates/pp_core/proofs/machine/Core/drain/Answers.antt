use Rattle.std.proofs.Common.{◌∙◌, sym, arith}
use Rattle.pp_core.specs.Draining.{host_of}
use Rattle.pp_core.proofs.Standing.{headline_holds}
use Rattle.pp_core.proofs.DrainRuns.{leads_on, spends, budget_small, rests}
use Rattle.pp_core.proofs.machine.Core.drain.Goals as goal

pub overflow_add-count : goal.overflow_add-count
overflow_add-count g c =
    omega (arith, c.loop-turn.invariant.spent, budget_small c.args.self.now c.known.ensures.kept)

pub loop-turn-preserved : goal.loop-turn-preserved
loop-turn-preserved g c =
    let f = c.loop-turn.self in
    let next = c.step.new.self in
    let asked = c.decided-asked.result in
    let d = g.D.Decide in
    let less =
    spends f next asked c.step.result c.loop-turn.invariant.kept c.decided-asked.ensures.possible c.step.ensures.moves
    c.step.ensures.budget in
    record {
      kept = c.step.ensures.kept;
      spent = omega (arith, less, c.loop-turn.invariant.spent);
      leads = leads_on (host_of d.picks d.chooses d.reads d.writes d.flushes) c.args.self.now f next c.args.decide.now
          c.loop-turn.decide c.decided-asked.new.decide c.loop-turn.count c.in-Some.turn asked c.step.result
          c.loop-turn.invariant.leads (λ s st. sym c.in-Some.is ∙ c.next_possible.ensures.turn s st)
          c.decided-asked.ensures.possible c.decided-asked.ensures.decided c.step.ensures.moves;
      plans =
          let kept = c.loop-turn.invariant.kept in
          c.step.ensures.moves.plans kept.state kept.stands ∙ c.loop-turn.invariant.plans;
    }

pub returns-clause-rest : goal.returns-clause-rest
returns-clause-rest g c =
    rests c.loop-turn.self c.next_possible.result c.in_default.is c.next_possible.ensures.some

pub returns-clause-headline : goal.returns-clause-headline
returns-clause-headline g c = headline_holds c.loop-turn.self
