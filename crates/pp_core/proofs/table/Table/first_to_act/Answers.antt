use Rattle.std.proofs.Common.{◌∙◌, true, false, sym, arith}
use Rattle.pp_model.specs.Turns.{can_act}
use Rattle.pp_core.specs.Parts.{parts_of}
use Rattle.pp_core.proofs.TurnTies.{Tells, seats_few, none_below_next, least_found, none_found}
use Rattle.pp_core.proofs.table.Table.first_to_act.Goals as goal

pub workers-worker-end-requires : goal.workers-worker-end-requires
workers-worker-end-requires c = seats_few (parts_of c.args.self.now) c.requires

pub returns-then-can_act : goal.returns-then-can_act
returns-then-can_act c =
    let f = parts_of c.args.self.now in
    let w = c.loop-worker.worker in
    let tells : Tells f can_act w true =
    λ s x st at. sym c.if-can_act.true ∙ c.can_act.ensures s x st at in
    least_found f can_act w c.loop-worker.invariant tells (omega (arith, c.workers-worker-end.ensures))

pub loop-worker-preserved : goal.loop-worker-preserved
loop-worker-preserved c =
    let f = parts_of c.args.self.now in
    let w = c.loop-worker.worker in
    let tells : Tells f can_act w false =
    λ s x st at. sym c.if-can_act.false ∙ c.can_act.ensures s x st at in
    none_below_next f can_act w c.loop-worker.invariant tells

pub returns : goal.returns
returns c =
    none_found (parts_of c.args.self.now) can_act c.loop-worker.worker c.loop-worker.invariant
    (omega (arith, c.workers-worker-end.ensures))
