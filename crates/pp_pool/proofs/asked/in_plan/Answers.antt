use Rattle.std.proofs.Common.{rules}
use Rattle.pp_pool.proofs.Placing.{step_at, prepares_at}
use Rattle.pp_pool.proofs.Turning.{consults_at, slot_consults_at}
use Rattle.pp_pool.proofs.asked.in_plan.Goals as goal

pub returns-in-Choose-clause-step : goal.returns-in-Choose-clause-step
returns-in-Choose-clause-step g c = step_at c.choose.result c.args.layout.now c.args.session c.choose.ensures.step

pub returns-in-Choose-clause-prepares : goal.returns-in-Choose-clause-prepares
returns-in-Choose-clause-prepares g c = prepares_at c.choose.result c.args.guards.now c.choose.ensures.prepares

pub returns-in-Unfix-clause-step : goal.returns-in-Unfix-clause-step
returns-in-Unfix-clause-step g c = step_at c.with_slot.result c.args.layout.now c.args.session c.with_slot.ensures.step

pub returns-in-Latch-clause-step : goal.returns-in-Latch-clause-step
returns-in-Latch-clause-step g c =
    step_at c.with_slot-in-Latch.result c.args.layout.now c.args.session c.with_slot-in-Latch.ensures.step

pub returns-in-Unlatch-clause-step : goal.returns-in-Unlatch-clause-step
returns-in-Unlatch-clause-step g c =
    step_at c.with_slot-in-Unlatch.result c.args.layout.now c.args.session c.with_slot-in-Unlatch.ensures.step

pub returns-in-Scatter-clause-step : goal.returns-in-Scatter-clause-step
returns-in-Scatter-clause-step g c =
    step_at c.with_slot-in-Scatter.result c.args.layout.now c.args.session c.with_slot-in-Scatter.ensures.step

pub returns-in-Choose-clause-consults : goal.returns-in-Choose-clause-consults
returns-in-Choose-clause-consults g c =
    consults_at g.W.Work c.args.layout.now _ _ c.choose.result c.choose.ensures.consults

pub returns-in-Unfix-clause-consults : goal.returns-in-Unfix-clause-consults
returns-in-Unfix-clause-consults g c =
    slot_consults_at g.W.Work c.args.layout.now _ c.args.session c.in-Unfix.slot c.with_slot.result (search rules)
    c.with_slot.ensures.step

pub returns-in-Latch-clause-consults : goal.returns-in-Latch-clause-consults
returns-in-Latch-clause-consults g c =
    slot_consults_at g.W.Work c.args.layout.now _ c.args.session c.in-Latch.slot c.with_slot-in-Latch.result (search rules)
    c.with_slot-in-Latch.ensures.step

pub returns-in-Unlatch-clause-consults : goal.returns-in-Unlatch-clause-consults
returns-in-Unlatch-clause-consults g c =
    slot_consults_at g.W.Work c.args.layout.now _ c.args.session c.in-Unlatch.slot c.with_slot-in-Unlatch.result (search rules)
    c.with_slot-in-Unlatch.ensures.step

pub returns-in-Scatter-clause-consults : goal.returns-in-Scatter-clause-consults
returns-in-Scatter-clause-consults g c =
    slot_consults_at g.W.Work c.args.layout.now _ c.args.session c.in-Scatter.slot c.with_slot-in-Scatter.result (search rules)
    c.with_slot-in-Scatter.ensures.step
