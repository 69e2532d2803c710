use Rattle.std.proofs.Common.{◌<◌, length, arith, ap, sym, ◌∙◌}
use Rattle.pp_model.specs.WorkerParts.{names_worker}
use Rattle.pp_report.specs.Reports.{is_step, is_hit, is_load, is_turn_end}
use Rattle.pp_report.proofs.OneMore.{counted, few_more, ends_so}
use Rattle.pp_report.proofs.turns.row_after.Goals as goal

pub loop-place-preserved : goal.loop-place-preserved
loop-place-preserved c =
    let so_far = c.loop-place.invariant in
    let items = c.args.events.now.items in
    let place = c.loop-place.place in
    let event = c.event-event.result in
    let is = sym c.event-event.ensures in
    let here : place < length items = omega (arith, c.loop-place-test.true, c.len-place-end.ensures) in
    let names = ap (names_worker c.args.worker) is ∙ sym c.names_worker.ensures ∙ c.if-not-names_worker.false in
    let goes = ap is_turn_end is ∙ sym c.is_turn_end.ensures ∙ c.if-is_turn_end.false in
    record {
      few-steps = few_more _ _ _ _ c.from-steps.ensures so_far.few-steps;
      few-hits = few_more _ _ _ _ c.from-hits.ensures so_far.few-hits;
      few-loads = few_more _ _ _ _ c.from-loads.ensures so_far.few-loads;
      steps =
          counted is_step c.args.worker items place event _ _ _ _ here names goes
          (c.is_step.ensures ∙ ap is_step (sym is)) c.from-steps.ensures so_far.steps;
      hits =
          counted is_hit c.args.worker items place event _ _ _ _ here names goes
          (c.counts.ensures ∙ ap is_hit (sym is)) c.from-hits.ensures so_far.hits;
      loads =
          counted is_load c.args.worker items place event _ _ _ _ here names goes
          (c.counts-in-loop-place.ensures ∙ ap is_load (sym is)) c.from-loads.ensures so_far.loads;
      ending = so_far.ending ∙ ends_so c.args.worker items place event here names goes;
    }
