use Rattle.std.proofs.Common.{◌≡◌, ◌+◌, ◌≤◌, count_by, drop}
use Rattle.pp_report.specs.Reports.{is_step, is_hit, is_load, turn_of, ending_of}
use Rattle.pp_report.proofs.turns.row_after.Given as goal

abbrev pub invariant-loop-place : goal.invariant-loop-place
invariant-loop-place l =
    let all = drop l.from l.events.items in
    let left = drop l.place l.events.items in record {
      few-steps : l.steps ≤ l.place;
      few-hits : l.hits ≤ l.place;
      few-loads : l.loads ≤ l.place;
      steps : count_by is_step (turn_of l.worker all) ≡ l.steps + count_by is_step (turn_of l.worker left);
      hits : count_by is_hit (turn_of l.worker all) ≡ l.hits + count_by is_hit (turn_of l.worker left);
      loads : count_by is_load (turn_of l.worker all) ≡ l.loads + count_by is_load (turn_of l.worker left);
      ending : ending_of l.worker all ≡ ending_of l.worker left;
    }
