-- What a worker has after a move.
use Rattle.pp_model.specs.Pool.{State}
use Rattle.pp_model.specs.Reached.{IsReached}
use Rattle.pp_model.proofs.Changes.{refused_by}
use Rattle.pp_core.specs.AfterMoves.{AfterMoves}
use Rattle.pp_core.proofs.AfterFixes.{taken_acts, hit_fixes, hit_gathers, fix_sends, fix_sends_victim, written_reads}
use Rattle.pp_core.proofs.AfterFixes.{write_fails, read_loads, read_fails}
use Rattle.pp_core.proofs.AfterFrames.{hit_frame, fix_frame, fix_victim_frame, written_frame}
use Rattle.pp_core.proofs.AfterActs.{unfix_empties, scatter_empties, latch_holds, unlatch_frees, choose_acts, unwind_empties}
use Rattle.pp_core.proofs.AfterActs.{unwind_scatters, finish_idles}
use Rattle.pp_core.proofs.AfterFlushes.{flush_begins, flush_ends, workers_leave_flush}
use Rattle.pp_core.proofs.AfterOthers.{shared_keeps_mark, done_found, other_workers_stay, plans_leave_workers, exclusive_alone}
use Rattle.pp_core.proofs.AfterOthers.{exclusive_keeps_mark, victim_keeps_mark, mark_stays, one_kind}

pub after_moves : (s : State) → IsReached s → AfterMoves s
after_moves s h = record {
  refused = refused_by s;
  found = done_found s h;
  taken = taken_acts s h;
  hit = hit_fixes s h;
  hit_gather = hit_gathers s h;
  sent = fix_sends s h;
  sent_victim = fix_sends_victim s h;
  written = written_reads s h;
  not_written = write_fails s h;
  loaded = read_loads s h;
  not_read = read_fails s h;
  hit_frame = hit_frame s h;
  sent_frame = fix_frame s h;
  sent_victim_frame = fix_victim_frame s h;
  written_frame = written_frame s h;
  unfixed = unfix_empties s h;
  scattered = scatter_empties s h;
  latched = latch_holds s h;
  unlatched = unlatch_frees s h;
  chosen = choose_acts s h;
  unwound = unwind_empties s h;
  unwound_bundle = unwind_scatters s h;
  finished = finish_idles s h;
  flush_begun = flush_begins s h;
  flush_ended = flush_ends s;
  flush_left = workers_leave_flush s;
  others = other_workers_stay s;
  plans = plans_leave_workers s;
  alone = exclusive_alone s h;
  exclusive_mark = exclusive_keeps_mark s h;
  shared_mark = shared_keeps_mark s h;
  victim_mark = victim_keeps_mark s h;
  mark = mark_stays s h;
  one_kind = one_kind s h;
}
