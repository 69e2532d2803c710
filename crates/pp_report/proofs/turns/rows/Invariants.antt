use Rattle.std.proofs.Common.{◌≡◌, ℕ, ◌<◌, None, length, drop, slice_index_or}
use Rattle.std.specs.Option.{option_or}
use Rattle.pp_report.specs.Reports.{row_of}
use Rattle.pp_report.proofs.turns.rows.Given as goal

abbrev pub invariant-loop-place : goal.invariant-loop-place
invariant-loop-place l = record {
  one_each : length l.rows.items ≡ l.plans;
  noted : (k : ℕ) → k < l.plans
      → row_of k l.events.items ≡ option_or (slice_index_or l.rows.items k None) (row_of k (drop l.place l.events.items));
}
