-- That a report leaves no plan out.
use Rattle.std.specs.Prelude.{◌≡◌, ℕ, ◌<◌, Some, List, ◌++◌, length, map, flat_map, IsSome}
use Rattle.std.specs.List.{range_with_len}
use Rattle.pp_cert.specs.Accepted.{Acceptance}
use Rattle.pp_model.specs.declared.event.Event.{Event}
use Rattle.pp_model.specs.Pool.{State}
use Rattle.pp_model.specs.Journals.{replay, IsTrueFrom}
use Rattle.pp_model.specs.Turns.{IsUnderWay}
use Rattle.pp_report.specs.declared.record.RunRecord.{RunRecord}
use Rattle.pp_report.specs.declared.row.Row.{Row}
use Rattle.pp_report.specs.Reports.{row_of, row_line, heading, figures, figure_lines}

-- The events are a true journal of these plans from a state on in which no plan was taken yet, as none was where a life begins, the
-- first or a later one. All plans are submitted in it, and at its end none waits or is with a worker, and no flush is in flight.
pub record IsComplete (o : State) (plans : List Acceptance) (es : List Event) : Type 0 where
  pub none_taken : o.taken ≡ 0
  pub is_true : IsTrueFrom plans o es
  pub submitted : (replay plans o es).plans ≡ plans
  pub over : IsUnderWay (replay plans o es) → ⊥

-- Then each plan was taken, and the turn of the worker that took it ends: there is something to tell of it.
abbrev pub EachHasRow : List Event → Type 0
EachHasRow es =
    (o : State) (plans : List Acceptance) → IsComplete o plans es → (n : ℕ) → n < length plans
    → IsSome (row_of n es)

-- The text has one line for each plan, in the order of their numbers, between the names of the columns and the figures.
pub record HasEachPlan (r : RunRecord) (text : List ℕ) : Type 0 where
  pub rows : List Row
  pub each : map (λ row. row.plan) rows ≡ range_with_len 0 r.plans
  pub text_is : text ≡ heading ++ flat_map (λ row. row_line (Some row)) rows ++ figure_lines r figures

-- So has the report of a record whose events are such a journal of so many plans.
abbrev pub TellsEachPlan : RunRecord → List ℕ → Type 0
TellsEachPlan r text =
    (o : State) (plans : List Acceptance) → IsComplete o plans r.events.items → r.plans ≡ length plans
    → HasEachPlan r text
