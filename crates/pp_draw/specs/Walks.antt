-- What a walk over a journal does at a line.
use Rattle.std.specs.Prelude.{◌≡◌, ℕ, ◌+◌, ◌==◌, Bool, Option, None, Some, List, [], ◌∷◌, ◌++◌, Result, Ok, Err, map}
use Rattle.std.specs.Prelude.{if◌then◌else◌, option_map}
use Rattle.std.specs.Option.{option_or}
use Rattle.pp_text.specs.Steps.{Refuses}
use Rattle.pp_model.specs.Pool.{State}
use Rattle.pp_model.specs.declared.event.Event.{Event}
use Rattle.pp_model.specs.declared.reply.Ending.{Ending}
use Rattle.pp_report.specs.declared.error.AuditError.{AuditError}
use Rattle.pp_report.specs.declared.figure.Figure.{Figure}
use Rattle.pp_report.specs.Auditing.{Progress, pass_text}
use Rattle.pp_report.specs.Auditors.{IsAt}
use Rattle.pp_report.specs.Refusals.{is_audit_memory}
use Rattle.pp_report.specs.Reports.{taken_in}
use Rattle.pp_draw.specs.declared.column.Column.{Column}
use Rattle.pp_draw.specs.declared.extent.Extent.{Extent}
use Rattle.pp_draw.specs.declared.tally.Tally.{Tally}
use Rattle.pp_draw.specs.declared.tally.Turn.{Turn}
use Rattle.pp_draw.specs.declared.walk.Walk.{Walk}
use Rattle.pp_draw.specs.Columns.{Shows}
use Rattle.pp_draw.specs.Counted.{begun_in, count_of, end_in, finish_of, total_of}
use Rattle.pp_draw.specs.Drawing.{Begins}

-- There is one column more, which shows the state and the number of its last line.
abbrev pub Adds : Extent → (number : ℕ) → State → (old new : List Column) → Type 0
Adds e number s old new =
    (c : Column) × (new ≡ old ++ c ∷ []) × (c.line ≡ number) × Shows e.workers e.drawn.items c s

-- The line is passed, and the column that it ends is added; or it is refused, or memory ran out.
abbrev pub Passed : Extent → (ends : Bool) → (number : ℕ) → Progress → (text : List ℕ) → (old new : Walk)
    → Result (Unit {0}) AuditError → Type 0
Passed e ends number p text old new (Ok done) =
    (q : Progress) × (fresh : List Column) × (pass_text p number text ≡ Ok q) × IsAt new.auditor q
    × (new.columns.items ≡ old.columns.items ++ fresh) × Begins e ends number q.state fresh []
Passed e ends number p text old new (Err error) = Refuses (is_audit_memory error) error (pass_text p number text)

-- ---- what is counted

-- The turn, once the worker has finished on the line of this number.
abbrev pub ended_by : (number worker : ℕ) → Ending → Turn → Turn
ended_by n w ending t =
    record t { end = option_or t.end (if t.worker == w then Some (n, ending) else None) }

-- The turn, once the event on the line of this number has come.
abbrev pub after_event : (number : ℕ) → Event → Turn → Turn
after_event n e t = record t { end = option_or t.end (option_map (λ ending. (n, ending)) (finish_of t.worker e)) }

-- The turn that a take begins, which goes on.
abbrev pub opened_by : (number : ℕ) → Option (ℕ × ℕ) → List Turn
opened_by n None = []
opened_by n (Some taken) = record { plan = taken.0; worker = taken.1; from = n; end = None } ∷ []

abbrev pub with_event : (number : ℕ) → Event → List Turn → List Turn
with_event n e turns = map (after_event n e) turns ++ opened_by n (taken_in e)

-- The turn as it ends in these lines, the first of which has this number, unless it ended before.
abbrev pub settled : (number : ℕ) → List (List ℕ) → Turn → Turn
settled n lines t = record t { end = option_or t.end (end_in t.worker n lines) }

-- The line of this number is counted too.
pub record Counts (number : ℕ) (text : List ℕ) (old new : Tally) : Type 0 where
  pub totals : (f : Figure) → total_of new.totals f ≡ total_of old.totals f + count_of f (text ∷ [])
  pub turns : (after : List (List ℕ)) → map (settled (number + 1) after) new.turns.items
      ≡ map (settled number (text ∷ after)) old.turns.items ++ begun_in number text after
