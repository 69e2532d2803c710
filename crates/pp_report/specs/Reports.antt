-- The report of a run: a line for each plan that was taken and ended, and nine figures.
use Rattle.std.specs.Prelude.{ℕ, ◌-◌, ◌==◌, Bool, true, false, ◌||◌, Option, None, Some, List, [], ◌∷◌, ◌++◌}
use Rattle.std.specs.Prelude.{length, replicate, option_map, option_and_then, count_by, flat_map, codes, if◌then◌else◌}
use Rattle.std.specs.List.{find, before_first, range_with_len}
use Rattle.std.specs.Option.{option_or}
use Rattle.std.specs.Fmt.{decimal}
use Rattle.pp_model.specs.declared.event.Event.{Event}
use Rattle.pp_model.specs.declared.event.Event.TheVariants.{Submit, Step}
use Rattle.pp_model.specs.declared.moves.Came.TheVariants.{Fault}
use Rattle.pp_model.specs.declared.moves.Move.TheVariants.{Take, ReadDone, WriteDone, Unfix, Latch, Unlatch, Choose}
use Rattle.pp_model.specs.declared.moves.Move.TheVariants.{Finish, FlushDone}
use Rattle.pp_model.specs.declared.reply.Failure.TheVariants.{Misread}
use Rattle.pp_model.specs.declared.reply.Ending.{Ending}
use Rattle.pp_model.specs.declared.reply.Reply.TheVariants.{Taken, Hit, Loaded, Failed, Finished}
use Rattle.pp_model.specs.Words.{ending_word}
use Rattle.pp_model.specs.WorkerParts.{part_of}
use Rattle.pp_report.specs.declared.record.RunRecord.{RunRecord}
use Rattle.pp_report.specs.declared.figure.Figure.{Figure}
use Rattle.pp_report.specs.declared.figure.Figure.TheVariants as figure
use Rattle.pp_report.specs.declared.row.Row.{Row}

-- ---- columns

-- The text at the right end of a column of this width. A longer text stands whole.
abbrev pub right : (width : ℕ) → List ℕ → List ℕ
right width text = replicate (width - length text) 32 ++ text

-- The text at the left end of a column of this width.
abbrev pub left : (width : ℕ) → List ℕ → List ℕ
left width text = text ++ replicate (width - length text) 32

-- ---- what an event counts for

-- A move that was done: every event but a submit.
abbrev pub is_move : Event → Bool
is_move (Submit plan) = false
is_move (Step did reply) = true

-- A fix whose page was cached.
abbrev pub is_hit : Event → Bool
is_hit (Step did (Hit frame mark)) = true
is_hit _ = false

-- A good reading of a fix's page.
abbrev pub is_load : Event → Bool
is_load (Step did (Loaded mark)) = true
is_load _ = false

-- A reading that the device failed.
abbrev pub is_read_fault : Event → Bool
is_read_fault (Step (ReadDone w Fault) reply) = true
is_read_fault _ = false

-- A reading that gave another image than the right one.
abbrev pub is_misread : Event → Bool
is_misread (Step did (Failed Misread)) = true
is_misread _ = false

-- A victim that was written back.
abbrev pub is_write_back : Event → Bool
is_write_back (Step (WriteDone w true) reply) = true
is_write_back _ = false

-- A writing that the device failed, of a victim or of a flush.
abbrev pub is_write_fault : Event → Bool
is_write_fault (Step (WriteDone w false) reply) = true
is_write_fault (Step (FlushDone false) reply) = true
is_write_fault _ = false

-- A flush that the device carried out, whether its page is clean then or was changed meanwhile.
abbrev pub is_flush : Event → Bool
is_flush (Step (FlushDone true) reply) = true
is_flush _ = false

-- An unfix, a latch, an unlatch or a choice: an action of a plan that is done as soon as it is asked.
abbrev pub is_use : Event → Bool
is_use (Step (Unfix w) reply) = true
is_use (Step (Latch w) reply) = true
is_use (Step (Unlatch w) reply) = true
is_use (Step (Choose w branch) reply) = true
is_use _ = false

-- An action of a plan that was done. A fix is done at its hit, or when its page is loaded; a failed one isn't, nor is
-- what a worker gives back as it leaves.
abbrev pub is_step : Event → Bool
is_step e = is_hit e || is_load e || is_use e

-- ---- a worker's turn at a plan

-- The plan and the worker of a take.
abbrev pub taken_in : Event → Option (ℕ × ℕ)
taken_in (Step (Take w) (Taken plan)) = Some (plan, w)
taken_in _ = None

-- The worker that takes the plan of this number, where the event is its take.
abbrev pub taker : (plan : ℕ) → Event → Option ℕ
taker plan e = option_and_then (λ taken. if taken.0 == plan then Some taken.1 else None) (taken_in e)

-- A worker is done with what it did before: it finishes, or takes a plan.
abbrev pub is_turn_end : Event → Bool
is_turn_end (Step (Take w) reply) = true
is_turn_end (Step (Finish w) reply) = true
is_turn_end _ = false

-- How a finish ends the plan.
abbrev pub ending_in : Event → Option Ending
ending_in (Step (Finish w) (Finished ending)) = Some ending
ending_in _ = None

-- What the worker does after its take: its events up to its next finish (or take, of which a true journal has none).
abbrev pub turn_of : (worker : ℕ) → List Event → List Event
turn_of worker after = before_first is_turn_end (part_of worker after)

-- How the worker's turn ends. None where the events after its take have no finish of it.
abbrev pub ending_of : (worker : ℕ) → List Event → Option Ending
ending_of worker after = option_and_then ending_in (find is_turn_end (part_of worker after))

-- ---- a plan's line

-- What is told of the turn at a plan that the worker takes before these events, if it ends.
abbrev pub row_after : (plan worker : ℕ) → List Event → Option Row
row_after plan worker after = option_map (λ ending. record {
  plan = plan;
  worker = worker;
  steps = count_by is_step (turn_of worker after);
  hits = count_by is_hit (turn_of worker after);
  loads = count_by is_load (turn_of worker after);
  ending = ending;
}) (ending_of worker after)

-- What is told of the plan: of the first turn at it that ends. None where none does.
abbrev pub row_of : (plan : ℕ) → List Event → Option Row
row_of plan [] = None
row_of plan (e ∷ es) =
    option_or (option_and_then (λ worker. row_after plan worker es) (taker plan e)) (row_of plan es)

-- The names of a plan's columns, each above its numbers' right end.
abbrev pub heading : List ℕ
heading = codes " plan worker    steps     hits    loads  outcome\n"

abbrev pub row_words : Row → List ℕ
row_words r =
    right 5 (decimal r.plan) ++ right 7 (decimal r.worker) ++ right 9 (decimal r.steps) ++ right 9 (decimal r.hits)
    ++ right 9 (decimal r.loads) ++ codes "  " ++ ending_word r.ending

-- The line of a plan. There is none of a plan that wasn't taken, or not ended.
abbrev pub row_line : Option Row → List ℕ
row_line None = []
row_line (Some r) = row_words r ++ codes "\n"

-- The lines of the plans below this number, in the order of their numbers.
abbrev pub plan_lines : (plans : ℕ) → List Event → List ℕ
plan_lines plans es = flat_map (λ plan. row_line (row_of plan es)) (range_with_len 0 plans)

-- ---- figures

-- What is counted for a figure. The dirty pages aren't counted from the events.
abbrev pub counts : Figure → Event → Bool
counts figure.Moves e = is_move e
counts figure.Hits e = is_hit e
counts figure.Loads e = is_load e
counts figure.ReadFaults e = is_read_fault e
counts figure.Misreads e = is_misread e
counts figure.WriteBacks e = is_write_back e
counts figure.WriteFaults e = is_write_fault e
counts figure.Flushes e = is_flush e
counts figure.Dirty e = false

-- What a figure comes to.
abbrev pub figure_of : RunRecord → Figure → ℕ
figure_of r figure.Dirty = r.dirty
figure_of r f = count_by (counts f) r.events.items

abbrev pub figure_name : Figure → List ℕ
figure_name figure.Moves = codes "moves"
figure_name figure.Hits = codes "hits"
figure_name figure.Loads = codes "loads"
figure_name figure.ReadFaults = codes "readfaults"
figure_name figure.Misreads = codes "misreads"
figure_name figure.WriteBacks = codes "writebacks"
figure_name figure.WriteFaults = codes "writefaults"
figure_name figure.Flushes = codes "flushes"
figure_name figure.Dirty = codes "dirty"

-- A figure's name, and the number that it comes to.
abbrev pub figure_words : (figure : Figure) → (number : ℕ) → List ℕ
figure_words f n = left 12 (figure_name f) ++ right 9 (decimal n)

-- The figures in their order.
abbrev pub figures : List Figure
figures =
    figure.Moves ∷ figure.Hits ∷ figure.Loads ∷ figure.ReadFaults ∷ figure.Misreads ∷ figure.WriteBacks
    ∷ figure.WriteFaults ∷ figure.Flushes ∷ figure.Dirty ∷ []

-- The lines of these figures.
abbrev pub figure_lines : RunRecord → List Figure → List ℕ
figure_lines r fs = flat_map (λ f. figure_words f (figure_of r f) ++ codes "\n") fs

-- ---- the report

-- The names of the columns, the plans' lines, and the figures.
abbrev pub report_text : RunRecord → List ℕ
report_text r = heading ++ plan_lines r.plans r.events.items ++ figure_lines r figures
