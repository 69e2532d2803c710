-- What is counted of the lines of a journal: the figures of its report, and the turns of workers at plans.
use Rattle.std.specs.Prelude.{◌≡◌, ℕ, ◌+◌, ◌==◌, Option, None, Some, List, [], ◌∷◌, ◌++◌, if◌then◌else◌}
use Rattle.std.specs.Prelude.{option_map, option_and_then, count_by}
use Rattle.std.specs.List.{filter_map}
use Rattle.std.specs.Option.{option_or}
use Rattle.pp_model.specs.declared.event.Event.{Event}
use Rattle.pp_model.specs.declared.event.Event.TheVariants as event
use Rattle.pp_model.specs.declared.moves.Move.TheVariants.{Finish}
use Rattle.pp_model.specs.declared.reply.Ending.{Ending}
use Rattle.pp_model.specs.declared.reply.Reply.TheVariants.{Finished}
use Rattle.pp_report.specs.declared.figure.Figure.{Figure}
use Rattle.pp_report.specs.declared.figure.Figure.TheVariants as figure
use Rattle.pp_report.specs.declared.line.Asked.{Asked}
use Rattle.pp_report.specs.declared.line.Asked.TheVariants.{Submit, Do}
use Rattle.pp_report.specs.declared.line.Told.{Told}
use Rattle.pp_report.specs.declared.line.Told.TheVariants.{Queued, Answer}
use Rattle.pp_report.specs.declared.line.Line.{Line}
use Rattle.pp_report.specs.Reading.{line_in}
use Rattle.pp_report.specs.Reports.{counts, taken_in}
use Rattle.pp_draw.specs.declared.tally.Turn.{Turn}
use Rattle.pp_draw.specs.declared.totals.Totals.{Totals}

-- ---- events

-- The event that a line tells: a plan that is queued, or a move with its reply.
abbrev pub event_by : Asked → Told → Option Event
event_by (Submit plan) Queued = Some (event.Submit plan)
event_by (Submit plan) (Answer reply) = None
event_by (Do did) Queued = None
event_by (Do did) (Answer reply) = Some (event.Step did reply)

abbrev pub event_of : Line → Option Event
event_of l = event_by l.asked l.told

abbrev pub event_in : (text : List ℕ) → Option Event
event_in text = option_and_then event_of (line_in text)

-- ---- figures

-- What is counted for a figure. The dirty pages aren't counted.
abbrev pub total_of : Totals → Figure → ℕ
total_of t figure.Moves = t.moves
total_of t figure.Hits = t.hits
total_of t figure.Loads = t.loads
total_of t figure.ReadFaults = t.read_faults
total_of t figure.Misreads = t.misreads
total_of t figure.WriteBacks = t.write_backs
total_of t figure.WriteFaults = t.write_faults
total_of t figure.Flushes = t.flushes
total_of t figure.Dirty = 0

-- What a report counts of the events that these lines tell.
abbrev pub count_of : Figure → List (List ℕ) → ℕ
count_of f lines = count_by (counts f) (filter_map event_in lines)

-- Each figure is as a report counts it.
abbrev pub AreTotals : Totals → List (List ℕ) → Type 0
AreTotals t lines = (f : Figure) → total_of t f ≡ count_of f lines

-- ---- turns

-- The worker of a finish, and how that ends its plan.
abbrev pub finished_in : Event → Option (ℕ × Ending)
finished_in (event.Step (Finish w) (Finished ending)) = Some (w, ending)
finished_in _ = None

-- How the event ends the plan of this worker, where it is the worker's finish.
abbrev pub finish_of : (worker : ℕ) → Event → Option Ending
finish_of w e = option_and_then (λ finished. if w == finished.0 then Some finished.1 else None) (finished_in e)

abbrev pub finish_in : (worker : ℕ) → (text : List ℕ) → Option Ending
finish_in w text = option_and_then (finish_of w) (event_in text)

-- The line of the worker's first finish among these, the first of which has this number, and how it ends the plan.
unfoldable pub end_in : (worker number : ℕ) → List (List ℕ) → Option (ℕ × Ending)
end_in w n [] = None
end_in w n (text ∷ texts) = option_or (option_map (λ ending. (n, ending)) (finish_in w text)) (end_in w (n + 1) texts)

-- The turn that a take of a plan by a worker begins, on the line of this number: it ends with the worker's next finish.
abbrev pub begun_by : (number : ℕ) → (after : List (List ℕ)) → Option (ℕ × ℕ) → List Turn
begun_by n after None = []
begun_by n after (Some taken) =
    record { plan = taken.0; worker = taken.1; from = n; end = end_in taken.1 (n + 1) after } ∷ []

abbrev pub begun_in : (number : ℕ) → (text : List ℕ) → (after : List (List ℕ)) → List Turn
begun_in n text after = begun_by n after (option_and_then taken_in (event_in text))

-- The turns that begin in these lines, the first of which has this number.
unfoldable pub turns_from : (number : ℕ) → List (List ℕ) → List Turn
turns_from n [] = []
turns_from n (text ∷ texts) = begun_in n text texts ++ turns_from (n + 1) texts
