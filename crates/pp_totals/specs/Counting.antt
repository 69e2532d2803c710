-- Totals of journals: plans that were submitted, taken and ended, and those figures of a report that events count for.
use Rattle.std.specs.Prelude.{ℕ, ◌+◌, ◌-◌, ◌^◌, min, Bool, true, false, List, [], ◌∷◌, ◌++◌, count_by, flat_map, codes}
use Rattle.std.specs.Fmt.{decimal}
use Rattle.pp_model.specs.declared.event.Event.{Event}
use Rattle.pp_model.specs.declared.event.Event.TheVariants.{Submit, Step}
use Rattle.pp_model.specs.declared.reply.Ending.TheVariants.{Done, Gone}
use Rattle.pp_model.specs.declared.reply.Reply.TheVariants.{Taken, Finished}
use Rattle.pp_report.specs.declared.figure.Figure.TheVariants as figure
use Rattle.pp_report.specs.Reports.{left, right, counts}
use Rattle.pp_totals.specs.declared.totals.Totals.{Totals}

-- ---- what an event counts for

-- A plan was submitted.
abbrev pub is_submit : Event → Bool
is_submit (Submit plan) = true
is_submit (Step did reply) = false

-- A worker took a plan: its move is answered so.
abbrev pub is_take : Event → Bool
is_take (Step did (Taken plan)) = true
is_take _ = false

-- A worker is done with its plan, at the plan's end.
abbrev pub is_done : Event → Bool
is_done (Step did (Finished Done)) = true
is_done _ = false

-- A worker is done with its plan before that end, after a fix that failed.
abbrev pub is_gone : Event → Bool
is_gone (Step did (Finished Gone)) = true
is_gone _ = false

-- ---- totals

-- How many of the events count for each. The figures are those of a report.
abbrev pub totals_of : List Event → Totals
totals_of es = record {
  submitted = count_by is_submit es;
  taken = count_by is_take es;
  done = count_by is_done es;
  gone = count_by is_gone es;
  moves = count_by (counts figure.Moves) es;
  hits = count_by (counts figure.Hits) es;
  loads = count_by (counts figure.Loads) es;
  read_faults = count_by (counts figure.ReadFaults) es;
  misreads = count_by (counts figure.Misreads) es;
  write_backs = count_by (counts figure.WriteBacks) es;
  write_faults = count_by (counts figure.WriteFaults) es;
  flushes = count_by (counts figure.Flushes) es;
}

-- The totals of no events.
abbrev pub none_counted : Totals
none_counted = record {
  submitted = 0;
  taken = 0;
  done = 0;
  gone = 0;
  moves = 0;
  hits = 0;
  loads = 0;
  read_faults = 0;
  misreads = 0;
  write_backs = 0;
  write_faults = 0;
  flushes = 0;
}

-- ---- sums

-- Two totals, added one by one.
abbrev pub plus : Totals → Totals → Totals
plus x y = record {
  submitted = x.submitted + y.submitted;
  taken = x.taken + y.taken;
  done = x.done + y.done;
  gone = x.gone + y.gone;
  moves = x.moves + y.moves;
  hits = x.hits + y.hits;
  loads = x.loads + y.loads;
  read_faults = x.read_faults + y.read_faults;
  misreads = x.misreads + y.misreads;
  write_backs = x.write_backs + y.write_backs;
  write_faults = x.write_faults + y.write_faults;
  flushes = x.flushes + y.flushes;
}

-- The sum of all these totals.
abbrev pub sum_of : List Totals → Totals
sum_of [] = none_counted
sum_of (x ∷ xs) = plus x (sum_of xs)

-- A number of 64 bits: this one, or the greatest where this is greater.
abbrev pub capped : ℕ → ℕ
capped n = min n (2 ^ 64 - 1)

-- Two totals, added one by one in 64 bits.
abbrev pub capped_sum : Totals → Totals → Totals
capped_sum x y = record {
  submitted = capped (x.submitted + y.submitted);
  taken = capped (x.taken + y.taken);
  done = capped (x.done + y.done);
  gone = capped (x.gone + y.gone);
  moves = capped (x.moves + y.moves);
  hits = capped (x.hits + y.hits);
  loads = capped (x.loads + y.loads);
  read_faults = capped (x.read_faults + y.read_faults);
  misreads = capped (x.misreads + y.misreads);
  write_backs = capped (x.write_backs + y.write_backs);
  write_faults = capped (x.write_faults + y.write_faults);
  flushes = capped (x.flushes + y.flushes);
}

-- ---- their text

-- Each total with its name, in the order of the lines.
abbrev pub named : Totals → List (List ℕ × ℕ)
named x =
    (codes "submitted", x.submitted) ∷ (codes "taken", x.taken) ∷ (codes "done", x.done) ∷ (codes "gone", x.gone)
    ∷ (codes "moves", x.moves) ∷ (codes "hits", x.hits) ∷ (codes "loads", x.loads)
    ∷ (codes "readfaults", x.read_faults) ∷ (codes "misreads", x.misreads) ∷ (codes "writebacks", x.write_backs)
    ∷ (codes "writefaults", x.write_faults) ∷ (codes "flushes", x.flushes) ∷ []

-- A name and its number, in the columns of a report's figures.
abbrev pub named_line : List ℕ × ℕ → List ℕ
named_line p = left 12 p.0 ++ right 9 (decimal p.1) ++ codes "\n"

-- A line for each total.
abbrev pub totals_text : Totals → List ℕ
totals_text x = flat_map named_line (named x)
