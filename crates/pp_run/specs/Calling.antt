-- The calls of devices that events tell of.
use Rattle.std.specs.Prelude.{ℕ, ◌+◌, if◌then◌else◌, Some, List, [], ◌∷◌}
use Rattle.pp_model.specs.declared.moves.Came.{Came}
use Rattle.pp_model.specs.declared.moves.Came.TheVariants.{Fault, Image}
use Rattle.pp_model.specs.declared.moves.Move.{Move}
use Rattle.pp_model.specs.declared.moves.Move.TheVariants.{WriteDone, ReadDone, FlushBegin, FlushDone}
use Rattle.pp_model.specs.declared.event.Event.{Event}
use Rattle.pp_model.specs.declared.event.Event.TheVariants.{Submit, Step}
use Rattle.pp_pool.specs.Flushings.{from_after}

-- ---- calls for a worker

-- How many calls the move tells of, and how many that failed: a writing or a reading that is over.
abbrev pub calls_of : Move → ℕ
calls_of (WriteDone w ok) = 1
calls_of (ReadDone w came) = 1
calls_of _ = 0

abbrev pub failed_readings : Came → ℕ
failed_readings Fault = 1
failed_readings (Image page stamp) = 0

abbrev pub failed_calls_of : Move → ℕ
failed_calls_of (WriteDone w ok) = if ok then 0 else 1
failed_calls_of (ReadDone w came) = failed_readings came
failed_calls_of _ = 0

-- ---- calls for the flusher

abbrev pub ended_flushes_of : Move → ℕ
ended_flushes_of (FlushDone ok) = 1
ended_flushes_of _ = 0

abbrev pub failed_flushes_of : Move → ℕ
failed_flushes_of (FlushDone ok) = if ok then 0 else 1
failed_flushes_of _ = 0

-- How many flushes the move begins.
abbrev pub begun_flushes_of : Move → ℕ
begun_flushes_of (FlushBegin page) = 1
begun_flushes_of _ = 0

-- ---- a list of events

-- The sum of a number for each move.
abbrev pub at_event : (Move → ℕ) → Event → ℕ
at_event number (Submit plan) = 0
at_event number (Step did reply) = number did

abbrev pub total : (Move → ℕ) → List Event → ℕ
total number [] = 0
total number (e ∷ es) = at_event number e + total number es

abbrev pub calls_in : List Event → ℕ
calls_in es = total calls_of es

abbrev pub failed_calls_in : List Event → ℕ
failed_calls_in es = total failed_calls_of es

abbrev pub ended_flushes_in : List Event → ℕ
ended_flushes_in es = total ended_flushes_of es

abbrev pub failed_flushes_in : List Event → ℕ
failed_flushes_in es = total failed_flushes_of es

abbrev pub begun_flushes_in : List Event → ℕ
begun_flushes_in es = total begun_flushes_of es

-- The page number from which the next flush is sought behind these events, where it was sought from this one before them: behind
-- the page whose flush was begun last.
abbrev pub sought_behind : (from : ℕ) → List Event → ℕ
sought_behind from [] = from
sought_behind from (e ∷ es) = sought_behind (from_after from (Some e)) es
