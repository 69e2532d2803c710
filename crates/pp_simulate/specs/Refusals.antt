-- What a program prints where a script isn't played.
use Rattle.std.specs.Prelude.{Bool, true, false, codes}
use Rattle.pp_text.specs.Refusals.{Row, row, nothing}
use Rattle.pp_model.specs.SubmitErrors.{submit_error_row}
use Rattle.pp_simulate.specs.declared.error.SimulateError.{SimulateError}
use Rattle.pp_simulate.specs.declared.error.SimulateError.TheVariants.{Submit, TooManyPrepared, OutOfMemory}

-- The number and the name of a refusal.
abbrev pub simulate_error_row : SimulateError → Row
simulate_error_row (Submit error) = submit_error_row error
simulate_error_row TooManyPrepared = row 57 (codes "TooManyPrepared") nothing
simulate_error_row OutOfMemory = row 19 (codes "OutOfMemory") nothing

-- Want of memory says nothing of the plans and the script.
abbrev pub is_simulate_memory : SimulateError → Bool
is_simulate_memory (Submit error) = false
is_simulate_memory TooManyPrepared = false
is_simulate_memory OutOfMemory = true
