-- What a program prints where a run gives no record.
use Rattle.std.specs.Prelude.{ℕ, codes}
use Rattle.pp_text.specs.Refusals.{Row, row, nothing, worker}
use Rattle.pp_model.specs.SubmitErrors.{submit_error_row}
use Rattle.pp_pool.specs.declared.error.BookError.{BookError}
use Rattle.pp_pool.specs.declared.error.BookError.TheVariants as book_errors
use Rattle.pp_pool.specs.declared.error.BookRenewError.{BookRenewError}
use Rattle.pp_pool.specs.declared.error.BookRenewError.TheVariants as renew_errors
use Rattle.pp_run.specs.declared.error.RunError.{RunError}
use Rattle.pp_run.specs.declared.error.RunError.TheVariants.{Refused, OutOfMemory, Mismatch, Broken, NoThread}

abbrev pub run_error_row : RunError → Row
run_error_row (Refused error) = submit_error_row error
run_error_row OutOfMemory = row 19 (codes "OutOfMemory") nothing
run_error_row (Mismatch w) = row 81 (codes "Mismatch") (worker w)
run_error_row (Broken w) = row 82 (codes "Broken") (worker w)
run_error_row (NoThread w) = row 83 (codes "NoThread") (worker w)

-- Why there is no run where a plan isn't taken in.
abbrev pub run_error_of : BookError → RunError
run_error_of (book_errors.Refused error) = Refused error
run_error_of book_errors.OutOfMemory = OutOfMemory

-- Why a pool isn't renewed whose book says so, where the flusher has this number.
abbrev pub unrenewed_by : (flusher : ℕ) → BookRenewError → RunError
unrenewed_by w renew_errors.OutOfMemory = OutOfMemory
unrenewed_by w (renew_errors.Refused error) = Broken w
