-- What a program prints where a plan isn't taken in by a book, and where a book isn't renewed.
use Rattle.std.specs.Prelude.{codes}
use Rattle.pp_text.specs.Refusals.{Row, row, nothing}
use Rattle.pp_model.specs.RenewErrors.{renew_error_row}
use Rattle.pp_model.specs.SubmitErrors.{submit_error_row}
use Rattle.pp_pool.specs.declared.error.BookError.{BookError}
use Rattle.pp_pool.specs.declared.error.BookError.TheVariants.{OutOfMemory, Refused}
use Rattle.pp_pool.specs.declared.error.BookRenewError.{BookRenewError}
use Rattle.pp_pool.specs.declared.error.BookRenewError.TheVariants as renew_errors

abbrev pub book_error_row : BookError → Row
book_error_row (Refused error) = submit_error_row error
book_error_row OutOfMemory = row 19 (codes "OutOfMemory") nothing

abbrev pub book_renew_error_row : BookRenewError → Row
book_renew_error_row (renew_errors.Refused error) = renew_error_row error
book_renew_error_row renew_errors.OutOfMemory = row 19 (codes "OutOfMemory") nothing
