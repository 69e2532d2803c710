-- What a program prints where a plan isn't taken in by a ledger.
use Rattle.std.specs.Prelude.{codes}
use Rattle.pp_text.specs.Refusals.{Row, row, nothing}
use Rattle.pp_model.specs.SubmitErrors.{submit_error_row}
use Rattle.pp_ledger.specs.declared.error.LedgerError.{LedgerError}
use Rattle.pp_ledger.specs.declared.error.LedgerError.TheVariants.{SegmentFull, Refused}

-- The number and the name: 58 where the segment is full, else the core's.
abbrev pub ledger_error_row : LedgerError → Row
ledger_error_row SegmentFull = row 58 (codes "SegmentFull") nothing
ledger_error_row (Refused error) = submit_error_row error
