-- What a program prints where a pool isn't renewed.
use Rattle.std.specs.Prelude.{codes}
use Rattle.pp_text.specs.Refusals.{Row, row, nothing}
use Rattle.pp_model.specs.declared.refusals.RenewError.{RenewError}
use Rattle.pp_model.specs.declared.refusals.RenewError.TheVariants.{NotAtRest, MarkTooHigh}

abbrev pub renew_error_row : RenewError → Row
renew_error_row NotAtRest = row 54 (codes "NotAtRest") nothing
renew_error_row (MarkTooHigh page) = row 55 (codes "MarkTooHigh") nothing
