-- What a program prints where a plan isn't taken in.
use Rattle.std.specs.Prelude.{codes}
use Rattle.pp_text.specs.Refusals.{Row, row, nothing}
use Rattle.pp_model.specs.declared.refusals.SubmitError.{SubmitError}
use Rattle.pp_model.specs.declared.refusals.SubmitError.TheVariants.{OtherSettings, TooManyPlans, JournalLimit, NotPrepared}

abbrev pub submit_error_row : SubmitError → Row
submit_error_row OtherSettings = row 53 (codes "OtherSettings") nothing
submit_error_row TooManyPlans = row 51 (codes "TooManyPlans") nothing
submit_error_row JournalLimit = row 52 (codes "JournalLimit") nothing
submit_error_row NotPrepared = row 56 (codes "NotPrepared") nothing
