-- What a program prints where a core isn't made, a run isn't begun, or a plan isn't prepared.
use Rattle.std.specs.Prelude.{codes}
use Rattle.pp_text.specs.Refusals.{Row, row, nothing}
use Rattle.pp_core.specs.declared.error.CoreError.{CoreError}
use Rattle.pp_core.specs.declared.error.CoreError.TheVariants.{OutOfMemory}
use Rattle.pp_core.specs.declared.error.PrepareError.{PrepareError}
use Rattle.pp_core.specs.declared.error.PrepareError.TheVariants.{OtherSettings, TooManyPrepared}

abbrev pub core_error_row : CoreError → Row
core_error_row OutOfMemory = row 19 (codes "OutOfMemory") nothing

abbrev pub prepare_error_row : PrepareError → Row
prepare_error_row OtherSettings = row 53 (codes "OtherSettings") nothing
prepare_error_row TooManyPrepared = row 57 (codes "TooManyPrepared") nothing
