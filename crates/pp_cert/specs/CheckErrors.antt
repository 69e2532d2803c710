-- What is printed of the faults that the check answers, and their places.
use Rattle.std.specs.Prelude.{ℕ, Option, None, Some, codes}
use Rattle.pp_text.specs.Refusals.{Row, row, nothing, at}
use Rattle.pp_cert.specs.declared.check_error.CheckError.{CheckError}
use Rattle.pp_cert.specs.declared.check_error.CheckError.TheVariants.{NotesShort, NotesLong, NoteDiffers, SlotInUse}
use Rattle.pp_cert.specs.declared.check_error.CheckError.TheVariants.{NotFixed, StillLatched, NotLatched, AgainstOrder}
use Rattle.pp_cert.specs.declared.check_error.CheckError.TheVariants.{OverPeak, LoopChanges, BranchDiffers, EndsHolding}
use Rattle.pp_cert.specs.declared.check_error.CheckError.TheVariants.{StepsTooFew, StepsTooMany, PeakTooBig}
use Rattle.pp_cert.specs.declared.check_error.CheckError.TheVariants.{OtherSettings}

-- The number and the name of a fault, and the place of the note that it is about.
abbrev pub check_error_row : CheckError → Row
check_error_row (NotesShort k) = row 31 (codes "NotesShort") (at k)
check_error_row (NotesLong k) = row 32 (codes "NotesLong") (at k)
check_error_row (NoteDiffers k) = row 33 (codes "NoteDiffers") (at k)
check_error_row (SlotInUse k) = row 34 (codes "SlotInUse") (at k)
check_error_row (NotFixed k) = row 35 (codes "NotFixed") (at k)
check_error_row (StillLatched k) = row 36 (codes "StillLatched") (at k)
check_error_row (NotLatched k) = row 37 (codes "NotLatched") (at k)
check_error_row (AgainstOrder k) = row 38 (codes "AgainstOrder") (at k)
check_error_row (OverPeak k) = row 39 (codes "OverPeak") (at k)
check_error_row (LoopChanges k) = row 40 (codes "LoopChanges") (at k)
check_error_row (BranchDiffers k) = row 41 (codes "BranchDiffers") (at k)
check_error_row (EndsHolding k) = row 42 (codes "EndsHolding") (at k)
check_error_row StepsTooFew = row 43 (codes "StepsTooFew") nothing
check_error_row StepsTooMany = row 44 (codes "StepsTooMany") nothing
check_error_row PeakTooBig = row 45 (codes "PeakTooBig") nothing
check_error_row OtherSettings = row 46 (codes "OtherSettings") nothing

-- The place of the note that a fault is about, if it is about one.
abbrev pub check_error_place : CheckError → Option ℕ
check_error_place (NotesShort k) = Some k
check_error_place (NotesLong k) = Some k
check_error_place (NoteDiffers k) = Some k
check_error_place (SlotInUse k) = Some k
check_error_place (NotFixed k) = Some k
check_error_place (StillLatched k) = Some k
check_error_place (NotLatched k) = Some k
check_error_place (AgainstOrder k) = Some k
check_error_place (OverPeak k) = Some k
check_error_place (LoopChanges k) = Some k
check_error_place (BranchDiffers k) = Some k
check_error_place (EndsHolding k) = Some k
check_error_place StepsTooFew = None
check_error_place StepsTooMany = None
check_error_place PeakTooBig = None
check_error_place OtherSettings = None
