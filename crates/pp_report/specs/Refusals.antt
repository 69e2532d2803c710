-- What is printed of the faults of a journal, and which of them is want of memory.
use Rattle.std.specs.Prelude.{Bool, true, false, codes}
use Rattle.pp_text.specs.Refusals.{Row, row, nothing, at}
use Rattle.pp_report.specs.declared.error.AuditError.{AuditError}
use Rattle.pp_report.specs.declared.error.AuditError.TheVariants.{NotALine, NotPossible, ReplyDiffers, NotRenewed}
use Rattle.pp_report.specs.declared.error.AuditError.TheVariants.{Unfinished, OutOfMemory}

-- The number and the name of a fault, and the line that it is about.
abbrev pub audit_error_row : AuditError → Row
audit_error_row (NotALine line) = row 91 (codes "NotALine") (at line)
audit_error_row (NotPossible line asked next) = row 92 (codes "NotPossible") (at line)
audit_error_row (ReplyDiffers line told due) = row 93 (codes "ReplyDiffers") (at line)
audit_error_row (NotRenewed line why next) = row 92 (codes "NotPossible") (at line)
audit_error_row Unfinished = row 94 (codes "Unfinished") nothing
audit_error_row OutOfMemory = row 19 (codes "OutOfMemory") nothing

-- Want of memory says nothing of the journal.
abbrev pub is_audit_memory : AuditError → Bool
is_audit_memory (NotALine line) = false
is_audit_memory (NotPossible line asked next) = false
is_audit_memory (ReplyDiffers line told due) = false
is_audit_memory (NotRenewed line why next) = false
is_audit_memory Unfinished = false
is_audit_memory OutOfMemory = true
