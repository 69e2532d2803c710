-- What is printed of the refusals of a certificate's text, and which of them is want of memory.
use Rattle.std.specs.Prelude.{Bool, true, false, codes}
use Rattle.pp_text.specs.Refusals.{Row, row, nothing}
use Rattle.pp_cert.specs.declared.error.CertError.{CertError}
use Rattle.pp_cert.specs.declared.error.CertError.TheVariants.{NotJson, WrongField, UnknownName, TooMany, WrongKind}
use Rattle.pp_cert.specs.declared.error.CertError.TheVariants.{OutOfMemory}

-- The number and the name of a refusal; nothing follows them.
abbrev pub certificate_error_row : CertError → Row
certificate_error_row NotJson = row 21 (codes "NotJson") nothing
certificate_error_row WrongField = row 22 (codes "WrongField") nothing
certificate_error_row UnknownName = row 23 (codes "UnknownName") nothing
certificate_error_row TooMany = row 24 (codes "TooMany") nothing
certificate_error_row WrongKind = row 25 (codes "WrongKind") nothing
certificate_error_row OutOfMemory = row 19 (codes "OutOfMemory") nothing

-- Want of memory says nothing of the text.
abbrev pub is_certificate_memory : CertError → Bool
is_certificate_memory NotJson = false
is_certificate_memory WrongField = false
is_certificate_memory UnknownName = false
is_certificate_memory TooMany = false
is_certificate_memory WrongKind = false
is_certificate_memory OutOfMemory = true
