-- What is printed of what the maker of certificates answers, and the place that it is about.
use Rattle.std.specs.Prelude.{ℕ, Bool, true, false, Option, None, codes}
use Rattle.pp_text.specs.Refusals.{Row, row, nothing}
use Rattle.pp_cert.specs.CheckErrors.{check_error_row, check_error_place}
use Rattle.pp_annotate.specs.declared.error.AnnotateError.{AnnotateError}
use Rattle.pp_annotate.specs.declared.error.AnnotateError.TheVariants.{Fault, OutOfMemory}

-- The number and the name of a refusal, and the place that it is about: a fault's are those of the check.
abbrev pub annotate_error_row : AnnotateError → Row
annotate_error_row (Fault fault) = check_error_row fault
annotate_error_row OutOfMemory = row 19 (codes "OutOfMemory") nothing

-- The place that a refusal is about, if it is about one.
abbrev pub annotate_error_place : AnnotateError → Option ℕ
annotate_error_place (Fault fault) = check_error_place fault
annotate_error_place OutOfMemory = None

-- Want of memory, which says nothing of the plan.
abbrev pub is_annotate_memory : AnnotateError → Bool
is_annotate_memory (Fault fault) = false
is_annotate_memory OutOfMemory = true
