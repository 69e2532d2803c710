-- The number and the name of why words give no job. Help and faults of the words have none, since a text says it all.
use Rattle.std.specs.Prelude.{ℕ, Option, None, Some, List, codes}
use Rattle.pp_words.specs.declared.request.JobError.{JobError}
use Rattle.pp_words.specs.declared.request.JobError.TheVariants.{Shown, Words, OutOfMemory}

abbrev pub job_error_number : JobError → Option ℕ
job_error_number (Shown text) = None
job_error_number (Words text) = None
job_error_number OutOfMemory = Some 19

abbrev pub job_error_name : JobError → Option (List ℕ)
job_error_name (Shown text) = None
job_error_name (Words text) = None
job_error_name OutOfMemory = Some (codes "OutOfMemory")
