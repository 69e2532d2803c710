-- What is printed of the refusals of a script, and which of them is want of memory.
use Rattle.std.specs.Prelude.{Bool, true, false, codes}
use Rattle.pp_text.specs.Refusals.{Row, row, nothing, at}
use Rattle.pp_script.specs.declared.error.ScriptError.{ScriptError}
use Rattle.pp_script.specs.declared.error.ScriptError.TheVariants.{NotACue, OutOfMemory}

-- The number and the name of a refusal, and the line that it is about.
abbrev pub script_error_row : ScriptError → Row
script_error_row (NotACue line) = row 95 (codes "NotACue") (at line)
script_error_row OutOfMemory = row 19 (codes "OutOfMemory") nothing

-- Want of memory says nothing of the text.
abbrev pub is_script_memory : ScriptError → Bool
is_script_memory (NotACue line) = false
is_script_memory OutOfMemory = true
