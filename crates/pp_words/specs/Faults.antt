-- How the program tells a fault of its words.
use Rattle.std.specs.Prelude.{◌≡◌, ◌≢◌, ◌⊎◌, Bool, true, false, List, [], not, ⊤}
use Rattle.std.specs.List.{list_any}
use Rattle.clap.specs.Walk.{Text}
use Rattle.clap.specs.Kinds.{Kinds}
use Rattle.clap.specs.declared.error.kind.ErrorKind.{ErrorKind}
use Rattle.clap.specs.declared.error.kind.ErrorKind.TheVariants as kind
use Rattle.pp_words.specs.CommandLine.{faults_in}
use Rattle.pp_words.specs.declared.request.JobError.{JobError}
use Rattle.pp_words.specs.declared.request.JobError.TheVariants.{Shown, Words, OutOfMemory}

-- a request for the help or the version
abbrev pub is_request : ErrorKind → Bool
is_request kind.DisplayHelp = true
is_request kind.DisplayVersion = true
is_request _ = false

-- a mistake in the words, which is any fault of theirs that is no request
abbrev pub is_mistake : ErrorKind → Bool
is_mistake fault = not (is_request fault)

-- a request is shown, a mistake is told as a fault of the words, and want of memory is neither
abbrev pub IsToldAs : ErrorKind → JobError → Type 0
IsToldAs fault (Shown text) = is_request fault ≡ true
IsToldAs fault (Words text) = (is_request fault ≡ false) × (fault ≢ kind.OutOfMemory)
IsToldAs fault OutOfMemory = ⊤

-- words with these faults are shown the help or the version only where one of the faults asks for it, and are told to
-- be wrong only where one is a mistake, or where there is none and yet no job is found
abbrev pub IsToldBy : Kinds → JobError → Type 0
IsToldBy faults (Shown text) = list_any is_request faults ≡ true
IsToldBy faults (Words text) = (list_any is_mistake faults ≡ true) ⊎ (faults ≡ [])
IsToldBy faults OutOfMemory = ⊤

-- whether the words ask for the help or the version, the program's name first
abbrev pub asks_for_help : List Text → Bool
asks_for_help words = list_any is_request (faults_in words)

-- whether there is a mistake in the words, the program's name first, or no fault of theirs and yet no job is found
abbrev pub IsMistaken : List Text → Type 0
IsMistaken words = (list_any is_mistake (faults_in words) ≡ true) ⊎ (faults_in words ≡ [])
