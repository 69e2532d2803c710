-- What a whole run of the program may come to. No contract can say what a file holds when it is read, so its contents
-- are some bytes here.
use Rattle.std.specs.Prelude.{◌≡◌, ◌⊎◌, ℕ, Bool, true, false, List, [], ◌∷◌, ◌++◌, length, Option, None, Some, IfSome, is_some, Result, Ok, Err, IsOk, ⊤}
use Rattle.std.specs.List.{Contains}
use Rattle.pp_judge.specs.declared.device.DeviceSize.{DeviceSize}
use Rattle.pp_judge.specs.declared.error.JudgeError.{JudgeError}
use Rattle.pp_judge.specs.Judgement.{device_size_in, segments_audited_in, workload_in}
use Rattle.pp_explain.specs.Paragraphs.{IsAbout}
use Rattle.pp_cert.specs.Accepted.{Acceptance}
use Rattle.pp_settings.specs.Settings.{Configuration}
use Rattle.pp_run_command.specs.Runs.{MayEnd}
use Rattle.pp_judge.specs.Answers.{Answer, MayDraw, MaySimulate, audit_answer_of, certification_answer, judgement_answer}
use Rattle.pp_judge.specs.Answers.{refused, shown, made, drawn, misused, status_of}
use Rattle.pp_judge.specs.Answers.{formatted, out_of_memory, segments_answer, unread}
use Rattle.pp_words.specs.CommandLine.{Asked, Text, asked}
use Rattle.pp_words.specs.Faults.{IsMistaken, asks_for_help}
use Rattle.pp_words.specs.Texts.{IsShownText, is_ended}
use Rattle.pp_cli.specs.declared.files.Unread.{Unread}
use Rattle.pp_cli.specs.declared.files.Unread.TheVariants.{File, Memory}
use Rattle.pp_cli.specs.Clashes.{AreApart, IsClash}
use Rattle.pp_cli.specs.Faults.{IsKeptAt, IsUnheld, IsUnmade}
use Rattle.pp_cli.specs.Journals.{IsUnopened}
use Rattle.pp_cli.specs.Notes.{IsBeside}
use Rattle.pp_cli.specs.Telling.{IsTold}
use Rattle.pp_cli.specs.Traces.{IsMistraced}
use Rattle.pp_cli.specs.Warnings.{IsWarned}

-- what a command comes to that is stopped so
abbrev pub stopped_by : Unread → Answer
stopped_by (File fault) = unread fault.path.now fault.cause.now
stopped_by Memory = out_of_memory

-- the file at one of the paths can't be read, or memory ran out
abbrev pub IsStopped : (paths : List Text) → Answer → Type 0
IsStopped paths (unread path cause) = Contains paths path
IsStopped paths out_of_memory = ⊤
IsStopped paths _ = ⊥

-- what writing a device may come to: it is done, the file can't be written or is in use, or memory ran out
abbrev pub ComesOfWriting : (device : Text) → DeviceSize → Answer → Type 0
ComesOfWriting device size answer = (answer ≡ formatted size.pages) ⊎ IsUnmade device answer

-- what `format` may come to with settings of this size, or that are refused
abbrev pub ComesOfFormat : (device : Text) → Result DeviceSize JudgeError → Answer → Type 0
ComesOfFormat device (Ok size) answer = ComesOfWriting device size answer
ComesOfFormat device (Err refusal) answer = answer ≡ refused refusal

-- the answer has a text that may go to a file: a certificate or a picture
abbrev pub is_text_of : Answer → Bool
is_text_of (made text) = true
is_text_of (drawn text) = true
is_text_of _ = false

-- what an answer comes to whose text goes to the file at the path, where it has one
abbrev pub IsPutAt : (path : Text) → (is_text : Bool) → (answer told : Answer) → Type 0
IsPutAt path true answer told = IsKeptAt path told
IsPutAt path false answer told = told ≡ answer

-- what an answer comes to whose text goes to a file where one is named
abbrev pub IsPut : (output : Option Text) → (answer told : Answer) → Type 0
IsPut None answer told = told ≡ answer
IsPut (Some path) answer told = IsPutAt path (is_text_of answer) answer told

-- a path that may be missing, as a list
abbrev pub listed : Option Text → List Text
listed None = []
listed (Some path) = path ∷ []

-- the choices of a run aren't a text of choices
abbrev pub IsMistracedAt : (trace : Option Text) → Answer → Type 0
IsMistracedAt None answer = ⊥
IsMistracedAt (Some path) answer = IsMistraced path answer

-- the journal of a run isn't opened
abbrev pub IsUnopenedAt : (journal : Option Text) → Answer → Type 0
IsUnopenedAt None answer = ⊥
IsUnopenedAt (Some path) answer = IsUnopened path answer

-- a run isn't begun: the device isn't opened, the journal isn't, or memory ran out
abbrev pub IsUnprepared : (device : Text) → (journal : Option Text) → Answer → Type 0
IsUnprepared device journal answer = IsUnheld device answer ⊎ IsUnopenedAt journal answer

-- what `run` may come to with these settings and plans: its choices are no text of choices, it isn't begun, or what the run
-- comes to
abbrev pub MayEndTraced : Asked → Configuration × List Acceptance → Answer → Type 0
MayEndTraced (Asked.run journal trace settings device seed plans) w answer =
    IsMistracedAt trace answer ⊎ (IsUnprepared device journal answer ⊎ MayEnd device journal w answer)
MayEndTraced _ w answer = ⊥

-- the same where the settings and the plans may be refused
abbrev pub MayRunTraced : Asked → Result (Configuration × List Acceptance) JudgeError → Answer → Type 0
MayRunTraced command (Ok w) answer = MayEndTraced command w answer
MayRunTraced command (Err refusal) answer = answer ≡ refused refusal

-- the file of segments whose turn it is can't be read, or memory ran out: those before it are, with some bytes, segments
-- of a true journal with settings and plans of these bytes; what the files before it hold in fact isn't said here
pub record IsUnreadBehind (settings : List ℕ) (plans : List (List ℕ)) (files : List Text) (answer : Answer)
    : Type 0 where
  pub before : List Text
  pub path : Text
  pub behind : List Text
  pub files_are : files ≡ before ++ path ∷ behind
  pub bytes : List (List ℕ)
  pub long : length bytes ≡ length before
  pub right : IsOk (segments_audited_in false settings plans bytes)
  pub stops : IsStopped (path ∷ []) answer

-- what `audit --segments` may come to with settings and plans of these bytes: a file of segments can't be read in its
-- turn, or it is what some bytes come to as the contents of these files
abbrev pub ComesOfSegments : (ended : Bool) → (settings : List ℕ) → (plans : List (List ℕ)) → (files : List Text)
    → Answer → Type 0
ComesOfSegments ended settings plans files answer = IsUnreadBehind settings plans files answer
    ⊎ ((bytes : List (List ℕ)) × (length bytes ≡ length files) × (answer ≡ segments_answer ended settings plans bytes))

-- what a command may come to: a file of it can't be read, or it is what some bytes come to as the contents of its
-- files, one string of bytes for each path, in the order of the words
abbrev pub ComesOf : Asked → Answer → Type 0
ComesOf (Asked.check settings plan certificate) answer = IsStopped (settings ∷ plan ∷ certificate ∷ []) answer
    ⊎ ((s p c : List ℕ) × (answer ≡ judgement_answer s p c))
ComesOf (Asked.annotate output settings plan) answer = IsStopped (settings ∷ plan ∷ []) answer
    ⊎ ((s p : List ℕ) × IsPut output (certification_answer s p) answer)
ComesOf (Asked.simulate settings script plans) answer = IsStopped (settings ∷ script ∷ plans) answer
    ⊎ ((s c : List ℕ) × (ps : List (List ℕ)) × (length ps ≡ length plans) × MaySimulate s c ps answer)
ComesOf (Asked.format settings device) answer = IsStopped (settings ∷ []) answer
    ⊎ ((s : List ℕ) × ComesOfFormat device (device_size_in s) answer)
ComesOf (Asked.run journal trace settings device seed plans) answer = IsStopped (settings ∷ plans) answer
    ⊎ (IsStopped (listed trace) answer
    ⊎ ((s : List ℕ) × (ps : List (List ℕ)) × (length ps ≡ length plans)
    × MayRunTraced (Asked.run journal trace settings device seed plans) (workload_in s ps) answer))
ComesOf (Asked.audit lives settings journal plans) answer = IsStopped (settings ∷ journal ∷ plans) answer
    ⊎ ((s j : List ℕ) × (ps : List (List ℕ)) × (length ps ≡ length plans) × (answer ≡ audit_answer_of lives s j ps))
ComesOf (Asked.segments ended settings plans files) answer = IsStopped (settings ∷ plans) answer
    ⊎ ((s : List ℕ) × (ps : List (List ℕ)) × (length ps ≡ length plans) × ComesOfSegments ended s ps files answer)
ComesOf (Asked.draw output settings journal plans) answer = IsStopped (settings ∷ journal ∷ plans) answer
    ⊎ ((s j : List ℕ) × (ps : List (List ℕ)) × (drawing : Answer) × (length ps ≡ length plans) × MayDraw s j ps drawing
    × IsPut output drawing answer)

-- the files that a command reads texts from: the settings, then the certificate, the script or the journal, then the
-- plans, then the files of segments
abbrev pub files_of : Asked → List Text
files_of (Asked.check settings plan certificate) = settings ∷ certificate ∷ plan ∷ []
files_of (Asked.annotate output settings plan) = settings ∷ plan ∷ []
files_of (Asked.simulate settings script plans) = settings ∷ script ∷ plans
files_of (Asked.format settings device) = settings ∷ []
files_of (Asked.run journal trace settings device seed plans) = settings ∷ plans
files_of (Asked.audit lives settings journal plans) = settings ∷ journal ∷ plans
files_of (Asked.segments ended settings plans files) = (settings ∷ plans) ++ files
files_of (Asked.draw output settings journal plans) = settings ∷ journal ∷ plans

-- what standard error may have behind an answer of a command: behind the report of a run what is told of it beside, and else
-- nothing, or a paragraph about one of its files, which explains a refusal or is a warning
abbrev pub ExplainsOf : Asked → Answer → (why : Option (List ℕ)) → Type 0
ExplainsOf (Asked.run journal trace settings device seed plans) answer why =
    IsBeside (settings ∷ plans) journal (is_some trace) answer why
ExplainsOf command answer why = IfSome why (IsAbout (files_of command))

-- the same of what words ask for
abbrev pub Explains : Option Asked → Answer → (why : Option (List ℕ)) → Type 0
Explains (Some command) answer why = ExplainsOf command answer why
Explains None answer why = why ≡ None

-- what standard error has before an answer: before a run the warnings of its files and of its device, as far as it takes
-- them, and else nothing
abbrev pub IsWarnedBy : {E : Type 0} → (E → Option (List ℕ)) → Asked → (err err-after : E) → Type 0
IsWarnedBy errors_of (Asked.run journal trace settings device seed plans) err err-after =
    IsWarned errors_of (settings ∷ plans) device err err-after
IsWarnedBy errors_of command err err-after = err-after ≡ err

-- the same of what words ask for
abbrev pub IsWarnedOf : {E : Type 0} → (E → Option (List ℕ)) → Option Asked → (err err-after : E) → Type 0
IsWarnedOf errors_of None err err-after = err-after ≡ err
IsWarnedOf errors_of (Some command) err err-after = IsWarnedBy errors_of command err err-after

-- what words may come to that ask for no command: the help or the version where they ask for that, a bad command line
-- where there is a mistake in them, of which nothing that isn't printable but line feeds is shown; the text ends with a
-- line feed
abbrev pub ComesOfNothing : List Text → Answer → Type 0
ComesOfNothing words (shown text) = (asks_for_help words ≡ true) × (is_ended text ≡ true)
ComesOfNothing words (misused text) = IsMistaken words × (is_ended text ≡ true) × IsShownText text
ComesOfNothing words out_of_memory = ⊤
ComesOfNothing words _ = ⊥

-- what words may come to that ask for this: two of them name one file of which one is written, or the words for the
-- written files are none of the others and it is what the command comes to
abbrev pub ComesOfAsked : Option Asked → List Text → Answer → Type 0
ComesOfAsked (Some command) words answer = IsClash command answer ⊎ (AreApart command × ComesOf command answer)
ComesOfAsked None words answer = ComesOfNothing words answer

-- what words may come to
abbrev pub ComesOfWords : List Text → Answer → Type 0
ComesOfWords words answer = ComesOfAsked (asked words) words answer

-- what the program does of these words, its name first: before a run it may warn of its plans and the device; the answer that
-- they come to is told, with what comes behind it; and the status is that of what is told in the end
abbrev pub IsRun : {O E : Type 0} → (O → Option (List ℕ)) → (E → Option (List ℕ)) → List Text → ℕ
    → (out out-after : O) → (err err-after : E) → Type 0
IsRun {E = E} bytes_of errors_of words status out out-after err err-after =
    (answer told : Answer) × (why : Option (List ℕ)) × (warned : E) × ComesOfWords words answer
    × Explains (asked words) answer why × IsWarnedOf errors_of (asked words) err warned
    × IsTold bytes_of errors_of why answer told out out-after warned err-after × (status ≡ status_of told)
