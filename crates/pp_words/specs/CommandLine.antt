-- The program's command line, as `clap` reads it.
use Rattle.std.specs.Prelude.{◌≡◌, Bool, true, false, List, [], ◌∷◌, Option, Some, None, codes, unwrap_or, if◌then◌else◌, not}
use Rattle.std.specs.Prelude.{ℕ, ◌<◌, ◌^◌, ◌==◌, ◌&&◌, ◌++◌, map, option_map, pos}
use Rattle.std.specs.Borrow.{Bor}
use Rattle.std.specs.List.{All, after_first, before_first, list_any}
use Rattle.std.specs.Str.{bytes_eq}
use Rattle.std.specs.Str.Parse.{digits_value, without_leading_plus}
use Rattle.std.specs.Fmt.{decimal}
use Rattle.std.specs.Option.{option_map_or}
use Rattle.clap.specs.Walk.{Row, Rule, all_of, first_of, one_of}
use Rattle.clap.specs.ValueTests.{is_unsigned_in}
use Rattle.clap.specs.declared.builder.action.ArgAction.TheVariants.{Append, SetTrue}
use Rattle.clap.specs.declared.builder.value_parser.ValueParser.TheVariants as value_parser
pub use Rattle.clap.specs.Walk.{Text}
use Rattle.clap.specs.Simple.{App, new_app, new_rule, on_top, subcommand_of, with_rule, with_subcommand}
use Rattle.clap.specs.Faults.{fault_of}
use Rattle.clap.specs.Kinds.{Kinds}
use Rattle.pp_words.specs.declared.check.CheckPaths.{CheckPaths}
use Rattle.pp_words.specs.declared.annotate.AnnotatePaths.{AnnotatePaths}
use Rattle.pp_words.specs.declared.simulate.SimulatePaths.{SimulatePaths}
use Rattle.pp_words.specs.declared.format.FormatPaths.{FormatPaths}
use Rattle.pp_words.specs.declared.run.RunPaths.{RunPaths}
use Rattle.pp_words.specs.declared.audit.AuditPaths.{AuditPaths}
use Rattle.pp_words.specs.declared.segments.SegmentsPaths.{SegmentsPaths}
use Rattle.pp_words.specs.declared.draw.DrawPaths.{DrawPaths}
use Rattle.pp_words.specs.declared.request.Job.{Job}
use Rattle.pp_words.specs.declared.request.Job.TheVariants.{Check, Annotate, Simulate, Format, Run, Audit}
use Rattle.pp_words.specs.declared.request.Job.TheVariants.{AuditSegments, Draw}

-- a path that has to be given, as a word of its own
abbrev pub path_rule : Text → Rule
path_rule id = record (new_rule id) { required = true; value_names = 1 }

-- paths of which one at least has to be given, each as a word of its own
abbrev pub paths_rule : Text → Rule
paths_rule id = record (path_rule id) { action = Some Append }

-- a path that may be given behind the option's name, which begins with two hyphens
abbrev pub option_rule : Text → Rule
option_rule id = record (new_rule id) { long = Some id; value_names = 1 }

-- a path that may be given behind `-o` or `--output`
abbrev pub output_rule : Rule
output_rule = record (option_rule (codes "output")) { short = Some 111 }

-- a flag, which is given by the option's name alone
abbrev pub flag_rule : Text → Rule
flag_rule id = record (new_rule id) { long = Some id; action = Some SetTrue }

-- a number of 32 bits that has to be given, as a word of its own
abbrev pub number_rule : Text → Rule
number_rule id = record (path_rule id) { parser = Some (value_parser.Signed (pos 0) (pos 4294967295)) }

-- `check SETTINGS PLAN CERT`
abbrev pub check_command : App
check_command =
    with_rule (with_rule (with_rule (new_app (codes "check")) (path_rule (codes "settings")))
    (path_rule (codes "plan"))) (path_rule (codes "certificate"))

-- `annotate [-o FILE] SETTINGS PLAN`
abbrev pub annotate_command : App
annotate_command =
    with_rule (with_rule (with_rule (new_app (codes "annotate")) (path_rule (codes "settings")))
    (path_rule (codes "plan"))) output_rule

-- `simulate SETTINGS SCRIPT PLAN...`
abbrev pub simulate_command : App
simulate_command =
    with_rule (with_rule (with_rule (new_app (codes "simulate")) (path_rule (codes "settings")))
    (path_rule (codes "script"))) (paths_rule (codes "plans"))

-- `format SETTINGS DEVICE`
abbrev pub format_command : App
format_command =
    with_rule (with_rule (new_app (codes "format")) (path_rule (codes "settings"))) (path_rule (codes "device"))

-- `run [--journal FILE] [--trace FILE] SETTINGS DEVICE SEED PLAN...`
abbrev pub run_command : App
run_command =
    with_rule (with_rule (with_rule (with_rule (with_rule (with_rule (new_app (codes "run"))
    (option_rule (codes "journal"))) (path_rule (codes "settings"))) (path_rule (codes "device")))
    (number_rule (codes "seed"))) (paths_rule (codes "plans"))) (option_rule (codes "trace"))

-- `audit [--lives] SETTINGS JOURNAL PLAN...`
abbrev pub audit_command : App
audit_command =
    with_rule (with_rule (with_rule (with_rule (new_app (codes "audit")) (path_rule (codes "settings")))
    (path_rule (codes "journal"))) (paths_rule (codes "plans"))) (flag_rule (codes "lives"))

-- `audit --segments [--ended] SETTINGS PLAN...`, the front of the words of an audit of segments
abbrev pub segments_command : App
segments_command =
    with_rule (with_rule (with_rule (with_rule (new_app (codes "audit")) (flag_rule (codes "segments")))
    (flag_rule (codes "ended"))) (path_rule (codes "settings"))) (paths_rule (codes "plans"))

-- `draw [-o FILE] SETTINGS JOURNAL PLAN...`
abbrev pub draw_command : App
draw_command =
    with_rule (with_rule (with_rule (with_rule (new_app (codes "draw")) (path_rule (codes "settings")))
    (path_rule (codes "journal"))) (paths_rule (codes "plans"))) output_rule

-- the program without its commands: it has a version, and wants a command
abbrev pub program_alone : App
program_alone = on_top (λ shape. record shape {
  has_version = true;
  subcommand_required = true;
  arg_required_else_help = true;
}) (new_app (codes "pinpool"))

-- the program with its commands `check`, `annotate`, `simulate`, `format`, `run`, `audit` and `draw`
abbrev pub program : App
program =
    with_subcommand (with_subcommand (with_subcommand (with_subcommand (with_subcommand (with_subcommand (with_subcommand
    program_alone check_command.top) annotate_command.top) simulate_command.top) format_command.top) run_command.top)
    audit_command.top) draw_command.top

-- the program with the one command that reads the front of the words of an audit of segments
abbrev pub segments_program : App
segments_program = with_subcommand program_alone segments_command.top

-- what words ask for: a command with the paths of its files
pub data Asked : Type 0 where
  check : (settings plan certificate : Text) → Asked
  annotate : (output : Option Text) → (settings plan : Text) → Asked
  simulate : (settings script : Text) → (plans : List Text) → Asked
  format : (settings device : Text) → Asked
  run : (journal trace : Option Text) → (settings device : Text) → (seed : ℕ) → (plans : List Text) → Asked
  audit : (lives : Bool) → (settings journal : Text) → (plans : List Text) → Asked
  segments : (ended : Bool) → (settings : Text) → (plans files : List Text) → Asked
  draw : (output : Option Text) → (settings journal : Text) → (plans : List Text) → Asked

-- a check of three files
abbrev pub asked_check : CheckPaths → Asked
asked_check p = check p.settings.now p.plan.now p.certificate.now

-- the text behind a reference, where there is one
abbrev pub text_in : Option (Bor Text) → Option Text
text_in = option_map (λ text. text.now)

-- a certificate made of two files, and written to a third where that is asked for
abbrev pub asked_annotate : AnnotatePaths → Asked
asked_annotate p = annotate (text_in p.output) p.settings.now p.plan.now

-- the texts behind references
abbrev pub texts : List (Bor Text) → List Text
texts = map (λ text. text.now)

-- a script played over a pool with the plans of some files
abbrev pub asked_simulate : SimulatePaths → Asked
asked_simulate p = simulate p.settings.now p.script.now (texts p.plans.items)

-- a device written anew under the settings of a file
abbrev pub asked_format : FormatPaths → Asked
asked_format p = format p.settings.now p.device.now

-- plans of some files run over a device, by the choices of a file where one is given, and the journal written where that is
-- asked for
abbrev pub asked_run : RunPaths → Asked
asked_run p =
    run (text_in p.journal) (text_in p.trace) p.settings.now p.device.now p.seed (texts p.plans.items)

-- a journal, or the journals of a pool's lives, audited against the plans of some files
abbrev pub asked_audit : AuditPaths → Asked
asked_audit p = audit p.lives p.settings.now p.journal.now (texts p.plans.items)

-- the segments of an endless pool in some files, audited against the prepared plans of others
abbrev pub asked_segments : SegmentsPaths → Asked
asked_segments p = segments p.ended p.settings.now (texts p.plans.items) (texts p.files.items)

-- a journal drawn with the plans of some files, and the picture written to a file where that is asked for
abbrev pub asked_draw : DrawPaths → Asked
asked_draw p = draw (text_in p.output) p.settings.now p.journal.now (texts p.plans.items)

-- what a job does
abbrev pub asked_by : Job → Asked
asked_by (Check p) = asked_check p
asked_by (Annotate p) = asked_annotate p
asked_by (Simulate p) = asked_simulate p
asked_by (Format p) = asked_format p
asked_by (Run p) = asked_run p
asked_by (Audit p) = asked_audit p
asked_by (AuditSegments p) = asked_segments p
asked_by (Draw p) = asked_draw p

-- the first value of an argument; the arguments of the commands are required, so they have one
abbrev pub value_among : List Row → Text → Text
value_among rows id = unwrap_or (first_of id rows) []

-- all values of an argument, of which one at least is required
abbrev pub values_among : List Row → Text → List Text
values_among rows id = unwrap_or (all_of id rows) []

-- the number of 32 bits that a text spells in decimal, with a plus before it or none; 0 where it spells none
abbrev pub number_in : Text → ℕ
number_in text =
    if is_unsigned_in 0 4294967295 text then digits_value 10 (without_leading_plus text) else 0

-- the number that an argument has; those of the commands are required, so they have one
abbrev pub number_among : List Row → Text → ℕ
number_among rows id = option_map_or number_in (one_of id rows) 0

-- whether a flag was given
abbrev pub flag_among : List Row → Text → Bool
flag_among rows id = option_map_or (λ text. bytes_eq text (codes "true")) (first_of id rows) false

-- the values of the three arguments of `check`
abbrev pub check_among : List Row → Asked
check_among rows = check (value_among rows (codes "settings")) (value_among rows (codes "plan"))
    (value_among rows (codes "certificate"))

-- the values of the option and of the two arguments of `annotate`
abbrev pub annotate_among : List Row → Asked
annotate_among rows = annotate (first_of (codes "output") rows) (value_among rows (codes "settings"))
    (value_among rows (codes "plan"))

-- the values of the arguments of `simulate`
abbrev pub simulate_among : List Row → Asked
simulate_among rows = simulate (value_among rows (codes "settings")) (value_among rows (codes "script"))
    (values_among rows (codes "plans"))

-- the values of the two arguments of `format`
abbrev pub format_among : List Row → Asked
format_among rows = format (value_among rows (codes "settings")) (value_among rows (codes "device"))

-- the values of the options and of the arguments of `run`
abbrev pub run_among : List Row → Asked
run_among rows = run (first_of (codes "journal") rows) (first_of (codes "trace") rows)
    (value_among rows (codes "settings")) (value_among rows (codes "device")) (number_among rows (codes "seed")) (values_among rows (codes "plans"))

-- the flag and the values of the arguments of `audit`
abbrev pub audit_among : List Row → Asked
audit_among rows = audit (flag_among rows (codes "lives")) (value_among rows (codes "settings"))
    (value_among rows (codes "journal")) (values_among rows (codes "plans"))

-- the flag and the values of the arguments of an audit of segments, with its files
abbrev pub segments_among : List Row → (files : List Text) → Asked
segments_among rows files = segments (flag_among rows (codes "ended")) (value_among rows (codes "settings"))
    (values_among rows (codes "plans")) files

-- the values of the option and of the arguments of `draw`
abbrev pub draw_among : List Row → Asked
draw_among rows = draw (first_of (codes "output") rows) (value_among rows (codes "settings"))
    (value_among rows (codes "journal")) (values_among rows (codes "plans"))

-- what a command of this name with the values of its arguments asks for
abbrev pub asked_of : Option (Text × List Row) → Option Asked
asked_of None = None
asked_of (Some command) =
    if bytes_eq command.0 (codes "check") then Some (check_among command.1)
    else if bytes_eq command.0 (codes "annotate") then Some (annotate_among command.1)
    else if bytes_eq command.0 (codes "simulate") then Some (simulate_among command.1)
    else if bytes_eq command.0 (codes "format") then Some (format_among command.1)
    else if bytes_eq command.0 (codes "run") then Some (run_among command.1)
    else if bytes_eq command.0 (codes "audit") then Some (audit_among command.1)
    else if bytes_eq command.0 (codes "draw") then Some (draw_among command.1)
    else None

-- what the command of an audit of segments asks for with these files, of which there is one at least
abbrev pub segments_of : Option (Text × List Row) → (files : List Text) → Option Asked
segments_of None files = None
segments_of (Some command) [] = None
segments_of (Some command) (file ∷ files) = Some (segments_among command.1 (file ∷ files))

-- what is found, where there is no fault
abbrev pub unless_faulty : Kinds → Option Asked → Option Asked
unless_faulty [] found = found
unless_faulty (kind ∷ kinds) found = None

-- the word behind which the files of an audit of segments stand
abbrev pub is_dashes : Text → Bool
is_dashes word = bytes_eq word (codes "--")

-- the flag of an audit of segments
abbrev pub is_segments_flag : Text → Bool
is_segments_flag word = bytes_eq word (codes "--segments")

-- whether the words, the program's name first, ask for an audit of segments: the second one is `audit`, and the flag
-- `--segments` stands behind it, before the first `--`
abbrev pub wants_segments : List Text → Bool
wants_segments (name ∷ command ∷ rest) =
    bytes_eq command (codes "audit") && list_any is_segments_flag (before_first is_dashes rest)
wants_segments words = false

-- the words of an audit of segments that `clap` reads: the name, the command, and what stands before the first `--`
-- behind it, which is all where there is none
abbrev pub front_words : List Text → List Text
front_words (name ∷ command ∷ rest) = name ∷ command ∷ before_first is_dashes rest
front_words words = words

-- the files of an audit of segments: the words behind the first `--` behind the command, each as it is
abbrev pub file_words : List Text → List Text
file_words (name ∷ command ∷ rest) = after_first is_dashes rest
file_words words = []

-- what words ask for that want no audit of segments: the command and the paths that `clap` matches, where it finds no
-- fault in them
abbrev pub asked_plainly : List Text → Option Asked
asked_plainly words = unless_faulty (fault_of program words) (asked_of (subcommand_of program words))

-- what an audit of segments asks for by its front and its files, where `clap` finds no fault in the front
abbrev pub asked_in_parts : (front files : List Text) → Option Asked
asked_in_parts front files =
    unless_faulty (fault_of segments_program front) (segments_of (subcommand_of segments_program front) files)

-- what the words ask for, the program's name first: an audit of segments where they want one, and else what the whole
-- program reads in them
abbrev pub asked : List Text → Option Asked
asked words =
    if wants_segments words then asked_in_parts (front_words words) (file_words words) else asked_plainly words

-- the faults that `clap` finds in the words, the program's name first; of an audit of segments in their front
abbrev pub faults_in : List Text → Kinds
faults_in words =
    if wants_segments words then fault_of segments_program (front_words words) else fault_of program words

-- the word doesn't begin with a hyphen, so it is no option
abbrev pub is_plain_word : Text → Bool
is_plain_word [] = true
is_plain_word (first ∷ rest) = not (first == 45)

-- the word is plain
abbrev pub IsPlainWord : Text → Type 0
IsPlainWord word = is_plain_word word ≡ true

-- plain words after a command are the paths of its files, in this order; the files of an audit of segments may be any
-- words
pub record PlainWordsAreThePaths : Type 0 where
  pub check : (name settings plan certificate : Text) → is_plain_word settings ≡ true → is_plain_word plan ≡ true
      → is_plain_word certificate ≡ true
      → asked (name ∷ codes "check" ∷ settings ∷ plan ∷ certificate ∷ []) ≡ Some (check settings plan certificate)
  pub annotate : (name settings plan : Text) → is_plain_word settings ≡ true → is_plain_word plan ≡ true
      → asked (name ∷ codes "annotate" ∷ settings ∷ plan ∷ []) ≡ Some (annotate None settings plan)
  pub simulate : (name settings script plan : Text) (plans : List Text) → is_plain_word settings ≡ true
      → is_plain_word script ≡ true → is_plain_word plan ≡ true → All IsPlainWord plans
      → asked (name ∷ codes "simulate" ∷ settings ∷ script ∷ plan ∷ plans)
      ≡ Some (simulate settings script (plan ∷ plans))
  pub format : (name settings device : Text) → is_plain_word settings ≡ true → is_plain_word device ≡ true
      → asked (name ∷ codes "format" ∷ settings ∷ device ∷ []) ≡ Some (format settings device)
  pub run : (name settings device plan : Text) (seed : ℕ) (plans : List Text) → seed < 2 ^ 32
      → is_plain_word settings ≡ true → is_plain_word device ≡ true → is_plain_word plan ≡ true
      → All IsPlainWord plans
      → asked (name ∷ codes "run" ∷ settings ∷ device ∷ decimal seed ∷ plan ∷ plans)
      ≡ Some (run None None settings device seed (plan ∷ plans))
  pub audit : (name settings journal plan : Text) (plans : List Text) → is_plain_word settings ≡ true
      → is_plain_word journal ≡ true → is_plain_word plan ≡ true → All IsPlainWord plans
      → asked (name ∷ codes "audit" ∷ settings ∷ journal ∷ plan ∷ plans)
      ≡ Some (audit false settings journal (plan ∷ plans))
  pub segments_ended : (name settings plan file : Text) (plans files : List Text) → is_plain_word settings ≡ true
      → is_plain_word plan ≡ true → All IsPlainWord plans
      → asked (name ∷ codes "audit" ∷ codes "--segments" ∷ codes "--ended" ∷ settings ∷ plan
      ∷ plans ++ codes "--" ∷ file ∷ files)
      ≡ Some (segments true settings (plan ∷ plans) (file ∷ files))
  pub segments : (name settings plan file : Text) (plans files : List Text) → is_plain_word settings ≡ true
      → is_plain_word plan ≡ true → All IsPlainWord plans
      → asked (name ∷ codes "audit" ∷ codes "--segments" ∷ settings ∷ plan ∷ plans ++ codes "--" ∷ file ∷ files)
      ≡ Some (segments false settings (plan ∷ plans) (file ∷ files))
  pub draw : (name settings journal plan : Text) (plans : List Text) → is_plain_word settings ≡ true
      → is_plain_word journal ≡ true → is_plain_word plan ≡ true → All IsPlainWord plans
      → asked (name ∷ codes "draw" ∷ settings ∷ journal ∷ plan ∷ plans)
      ≡ Some (draw None settings journal (plan ∷ plans))
