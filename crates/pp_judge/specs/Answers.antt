-- What a run comes to: the answer, its status, and where it is told.
use Rattle.std.specs.Prelude.{◌≡◌, ◌⊎◌, ◌+◌, ◌*◌, ℕ, Bool, true, false, List, Result, Ok, Err, if◌then◌else◌}
use Rattle.std.specs.Prelude.{String, map, string_bytes, ⊤}
use Rattle.pp_text.specs.Steps.{Refuses}
use Rattle.pp_cert.specs.Accepted.{Acceptance}
use Rattle.pp_settings.specs.Limits.{step_events, plan_events}
use Rattle.pp_core.specs.Opening.{kept_of}
use Rattle.pp_model.specs.Pool.{opening}
use Rattle.pp_model.specs.Submitting.{after_submits}
use Rattle.pp_simulate.specs.Simulating.{KeepsNoMore, Simulates}
use Rattle.pp_simulate.specs.declared.error.SimulateError.TheVariants.{Submit, TooManyPrepared}
use Rattle.pp_judge.specs.Judgement.{Stage, audited_in, certification, judgement, lives_audited_in, staged_in}
use Rattle.pp_judge.specs.Judgement.{segments_audited_in}
use Rattle.pp_judge.specs.Steps.{is_want_of_memory}
use Rattle.pp_judge.specs.declared.contents.Contents.{Contents}
use Rattle.pp_judge.specs.declared.contents.Contents.TheVariants.{Check, Annotate, Simulate, Audit, AuditLives, Draw}
use Rattle.pp_judge.specs.declared.contents.Contents.TheVariants.{AuditSegments}
use Rattle.pp_judge.specs.declared.error.JudgeError.{JudgeError}
use Rattle.pp_judge.specs.declared.error.JudgeError.TheVariants as judge_error
use Rattle.pp_judge.specs.declared.exit.Figures.{Figures}
use Rattle.pp_judge.specs.declared.exit.Exit.{Exit}
use Rattle.pp_judge.specs.declared.exit.Exit.TheVariants.{Done, Made, Simulated, Formatted, Ran, Stopped, Audited, Drawn}
use Rattle.pp_judge.specs.declared.exit.Exit.TheVariants.{Shown, Kept, Refused, Misused, Wordless, InUse, Unread}
use Rattle.pp_judge.specs.declared.exit.Exit.TheVariants.{AuditedSegments, Unwritten, OutOfMemory}

-- what a run comes to; texts are their bytes
pub data Answer : Type 0 where
  done : Figures → Answer
  made : (text : List ℕ) → Answer
  simulated : (text : List ℕ) → Answer
  formatted : (pages : ℕ) → Answer
  ran : (report : List ℕ) → (is_well : Bool) → Answer
  stopped : (text : List ℕ) → Answer
  audited : (lines : ℕ) → Answer
  audited_segments : (lines segments : ℕ) → Answer
  drawn : (text : List ℕ) → Answer
  shown : (text : List ℕ) → Answer
  refused : JudgeError → Answer
  misused : (text : List ℕ) → Answer
  wordless : Answer
  kept : Answer
  in_use : (path : List ℕ) → Answer
  unread : (path cause : List ℕ) → Answer
  unwritten : (path cause : List ℕ) → Answer
  out_of_memory : Answer

-- an exit, as it is seen
abbrev pub seen : Exit → Answer
seen (Done figures) = done figures
seen (Made text) = made (string_bytes text)
seen (Simulated text) = simulated (string_bytes text)
seen (Formatted pages) = formatted pages
seen (Ran report) = ran (string_bytes report.text) report.is_well
seen (Stopped text) = stopped (string_bytes text)
seen (Audited lines) = audited lines
seen (AuditedSegments told) = audited_segments told.lines told.segments
seen (Drawn text) = drawn (string_bytes text)
seen (Shown text) = shown (string_bytes text)
seen (Refused refusal) = refused refusal
seen (Misused text) = misused (string_bytes text)
seen Wordless = wordless
seen Kept = kept
seen (InUse path) = in_use path.now
seen (Unread fault) = unread fault.path.now fault.cause.now
seen (Unwritten fault) = unwritten fault.path.now fault.cause.now
seen OutOfMemory = out_of_memory

-- 0 done, 1 refused, 2 a bad command line, 3 a fault of a file or a run that went wrong, 4 out of memory
abbrev pub status_of : Answer → ℕ
status_of (done figures) = 0
status_of (made text) = 0
status_of (simulated text) = 0
status_of (formatted pages) = 0
status_of (ran report is_well) = if is_well then 0 else 3
status_of (stopped text) = 1
status_of (audited lines) = 0
status_of (audited_segments lines segments) = 0
status_of (drawn text) = 0
status_of (shown text) = 0
status_of (refused refusal) = 1
status_of (misused text) = 2
status_of wordless = 2
status_of kept = 0
status_of (in_use path) = 3
status_of (unread path cause) = 3
status_of (unwritten path cause) = 3
status_of out_of_memory = 4

-- what was asked for goes to standard output, complaints to standard error
abbrev pub is_output_of : Answer → Bool
is_output_of (done figures) = true
is_output_of (made text) = true
is_output_of (simulated text) = true
is_output_of (formatted pages) = true
is_output_of (ran report is_well) = true
is_output_of (stopped text) = true
is_output_of (audited lines) = true
is_output_of (audited_segments lines segments) = true
is_output_of (drawn text) = true
is_output_of (shown text) = true
is_output_of (refused refusal) = true
is_output_of (misused text) = false
is_output_of wordless = false
is_output_of kept = true
is_output_of (in_use path) = false
is_output_of (unread path cause) = false
is_output_of (unwritten path cause) = false
is_output_of out_of_memory = false

-- the peak and the steps of an accepted plan, and the most events that a journal needs for it
abbrev pub figures_of : Acceptance → Figures
figures_of accepted = record {
  peak = accepted.peak;
  steps = accepted.steps;
  cost = step_events * accepted.steps + plan_events;
}

-- a certificate that is checked: the figures of the accepted plan, or the refusal
abbrev pub answer_of_check : Result Acceptance JudgeError → Answer
answer_of_check (Ok accepted) = done (figures_of accepted)
answer_of_check (Err refusal) = refused refusal

-- a certificate that is made: its text, or the refusal
abbrev pub answer_of_annotate : Result (List ℕ) JudgeError → Answer
answer_of_annotate (Ok text) = made text
answer_of_annotate (Err refusal) = refused refusal

-- what the bytes of the files of `check` come to
abbrev pub judgement_answer : (settings plan certificate : List ℕ) → Answer
judgement_answer settings plan certificate = answer_of_check (judgement settings plan certificate)

-- what the bytes of the files of `annotate` come to
abbrev pub certification_answer : (settings plan : List ℕ) → Answer
certification_answer settings plan = answer_of_annotate (certification settings plan)

-- a journal that is audited: how many lines it has, or the refusal
abbrev pub answer_of_audit : Result ℕ JudgeError → Answer
answer_of_audit (Ok lines) = audited lines
answer_of_audit (Err refusal) = refused refusal

-- what the bytes of the files of `audit` come to
abbrev pub audit_answer : (settings journal : List ℕ) → (plans : List (List ℕ)) → Answer
audit_answer settings journal plans = answer_of_audit (audited_in settings journal plans)

-- what the bytes of the files of `audit --lives` come to
abbrev pub lives_answer : (settings journals : List ℕ) → (plans : List (List ℕ)) → Answer
lives_answer settings journals plans = answer_of_audit (lives_audited_in settings journals plans)

-- the one or the other, by whether `--lives` is given
abbrev pub audit_answer_of : (lives : Bool) → (settings journal : List ℕ) → (plans : List (List ℕ)) → Answer
audit_answer_of false settings journal plans = audit_answer settings journal plans
audit_answer_of true settings journal plans = lives_answer settings journal plans

-- segments that are audited: how many lines and segments there are, or the refusal
abbrev pub answer_of_segments : Result (ℕ × ℕ) JudgeError → Answer
answer_of_segments (Ok counts) = audited_segments counts.0 counts.1
answer_of_segments (Err refusal) = refused refusal

-- what the bytes of the files of `audit --segments` come to; `ended` is whether `--ended` is given
abbrev pub segments_answer : (ended : Bool) → (settings : List ℕ) → (plans files : List (List ℕ)) → Answer
segments_answer ended settings plans files = answer_of_segments (segments_audited_in ended settings plans files)

-- what may be answered where this is the verdict on a journal that is to be drawn: some picture of a true one, whose text no
-- clause says; and else the refusal
abbrev pub IsDrawingAnswer : Result ℕ JudgeError → Answer → Type 0
IsDrawingAnswer (Err refusal) answer = answer ≡ refused refusal
IsDrawingAnswer (Ok lines) (drawn text) = ⊤
IsDrawingAnswer (Ok lines) _ = ⊥

-- what drawing may end with where this is the verdict on the journal
abbrev pub Draws : {Z : Type 0} → Result ℕ JudgeError → Result (String Z) JudgeError → Type 0
Draws verdict (Ok text) = IsDrawingAnswer verdict (drawn (string_bytes text))
Draws verdict (Err refusal) = Refuses (is_want_of_memory refusal) refusal verdict

-- what the bytes of the files of `draw` may come to
abbrev pub MayDraw : (settings journal : List ℕ) → (plans : List (List ℕ)) → Answer → Type 0
MayDraw settings journal plans answer = IsDrawingAnswer (audited_in settings journal plans) answer

-- a new pool with these settings takes the plans in up to one: it refuses that one so, or keeps no plan more
abbrev pub RefusesPlan : Stage → JudgeError → Type 0
RefusesPlan stage (judge_error.Simulate (Submit error)) =
    after_submits (opening (kept_of stage.settings)) stage.plans ≡ Err error
RefusesPlan stage (judge_error.Simulate TooManyPrepared) = KeepsNoMore (opening (kept_of stage.settings)) stage.plans
RefusesPlan stage _ = ⊥

-- what may be answered where the files of `simulate` spell this: the text of playing the script, or that a plan is not
-- taken in; and where they are refused, that refusal
abbrev pub IsSimulationAnswer : Result Stage JudgeError → Answer → Type 0
IsSimulationAnswer (Err refusal) answer = answer ≡ refused refusal
IsSimulationAnswer (Ok stage) (simulated text) = Simulates stage.settings stage.plans stage.script text
IsSimulationAnswer (Ok stage) (refused refusal) = RefusesPlan stage refusal
IsSimulationAnswer (Ok stage) _ = ⊥

-- what playing a script may end with where its files spell this, unless memory ran out
abbrev pub Rehearses : {Z : Type 0} → Result Stage JudgeError → Result (String Z) JudgeError → Type 0
Rehearses staged (Ok text) = IsSimulationAnswer staged (simulated (string_bytes text))
Rehearses staged (Err refusal) =
    (is_want_of_memory refusal ≡ true) ⊎ IsSimulationAnswer staged (refused refusal)

-- what the bytes of the files of `simulate` may come to
abbrev pub MaySimulate : (settings script : List ℕ) → (plans : List (List ℕ)) → Answer → Type 0
MaySimulate settings script plans answer = IsSimulationAnswer (staged_in settings script plans) answer

-- what the contents of the files may come to
abbrev pub MayAnswer : Contents → Answer → Type 0
MayAnswer (Check files) answer = answer ≡ judgement_answer files.settings.now files.plan.now files.certificate.now
MayAnswer (Annotate files) answer = answer ≡ certification_answer files.settings.now files.plan.now
MayAnswer (Simulate files) answer =
    MaySimulate files.settings.now files.script.now (map (λ plan. plan.items) files.plans.now) answer
MayAnswer (Audit files) answer =
    answer ≡ audit_answer files.settings.now files.journal.now (map (λ plan. plan.items) files.plans.now)
MayAnswer (AuditLives files) answer =
    answer ≡ lives_answer files.settings.now files.journal.now (map (λ plan. plan.items) files.plans.now)
MayAnswer (AuditSegments files) answer =
    answer ≡ segments_answer files.ended files.settings.now (map (λ plan. plan.items) files.plans.now)
    (map (λ file. file.items) files.files.now)
MayAnswer (Draw files) answer =
    MayDraw files.settings.now files.journal.now (map (λ plan. plan.items) files.plans.now) answer

-- the exit is one of these answers, or want of memory
abbrev pub MayCome : (Answer → Type 0) → Exit → Type 0
MayCome may exit = may (seen exit) ⊎ (exit ≡ OutOfMemory)

-- the exit is this answer, or want of memory
abbrev pub ComesTo : Answer → Exit → Type 0
ComesTo answer exit = (seen exit ≡ answer) ⊎ (exit ≡ OutOfMemory)

-- want of memory is an exit of its own, and no refusal of a file
abbrev pub refused_by : JudgeError → Exit
refused_by refusal = if is_want_of_memory refusal then OutOfMemory else Refused refusal
