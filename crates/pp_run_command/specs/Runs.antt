-- What `run` may come to between its files and its report.
use Rattle.std.specs.Prelude.{◌≡◌, ◌⊎◌, ℕ, Bool, false, List, Option, IsSome, ⊤}
use Rattle.pp_cert.specs.Accepted.{Acceptance}
use Rattle.pp_core.specs.Opening.{kept_of}
use Rattle.pp_settings.specs.Settings.{Configuration}
use Rattle.pp_report.specs.declared.record.RunRecord.{RunRecord}
use Rattle.pp_run.specs.Runs.{IsRun, IsRunError}
use Rattle.pp_run.specs.RunErrors.{run_error_row}
use Rattle.pp_run.specs.declared.error.RunError.{RunError}
use Rattle.pp_run.specs.declared.error.RunError.TheVariants as run_error
use Rattle.pp_shared.specs.declared.error.OpenError.{OpenError}
use Rattle.pp_shared.specs.declared.error.OpenError.TheVariants as open_error
use Rattle.pp_judge.specs.Answers.{Answer, ran, stopped, unread, out_of_memory}
use Rattle.pp_run_command.specs.Endings.{stopped_line, went_well}
use Rattle.pp_report.specs.Reports.{report_text}
use Rattle.pp_run_command.specs.declared.error.RunCommandError.{RunCommandError}
use Rattle.pp_run_command.specs.declared.error.RunCommandError.TheVariants.{Unopened, OutOfMemory, Stopped}

-- Why there is no run where the device isn't opened.
abbrev pub unopened : OpenError → RunCommandError
unopened (open_error.Fault fault) = Unopened
unopened open_error.OutOfMemory = OutOfMemory

-- Why there is no record where the pool gives none.
abbrev pub run_command_error_of : RunError → RunCommandError
run_command_error_of run_error.OutOfMemory = OutOfMemory
run_command_error_of error = Stopped error

-- A run of these settings and plans stops so: the pool doesn't take the first of these plans in, or a thread came to no
-- good end. Want of memory isn't told so.
abbrev pub IsStop : Configuration × List Acceptance → RunError → Type 0
IsStop w run_error.OutOfMemory = ⊥
IsStop w error = IsRunError (kept_of w.0) w.1 error

abbrev pub IsRunCommandError : Configuration × List Acceptance → RunCommandError → Type 0
IsRunCommandError w (Stopped error) = IsStop w error
IsRunCommandError w _ = ⊤

-- Whether all went well: every plan was done and every flush written, and where a journal was wanted it was kept.
abbrev pub IsWell : RunRecord → (journal : Option (List ℕ)) → (is_well : Bool) → Type 0
IsWell run journal is_well =
    (is_well ≡ went_well run.events.items) ⊎ ((is_well ≡ false) × IsSome journal)

-- The text is the report of a run of these settings and plans, and it is told whether that went well.
pub record IsReport (w : Configuration × List Acceptance) (journal : Option (List ℕ)) (text : List ℕ) (is_well : Bool)
    : Type 0 where
  pub run : RunRecord
  pub is_run : IsRun (kept_of w.0) w.1 run
  pub text_is : text ≡ report_text run
  pub well : IsWell run journal is_well

-- What is told of a record: its report, and whether all went well; or memory ran out.
abbrev pub Tells : RunRecord → (journal : Option (List ℕ)) → Answer → Type 0
Tells run journal (ran text is_well) = (text ≡ report_text run) × IsWell run journal is_well
Tells run journal out_of_memory = ⊤
Tells run journal _ = ⊥

-- What a run may come to that is asked for these settings and plans, of the device and with the journal in these files:
-- its report; the refusal of the first plan that the pool doesn't take in, or what became of a thread; the device isn't
-- opened; or memory ran out.
abbrev pub MayEnd : (device : List ℕ) → (journal : Option (List ℕ)) → Configuration × List Acceptance → Answer → Type 0
MayEnd device journal w (ran text is_well) = IsReport w journal text is_well
MayEnd device journal w (stopped text) =
    (error : RunError) × IsStop w error × (text ≡ stopped_line (run_error_row error))
MayEnd device journal w (unread path cause) = path ≡ device
MayEnd device journal w out_of_memory = ⊤
MayEnd device journal w _ = ⊥
