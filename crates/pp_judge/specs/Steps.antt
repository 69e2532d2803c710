-- Refusals of files, among which want of memory says nothing of them.
use Rattle.std.specs.Prelude.{Bool, false, Result, Ok, Err}
use Rattle.pp_settings.specs.Refusals.{is_settings_memory}
use Rattle.pp_plan.specs.Refusals.{is_plan_memory}
use Rattle.pp_cert.specs.CertErrors.{is_certificate_memory}
use Rattle.pp_annotate.specs.Refusals.{is_annotate_memory}
use Rattle.pp_script.specs.Refusals.{is_script_memory}
use Rattle.pp_simulate.specs.Refusals.{is_simulate_memory}
use Rattle.pp_report.specs.Refusals.{is_audit_memory}
use Rattle.pp_segments.specs.Refusals.{is_segment_memory}
use Rattle.pp_judge.specs.declared.error.JudgeError.{JudgeError}
use Rattle.pp_judge.specs.declared.error.JudgeError.TheVariants.{Settings, Script, Plan, Certificate, Check, Annotate}
use Rattle.pp_judge.specs.declared.error.JudgeError.TheVariants.{Simulate, OtherLife, Audit, Segments}

-- What was done, or the refusal that its fault is.
abbrev pub refusing : {A E : Type 0} → (E → JudgeError) → Result A E → Result A JudgeError
refusing refusal (Ok x) = Ok x
refusing refusal (Err e) = Err (refusal e)

-- Whether it is no refusal of a file, but want of memory.
abbrev pub is_want_of_memory : JudgeError → Bool
is_want_of_memory (Settings e) = is_settings_memory e
is_want_of_memory OtherLife = false
is_want_of_memory (Script e) = is_script_memory e
is_want_of_memory (Plan e) = is_plan_memory e
is_want_of_memory (Certificate e) = is_certificate_memory e
is_want_of_memory (Check e) = false
is_want_of_memory (Annotate e) = is_annotate_memory e
is_want_of_memory (Simulate e) = is_simulate_memory e
is_want_of_memory (Audit e) = is_audit_memory e
is_want_of_memory (Segments e) = is_segment_memory e

-- A value shows itself.
abbrev pub same : {A : Type 0} → A → A
same x = x
