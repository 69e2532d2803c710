-- What the contents of the files come to.
use Rattle.std.specs.Prelude.{ℕ, Bool, not, if◌then◌else◌, List, [], ◌∷◌, Option, None, Some, Result, Ok, Err}
use Rattle.std.specs.Str.{is_utf8}
use Rattle.pp_settings.specs.Settings.{Configuration, geometry_of}
use Rattle.pp_settings.specs.Layout.{page_count}
use Rattle.pp_settings.specs.Spans.{is_bounded}
use Rattle.pp_settings.specs.Reading.{reading as read_settings}
use Rattle.pp_settings.specs.declared.error.SettingsError.TheVariants.{NotToml}
use Rattle.pp_plan.specs.Terms.{Terms}
use Rattle.pp_plan.specs.Reading.{reading as read_plan}
use Rattle.pp_plan.specs.declared.error.PlanError.TheVariants as plan_error
use Rattle.pp_cert.specs.Claims.{Claims}
use Rattle.pp_cert.specs.Reading.{reading as read_claims}
use Rattle.pp_cert.specs.Writing.{certificate_text}
use Rattle.pp_cert.specs.Walk.{first_fault, tests}
use Rattle.pp_cert.specs.Accepted.{Acceptance}
use Rattle.pp_cert.specs.declared.error.CertError.TheVariants as cert_error
use Rattle.pp_cert.specs.declared.check_error.CheckError.{CheckError}
use Rattle.pp_annotate.specs.Annotation.{annotation}
use Rattle.pp_annotate.specs.declared.error.AnnotateError.TheVariants.{Fault}
use Rattle.pp_script.specs.Scripts.{Scenario}
use Rattle.pp_script.specs.Reading.{reading as read_script}
use Rattle.pp_script.specs.declared.error.ScriptError.TheVariants.{NotACue}
use Rattle.pp_report.specs.Auditing.{auditing}
use Rattle.pp_report.specs.AuditingLives.{auditing_lives}
use Rattle.pp_segments.specs.Auditing.{auditing as auditing_segments}
use Rattle.pp_segments.specs.declared.error.SegmentError.TheVariants as segment_error
use Rattle.pp_judge.specs.declared.judgement.Sources.{Sources}
use Rattle.pp_judge.specs.declared.device.DeviceSize.{DeviceSize}
use Rattle.pp_judge.specs.declared.error.JudgeError.{JudgeError}
use Rattle.pp_judge.specs.declared.error.JudgeError.TheVariants.{Settings, Script, Plan, Certificate, Check, Annotate}
use Rattle.pp_judge.specs.declared.error.JudgeError.TheVariants.{OtherLife, Audit, Segments}
use Rattle.pp_text.specs.Steps.{◌>>=◌, must}
use Rattle.pp_judge.specs.Steps.{refusing}

-- The settings that bytes spell; what is no text is no TOML.
unfoldable pub settings_in : List ℕ → Result Configuration JudgeError
settings_in bytes = refusing Settings (if is_utf8 bytes then read_settings bytes else Err NotToml)

-- The same for what serves bounded lives alone: settings of an endless life are refused, behind all else of them.
unfoldable pub bounded_in : List ℕ → Result Configuration JudgeError
bounded_in bytes = do
  s ← settings_in bytes
  seen ← must (is_bounded s.span) OtherLife
  Ok s

-- The same for what serves endless lives alone: settings of a bounded life are refused, behind all else of them.
unfoldable pub endless_in : List ℕ → Result Configuration JudgeError
endless_in bytes = do
  s ← settings_in bytes
  seen ← must (not (is_bounded s.span)) (Segments segment_error.OtherLife)
  Ok s

-- The plan that bytes spell under the settings; what is no text is no JSON.
unfoldable pub plan_in : Configuration → List ℕ → Result Terms JudgeError
plan_in s bytes = refusing Plan (if is_utf8 bytes then read_plan s bytes else Err plan_error.NotJson)

-- The claims that bytes spell under the settings and the plan; what is no text is no JSON.
unfoldable pub claims_in : Configuration → Terms → List ℕ → Result Claims JudgeError
claims_in s p bytes = refusing Certificate (if is_utf8 bytes then read_claims s p bytes else Err cert_error.NotJson)

-- The settings and the plan of two files: each is refused in its turn, as no text or for what its text is.
unfoldable pub sources_in : (settings plan : List ℕ) → Result Sources JudgeError
sources_in settings plan = do
  s ← settings_in settings
  p ← plan_in s plan
  Ok (record { settings = s; plan = p })

-- What the checker says of claims: the plan is accepted with them, unless a test fails.
abbrev pub unless_refused : Option CheckError → Acceptance → Result Acceptance JudgeError
unless_refused None accepted = Ok accepted
unless_refused (Some fault) accepted = Err (Check fault)

abbrev pub verdict : Sources → Claims → Result Acceptance JudgeError
verdict r c =
    unless_refused (first_fault (geometry_of r.settings) c (tests r.plan))
    (record { plan = r.plan; peak = c.peak; steps = c.steps })

-- What the bytes of three files come to: each is refused in its turn; where all three are read, the certificate is
-- checked.
unfoldable pub judgement : (settings plan certificate : List ℕ) → Result Acceptance JudgeError
judgement settings plan certificate = do
  r ← sources_in settings plan
  c ← claims_in r.settings r.plan certificate
  verdict r c

-- The text of what the maker of certificates makes, unless the plan has a fault.
abbrev pub written : Sources → Result Claims CheckError → Result (List ℕ) JudgeError
written r (Ok c) = Ok (certificate_text r.settings r.plan c)
written r (Err fault) = Err (Annotate (Fault fault))

-- What the bytes of two files come to: each is refused in its turn; where both are read, the least certificate of the
-- plan is made and written.
unfoldable pub certification : (settings plan : List ℕ) → Result (List ℕ) JudgeError
certification settings plan = do
  r ← sources_in settings plan
  written r (annotation (geometry_of r.settings) r.plan)

-- How large a device is for the settings that the bytes spell: it has every page up to the last one of a region.
unfoldable pub device_size_in : (settings : List ℕ) → Result DeviceSize JudgeError
device_size_in settings = do
  s ← settings_in settings
  Ok (record { pages = page_count (geometry_of s); page_bytes = s.page_bytes })

-- The script that bytes spell; what is no text is refused at its first line.
unfoldable pub script_in : List ℕ → Result Scenario JudgeError
script_in bytes = refusing Script (if is_utf8 bytes then read_script bytes else Err (NotACue 1))

-- The plan, accepted with the claims that the maker of certificates makes, unless the plan has a fault.
abbrev pub with_claims : Sources → Result Claims CheckError → Result Acceptance JudgeError
with_claims r (Ok c) = verdict r c
with_claims r (Err fault) = Err (Annotate (Fault fault))

-- The plan that bytes spell under the settings, accepted with its least certificate.
unfoldable pub accepted_in : Configuration → List ℕ → Result Acceptance JudgeError
accepted_in s plan = do
  p ← plan_in s plan
  with_claims (record { settings = s; plan = p }) (annotation (geometry_of s) p)

-- The plans of some files, each accepted before the next is read.
unfoldable pub accepted_all : Configuration → (plans : List (List ℕ)) → Result (List Acceptance) JudgeError
accepted_all s [] = Ok []
accepted_all s (plan ∷ plans) = do
  first ← accepted_in s plan
  rest ← accepted_all s plans
  Ok (first ∷ rest)

-- What a script is played with: the settings of a pool, and the plans that its workers take.
pub record Stage : Type 0 where
  pub settings : Configuration
  pub script : Scenario
  pub plans : List Acceptance

-- What the bytes of the settings, of the script and of the plans spell: each is refused in its turn.
unfoldable pub staged_in : (settings script : List ℕ) → (plans : List (List ℕ)) → Result Stage JudgeError
staged_in settings script plans = do
  s ← settings_in settings
  cues ← script_in script
  accepted ← accepted_all s plans
  Ok (record { settings = s; script = cues; plans = accepted })

-- What the bytes of settings, whose lives must be bounded, and of plans spell: each is refused in its turn.
unfoldable pub workload_in : (settings : List ℕ) → (plans : List (List ℕ))
    → Result (Configuration × List Acceptance) JudgeError
workload_in settings plans = do
  s ← bounded_in settings
  accepted ← accepted_all s plans
  Ok (s, accepted)

-- The verdict on the bytes of a journal, once the settings and the plans are read: how many lines it has, where it is a
-- true journal of these plans to their end, and else its first fault.
unfoldable pub audited_in : (settings journal : List ℕ) → (plans : List (List ℕ)) → Result ℕ JudgeError
audited_in settings journal plans = do
  w ← workload_in settings plans
  refusing Audit (auditing w.0 w.1 journal)

-- The verdict on the bytes of the journals of a pool's lives, once the settings and the plans are read: how many lines they
-- have, where they are those of whole lives with these plans, and else their first fault.
unfoldable pub lives_audited_in : (settings journals : List ℕ) → (plans : List (List ℕ)) → Result ℕ JudgeError
lives_audited_in settings journals plans = do
  w ← workload_in settings plans
  refusing Audit (auditing_lives w.0 w.1 journals)

-- What the bytes of settings, whose life must be endless, and of its prepared plans spell: each is refused in its turn.
unfoldable pub prepared_in : (settings : List ℕ) → (plans : List (List ℕ))
    → Result (Configuration × List Acceptance) JudgeError
prepared_in settings plans = do
  s ← endless_in settings
  accepted ← accepted_all s plans
  Ok (s, accepted)

-- The verdict on the bytes of files of segments, once the settings and the plans are read: how many lines and segments they
-- have, where they are those of a true journal with these prepared plans, and else their first fault. The files follow each
-- other. If `ended`, nothing may be left to do at the end.
unfoldable pub segments_audited_in : (ended : Bool) → (settings : List ℕ) → (plans files : List (List ℕ))
    → Result (ℕ × ℕ) JudgeError
segments_audited_in ended settings plans files = do
  w ← prepared_in settings plans
  refusing Segments (auditing_segments w.0 w.1 ended files)
