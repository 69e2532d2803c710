-- What texts that C hands in come to.
use Rattle.std.specs.Prelude.{◌≡◌, ℕ, Bool, true, false, if◌then◌else◌, List, Option, None, Some, unwrap_or, Result, Ok, Err}
use Rattle.std.specs.Str.{is_utf8}
use Rattle.pp_text.specs.Steps.{◌>>=◌}
use Rattle.pp_settings.specs.Settings.{Configuration, geometry_of}
use Rattle.pp_settings.specs.Reading.{reading as read_settings}
use Rattle.pp_settings.specs.Refusals.{settings_error_row, is_settings_memory}
use Rattle.pp_plan.specs.Terms.{Terms}
use Rattle.pp_plan.specs.Reading.{reading as read_plan}
use Rattle.pp_plan.specs.Refusals.{plan_error_number, plan_error_statement, is_plan_memory}
use Rattle.pp_cert.specs.Claims.{Claims}
use Rattle.pp_cert.specs.Reading.{reading as read_claims}
use Rattle.pp_cert.specs.CertErrors.{certificate_error_row, is_certificate_memory}
use Rattle.pp_cert.specs.CheckErrors.{check_error_row, check_error_place}
use Rattle.pp_cert.specs.declared.check_error.CheckError.{CheckError}
use Rattle.pp_cert.specs.Walk.{first_fault, tests}
use Rattle.pp_cert.specs.Accepted.{Acceptance}
use Rattle.pp_annotate.specs.Annotation.{annotation}
use Rattle.pp_annotate.specs.Refusals.{annotate_error_row, annotate_error_place, is_annotate_memory}
use Rattle.pp_annotate.specs.declared.error.AnnotateError.TheVariants as annotate_error
use Rattle.pp_pool_c.specs.declared.answer.Answer.{Answer}
use Rattle.pp_pool_c.specs.declared.answer.Answer.TheVariants as answer
use Rattle.pp_pool_c.specs.declared.fault.Fault.{Fault}
use Rattle.pp_pool_c.specs.declared.refusal.Refusal.{Refusal}
use Rattle.pp_pool_c.specs.declared.refusal.Refusal.TheVariants.{NotText, Settings, Plan, Certificate, Check, Annotate}

-- A value shows itself.
abbrev pub same : {A : Type 0} → A → A
same x = x

-- ---- refusals

-- The fault of this number at this place.
abbrev pub fault_at : ℕ → Option ℕ → Fault
fault_at number place = record { number = number; place = unwrap_or place 4294967295 }

-- The fault of a refusal, as the program prints it. That a text isn't UTF-8 has none.
abbrev pub fault_of : Refusal → Option Fault
fault_of NotText = None
fault_of (Settings e) = Some (fault_at (settings_error_row e).number None)
fault_of (Plan e) = Some (fault_at (plan_error_number e) (plan_error_statement e))
fault_of (Certificate e) = Some (fault_at (certificate_error_row e).number None)
fault_of (Check e) = Some (fault_at (check_error_row e).number (check_error_place e))
fault_of (Annotate e) = Some (fault_at (annotate_error_row e).number (annotate_error_place e))

-- Whether it is want of memory, which says nothing of a text.
abbrev pub is_memory : Refusal → Bool
is_memory NotText = false
is_memory (Settings e) = is_settings_memory e
is_memory (Plan e) = is_plan_memory e
is_memory (Certificate e) = is_certificate_memory e
is_memory (Check e) = false
is_memory (Annotate e) = is_annotate_memory e

-- What a refusal is answered, by whether memory is what lacks, and its fault.
abbrev pub answer_by : (is_memory : Bool) → Option Fault → Answer
answer_by true fault = answer.OutOfMemory
answer_by false None = answer.WrongArgument
answer_by false (Some fault) = answer.Refused

-- The fault that is there then: a new one where there is one, and memory isn't what lacks.
abbrev pub fault_by : (is_memory : Bool) → Option Fault → Fault → Fault
fault_by true fault old = old
fault_by false None old = old
fault_by false (Some fault) old = fault

-- What C is answered to a refusal.
abbrev pub answer_to : Refusal → Answer
answer_to why = answer_by (is_memory why) (fault_of why)

-- The fault that C sees after a refusal.
abbrev pub fault_after : Refusal → Fault → Fault
fault_after why old = fault_by (is_memory why) (fault_of why) old

-- The work on texts is refused, and C is told so: why, unless memory ran out.
abbrev pub IsTold : {A : Type 0} → Result A Refusal → Answer → (old new : Fault) → Type 0
IsTold work answer.OutOfMemory old new = new ≡ old
IsTold work answer.WrongArgument old new = (work ≡ Err NotText) × (new ≡ old)
IsTold work answer.Refused old new = (why : Refusal) × (work ≡ Err why) × (is_memory why ≡ false) × (fault_of why ≡ Some new)
IsTold work _ old new = ⊥

-- ---- what texts spell

-- What was read, or the refusal that its error is.
abbrev pub refusing : {A E : Type 0} → (E → Refusal) → Result A E → Result A Refusal
refusing refusal (Ok x) = Ok x
refusing refusal (Err e) = Err (refusal e)

-- What bytes spell that are read so; bytes that aren't UTF-8 spell nothing.
abbrev pub text_in : {A E : Type 0} → (E → Refusal) → (List ℕ → Result A E) → List ℕ → Result A Refusal
text_in refusal reading bytes = if is_utf8 bytes then refusing refusal (reading bytes) else Err NotText

-- The settings that bytes spell.
unfoldable pub settings_in : List ℕ → Result Configuration Refusal
settings_in bytes = text_in Settings read_settings bytes

-- The plan that bytes spell under these settings.
unfoldable pub plan_in : Configuration → List ℕ → Result Terms Refusal
plan_in c bytes = text_in Plan (read_plan c) bytes

-- The claims of a certificate that bytes spell under a plan and its settings.
unfoldable pub claims_in : Configuration → Terms → List ℕ → Result Claims Refusal
claims_in c p bytes = text_in Certificate (read_claims c p) bytes

-- The plan, accepted with these claims, unless a test fails.
abbrev pub unless_faulty : Option CheckError → Acceptance → Result Acceptance Refusal
unless_faulty None accepted = Ok accepted
unless_faulty (Some fault) accepted = Err (Check fault)

-- The plan, accepted with these claims, or the first test that fails.
abbrev pub checked : Configuration → Terms → Claims → Result Acceptance Refusal
checked c p claims =
    unless_faulty (first_fault (geometry_of c) claims (tests p)) (record { plan = p; peak = claims.peak; steps = claims.steps })

-- The plan of a text, accepted with the certificate of another one.
unfoldable pub certified_in : Configuration → (plan certificate : List ℕ) → Result Acceptance Refusal
certified_in c plan certificate = do
  p ← plan_in c plan
  claims ← claims_in c p certificate
  checked c p claims

-- The claims of the least certificate that a plan has, unless it has none.
abbrev pub unless_none : Result Claims CheckError → Result Claims Refusal
unless_none (Ok claims) = Ok claims
unless_none (Err fault) = Err (Annotate (annotate_error.Fault fault))

-- The plan of a text, accepted with its least certificate.
unfoldable pub alone_in : Configuration → (plan : List ℕ) → Result Acceptance Refusal
alone_in c plan = do
  p ← plan_in c plan
  claims ← unless_none (annotation (geometry_of c) p)
  checked c p claims
