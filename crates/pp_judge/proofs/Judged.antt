-- What the files come to, from what each of them is.
use Rattle.std.proofs.Common.{◌≡◌, ℕ, false, List, None, Some, Result, Ok, Err, refl, ap, ◌∙◌}
use Rattle.pp_settings.specs.Settings.{Configuration, geometry_of}
use Rattle.pp_settings.specs.Layout.{page_count}
use Rattle.pp_plan.specs.Terms.{Terms}
use Rattle.pp_cert.specs.Claims.{Claims}
use Rattle.pp_cert.specs.Walk.{first_fault, tests}
use Rattle.pp_cert.specs.declared.check_error.CheckError.{CheckError}
use Rattle.pp_annotate.specs.Annotation.{annotation, AnswersAs}
use Rattle.pp_annotate.specs.declared.error.AnnotateError.{AnnotateError}
use Rattle.pp_annotate.specs.declared.error.AnnotateError.TheVariants.{Fault, OutOfMemory}
use Rattle.pp_judge.specs.declared.judgement.Sources.{Sources}
use Rattle.pp_judge.specs.declared.error.JudgeError.{JudgeError}
use Rattle.pp_judge.specs.declared.error.JudgeError.TheVariants.{Annotate, Check}
use Rattle.pp_judge.specs.Judgement.{certification, claims_in, device_size_in, judgement, plan_in, settings_in}
use Rattle.pp_judge.specs.Judgement.{sources_in}
use Rattle.pp_judge.specs.Judgement.{unless_refused, verdict, written}
use Rattle.pp_judge.specs.Steps.{is_want_of_memory}

-- ---- the settings and the plan

pub no_settings : (settings plan : List ℕ) (e : JudgeError) → settings_in settings ≡ Err e
    → sources_in settings plan ≡ Err e
unfolding sources_in
no_settings settings plan e refused = rw refused refl

pub no_plan : (settings plan : List ℕ) (s : Configuration) (e : JudgeError) → settings_in settings ≡ Ok s
    → plan_in s plan ≡ Err e
    → sources_in settings plan ≡ Err e
unfolding sources_in
no_plan settings plan s e is refused = rw (is, refused) refl

pub both_read : (settings plan : List ℕ) (s : Configuration) (p : Terms) → settings_in settings ≡ Ok s
    → plan_in s plan ≡ Ok p
    → sources_in settings plan ≡ Ok (record { settings = s; plan = p })
unfolding sources_in
both_read settings plan s p is read = rw (is, read) refl

-- ---- a certificate that is checked

pub no_sources : (settings plan certificate : List ℕ) (e : JudgeError) → sources_in settings plan ≡ Err e
    → judgement settings plan certificate ≡ Err e
unfolding judgement
no_sources settings plan certificate e refused = rw refused refl

pub no_claims : (settings plan certificate : List ℕ) (r : Sources) (e : JudgeError)
    → sources_in settings plan ≡ Ok r → claims_in r.settings r.plan certificate ≡ Err e
    → judgement settings plan certificate ≡ Err e
unfolding judgement
no_claims settings plan certificate r e is refused = rw (is, refused) refl

judged : (settings plan certificate : List ℕ) (r : Sources) (c : Claims)
    → sources_in settings plan ≡ Ok r → claims_in r.settings r.plan certificate ≡ Ok c
    → judgement settings plan certificate ≡ verdict r c
unfolding judgement
judged settings plan certificate r c is read = rw (is, read) refl

pub accepted : (settings plan certificate : List ℕ) (r : Sources) (c : Claims)
    → sources_in settings plan ≡ Ok r → claims_in r.settings r.plan certificate ≡ Ok c
    → first_fault (geometry_of r.settings) c (tests r.plan) ≡ None
    → judgement settings plan certificate ≡ Ok (record { plan = r.plan; peak = c.peak; steps = c.steps })
accepted settings plan certificate r c is read none =
    judged settings plan certificate r c is read
    ∙ ap (λ f. unless_refused f (record { plan = r.plan; peak = c.peak; steps = c.steps })) none

pub faulty : (settings plan certificate : List ℕ) (r : Sources) (c : Claims) (fault : CheckError)
    → sources_in settings plan ≡ Ok r → claims_in r.settings r.plan certificate ≡ Ok c
    → first_fault (geometry_of r.settings) c (tests r.plan) ≡ Some fault
    → judgement settings plan certificate ≡ Err (Check fault)
faulty settings plan certificate r c fault is read some =
    judged settings plan certificate r c is read
    ∙ ap (λ f. unless_refused f (record { plan = r.plan; peak = c.peak; steps = c.steps })) some

-- ---- a certificate that is made

pub none_certified : (settings plan : List ℕ) (e : JudgeError) → sources_in settings plan ≡ Err e
    → certification settings plan ≡ Err e
unfolding certification
none_certified settings plan e refused = rw refused refl

pub certified : (settings plan : List ℕ) (r : Sources) (answer : Result Claims CheckError)
    → sources_in settings plan ≡ Ok r → annotation (geometry_of r.settings) r.plan ≡ answer
    → certification settings plan ≡ written r answer
unfolding certification
certified settings plan r answer is made = rw (is, made) refl

pub not_certified : (settings plan : List ℕ) (r : Sources) (e : AnnotateError) → sources_in settings plan ≡ Ok r
    → AnswersAs (Err e) (annotation (geometry_of r.settings) r.plan) → is_want_of_memory (Annotate e) ≡ false
    → certification settings plan ≡ Err (Annotate e)
not_certified settings plan r (Fault fault) is made memory = certified settings plan r (Err fault) is made
not_certified settings plan r OutOfMemory is made memory = cc

-- ---- the size of a device

pub no_size : (settings : List ℕ) (e : JudgeError) → settings_in settings ≡ Err e → device_size_in settings ≡ Err e
unfolding device_size_in
no_size settings e refused = rw refused refl

pub sized : (settings : List ℕ) (s : Configuration) → settings_in settings ≡ Ok s
    → device_size_in settings ≡ Ok (record { pages = page_count (geometry_of s); page_bytes = s.page_bytes })
unfolding device_size_in
sized settings s is = rw is refl
