-- What auditing a journal from its files ends with.
use Rattle.std.proofs.Common.{◌≡◌, ℕ, false, true, List, Ok, Err, refl}
use Rattle.pp_settings.specs.Settings.{Configuration}
use Rattle.pp_settings.specs.Spans.{is_bounded}
use Rattle.pp_cert.specs.Accepted.{Acceptance}
use Rattle.pp_report.specs.Auditing.{auditing}
use Rattle.pp_report.specs.AuditingLives.{auditing_lives}
use Rattle.pp_judge.specs.declared.error.JudgeError.{JudgeError}
use Rattle.pp_judge.specs.declared.error.JudgeError.TheVariants.{OtherLife, Audit}
use Rattle.pp_judge.specs.Judgement.{accepted_all, audited_in, bounded_in, lives_audited_in, settings_in, workload_in}
use Rattle.pp_judge.specs.Steps.{refusing}

-- ---- settings of bounded lives

pub none_settled : (settings : List ℕ) (e : JudgeError) → settings_in settings ≡ Err e → bounded_in settings ≡ Err e
unfolding bounded_in
none_settled settings e refused = rw refused refl

pub endless_settled : (settings : List ℕ) (s : Configuration) → settings_in settings ≡ Ok s
    → is_bounded s.span ≡ false → bounded_in settings ≡ Err OtherLife
unfolding bounded_in
endless_settled settings s is endless = rw (is, endless) refl

pub bounded_settled : (settings : List ℕ) (s : Configuration) → settings_in settings ≡ Ok s
    → is_bounded s.span ≡ true → bounded_in settings ≡ Ok s
unfolding bounded_in
bounded_settled settings s is bounded = rw (is, bounded) refl

-- ---- the settings and the plans

pub unsettled : (settings : List ℕ) (plans : List (List ℕ)) (e : JudgeError) → bounded_in settings ≡ Err e
    → workload_in settings plans ≡ Err e
unfolding workload_in
unsettled settings plans e refused = rw refused refl

pub no_plans : (settings : List ℕ) (plans : List (List ℕ)) (s : Configuration) (e : JudgeError)
    → bounded_in settings ≡ Ok s → accepted_all s plans ≡ Err e → workload_in settings plans ≡ Err e
unfolding workload_in
no_plans settings plans s e is refused = rw (is, refused) refl

pub both_read : (settings : List ℕ) (plans : List (List ℕ)) (s : Configuration) (accepted : List Acceptance)
    → bounded_in settings ≡ Ok s → accepted_all s plans ≡ Ok accepted → workload_in settings plans ≡ Ok (s, accepted)
unfolding workload_in
both_read settings plans s accepted is taken = rw (is, taken) refl

-- ---- the journal

pub no_workload : (settings journal : List ℕ) (plans : List (List ℕ)) (e : JudgeError)
    → workload_in settings plans ≡ Err e → audited_in settings journal plans ≡ Err e
unfolding audited_in
no_workload settings journal plans e refused = rw refused refl

pub audited : (settings journal : List ℕ) (plans : List (List ℕ)) (w : Configuration × List Acceptance)
    → workload_in settings plans ≡ Ok w
    → audited_in settings journal plans ≡ refusing Audit (auditing w.0 w.1 journal)
unfolding audited_in
audited settings journal plans w is = rw is refl

-- ---- the journals of lives

pub no_lives : (settings journals : List ℕ) (plans : List (List ℕ)) (e : JudgeError)
    → workload_in settings plans ≡ Err e → lives_audited_in settings journals plans ≡ Err e
unfolding lives_audited_in
no_lives settings journals plans e refused = rw refused refl

pub lives_audited : (settings journals : List ℕ) (plans : List (List ℕ)) (w : Configuration × List Acceptance)
    → workload_in settings plans ≡ Ok w
    → lives_audited_in settings journals plans ≡ refusing Audit (auditing_lives w.0 w.1 journals)
unfolding lives_audited_in
lives_audited settings journals plans w is = rw is refl
