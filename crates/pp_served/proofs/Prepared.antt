-- An audit can prepare each plan that a ledger prepared.
use Rattle.std.proofs.Common.{◌≡◌, ◌≢◌, ◌∙◌, ℕ, ◌+◌, ◌<◌, Bool, true, false, Option, Some, None, List, [], ◌∷◌, ◌++◌}
use Rattle.std.proofs.Common.{length, refl, ap, arith, if◌then◌else◌}
use Rattle.std.specs.Prelude.{nat_lt}
use Rattle.std.proofs.lemmas.Bool.Decides.{nat_tests}
use Rattle.pp_settings.specs.Layout.{Geometry}
use Rattle.pp_settings.specs.declared.span.Span.{Span}
use Rattle.pp_settings.specs.declared.span.Span.TheVariants.{Bounded, Endless}
use Rattle.pp_cert.specs.Accepted.{Acceptance}
use Rattle.pp_cert.specs.Walk.{same_layout}
use Rattle.pp_core.specs.declared.error.PrepareError.{PrepareError}
use Rattle.pp_core.specs.declared.error.PrepareError.TheVariants.{OtherSettings, TooManyPrepared}
use Rattle.pp_core.specs.Limits.{most_kept}
use Rattle.pp_segments.specs.Auditing.{prepare_fault, prepared_unless, span_fault}

-- A plan is of the layout, and there is room; then those behind it decide.
abbrev fault_where : (same room : Bool) → Option PrepareError → Option PrepareError
fault_where same room rest = if same then (if room then rest else Some TooManyPrepared) else Some OtherSettings

no_fault_then : (same room : Bool) (o p : Option PrepareError) → (o ≡ None → p ≡ None)
    → fault_where same room o ≡ None → fault_where same room p ≡ None
no_fault_then true true o p more h = more h
no_fault_then true false o p more h = absurd cc
no_fault_then false room o p more h = absurd cc

has_room : (m n : ℕ) → m < n → nat_lt m n ≡ true
has_room m n h = grind (arith, nat_tests)

-- One more that is of the layout, and for which there is room.
pub one_more : (g : Geometry) (span : Span) (before : ℕ) (plans : List Acceptance) (a : Acceptance)
    → prepare_fault g span before plans ≡ None → same_layout g a.plan.layout ≡ true
    → before + length plans < most_kept span → prepare_fault g span before (plans ++ a ∷ []) ≡ None
one_more g span before [] a h same few =
    ap (λ b. fault_where b (nat_lt before (most_kept span)) None) same
    ∙ ap (λ b. fault_where true b None) (has_room before (most_kept span) (omega (arith, few)))
one_more g span before (p ∷ plans) a h same few =
    no_fault_then (same_layout g p.plan.layout) (nat_lt before (most_kept span))
    (prepare_fault g span (before + 1) plans) (prepare_fault g span (before + 1) (plans ++ a ∷ []))
    (λ none. one_more g span (before + 1) plans a none same (omega (arith, few))) h

-- So an audit begins, where the life is endless.
pub can_begin : (g : Geometry) (span : Span) (plans : List Acceptance) → span ≢ Bounded
    → prepare_fault g span 0 plans ≡ None → span_fault g span plans ≡ None
can_begin g Bounded plans endless h = absurd (endless refl)
can_begin g (Endless waiting) plans endless h = ap prepared_unless h
