-- An audit of segments begins: its plans are prepared, one by one.
use Rattle.std.proofs.Common.{◌≡◌, ◌≢◌, ◌⊎◌, inl, inr, ◌∙◌, ℕ, zero, suc, ◌+◌, ◌<◌, ◌≤◌, true, false, nat_lt, List, []}
use Rattle.std.proofs.Common.{◌∷◌, ◌++◌, length}
use Rattle.std.proofs.Common.{Option, Some, if◌then◌else◌, refl, sym, ap, arith, length-append, append_assoc}
use Rattle.std.specs.List.{range_with_len}
use Rattle.std.proofs.lemmas.List.{append-nil}
use Rattle.std.proofs.lemmas.Bool.Decides.{nat_tests}
use Rattle.pp_settings.specs.Layout.{Geometry}
use Rattle.pp_settings.specs.Spans.{is_bounded}
use Rattle.pp_settings.specs.declared.span.Span.{Span}
use Rattle.pp_settings.specs.declared.span.Span.TheVariants.{Bounded, Endless}
use Rattle.pp_cert.specs.Accepted.{Acceptance}
use Rattle.pp_cert.specs.Walk.{same_layout}
use Rattle.pp_core.specs.declared.error.PrepareError.{PrepareError}
use Rattle.pp_core.specs.declared.error.PrepareError.TheVariants.{OtherSettings, TooManyPrepared}
use Rattle.pp_core.specs.Limits.{most_kept}
use Rattle.pp_core.specs.Parts.{Parts}
use Rattle.pp_core.specs.Submits.{Prepares, PrepareFails}
use Rattle.pp_segments.specs.declared.error.SegmentError.TheVariants.{OtherLife}
use Rattle.pp_segments.specs.Auditing.{prepare_fault, prepared_unless, span_fault}

-- The first plan was prepared, and what is left decides.
pub prepared_next : (old new : Parts) (a : Acceptance) (at : ℕ) (g : Geometry) (span : Span) (rest : List Acceptance)
    → Prepares old a at new → old.layout ≡ g → old.span ≡ span
    → prepare_fault g span (length old.plans) (a ∷ rest) ≡ prepare_fault g span (length new.plans) rest
prepared_next old new a at g span rest h layout is =
    let same : same_layout g a.plan.layout ≡ true = ap (λ g. same_layout g a.plan.layout) (sym layout) ∙ h.same in
    let few : nat_lt (length old.plans) (most_kept span) ≡ true =
    ap (λ s. nat_lt (length old.plans) (most_kept s)) (sym is) ∙ room (length old.plans) (most_kept old.span) h.few in
    let more : length old.plans + 1 ≡ length new.plans =
    sym (ap (λ (f : Parts). length f.plans) h.parts ∙ length-append old.plans (a ∷ [])) in
    ap (λ b. if b then (if nat_lt (length old.plans) (most_kept span)
    then prepare_fault g span (length old.plans + 1) rest
    else Some TooManyPrepared) else Some OtherSettings) same
    ∙ ap (λ b. if b then prepare_fault g span (length old.plans + 1) rest else Some TooManyPrepared) few
    ∙ ap (λ n. prepare_fault g span n rest) more
  where
    room : (m n : ℕ) → m < n → nat_lt m n ≡ true
    room m n h = grind (arith, nat_tests)

-- It can't be prepared, and that is the fault.
pub prepare_failed : (old : Parts) (a : Acceptance) (e : PrepareError) (g : Geometry) (span : Span)
    (rest : List Acceptance)
    → PrepareFails old a e → old.layout ≡ g → old.span ≡ span → span ≢ Bounded
    → prepare_fault g span (length old.plans) (a ∷ rest) ≡ Some e
prepare_failed old a OtherSettings g span rest h layout is endless =
    let other : same_layout g a.plan.layout ≡ false = ap (λ g. same_layout g a.plan.layout) (sym layout) ∙ h in
    ap (λ b. if b then (if nat_lt (length old.plans) (most_kept span)
    then prepare_fault g span (length old.plans + 1) rest
    else Some TooManyPrepared) else Some OtherSettings) other
prepare_failed old a TooManyPrepared g span rest h layout is endless =
    let same : same_layout g a.plan.layout ≡ true = ap (λ g. same_layout g a.plan.layout) (sym layout) ∙ h.0 in
    let full : nat_lt (length old.plans) (most_kept span) ≡ false =
    ap (λ s. nat_lt (length old.plans) (most_kept s)) (sym is) ∙ many h.1 in
    ap (λ b. if b then (if nat_lt (length old.plans) (most_kept span)
    then prepare_fault g span (length old.plans + 1) rest
    else Some TooManyPrepared) else Some OtherSettings) same
    ∙ ap (λ b. if b then prepare_fault g span (length old.plans + 1) rest else Some TooManyPrepared) full
  where
    past : (m n : ℕ) → n ≤ m → nat_lt m n ≡ false
    past m n h = grind (arith, nat_tests)

    many : (old.span ≡ Bounded) ⊎ (most_kept old.span ≤ length old.plans)
        → nat_lt (length old.plans) (most_kept old.span) ≡ false
    many (inl bounded) = absurd (endless (sym is ∙ bounded))
    many (inr h) = past (length old.plans) (most_kept old.span) h

pub fault_of : (g : Geometry) (span : Span) (prepared : List Acceptance) (o : Option PrepareError) → span ≢ Bounded
    → prepare_fault g span 0 prepared ≡ o → span_fault g span prepared ≡ prepared_unless o
fault_of g Bounded prepared o endless e = absurd (endless refl)
fault_of g (Endless waiting) prepared o endless e = ap prepared_unless e

pub one_place : (n : ℕ) (from : ℕ) → range_with_len from n ++ ((from + n) ∷ []) ≡ range_with_len from (n + 1)
one_place zero from = let same : from + 0 ≡ from = omega arith in ap (λ k. k ∷ []) same
one_place (suc n) from =
    let same : from + suc n ≡ from + 1 + n = omega arith in
    let more : suc (n + 1) ≡ suc n + 1 = omega arith in
    ap (λ k. from ∷ (range_with_len (from + 1) n ++ (k ∷ []))) same
    ∙ ap (λ ks. from ∷ ks) (one_place n (from + 1)) ∙ ap (range_with_len from) more

-- A life that isn't bounded.
pub unbounded : (span : Span) → is_bounded span ≡ false → span ≢ Bounded
unbounded Bounded e = absurd cc
unbounded (Endless waiting) e = λ same. absurd cc

pub bounded_fault : (g : Geometry) (span : Span) (prepared : List Acceptance) → span ≡ Bounded
    → span_fault g span prepared ≡ Some OtherLife
bounded_fault g span prepared e = ap (λ s. span_fault g s prepared) e

pub place_more : (places after : List ℕ) (old new : Parts) (a : Acceptance) (at : ℕ)
    → places ≡ range_with_len 0 (length old.plans) → Prepares old a at new → after ≡ places ++ (at ∷ [])
    → after ≡ range_with_len 0 (length new.plans)
place_more places after old new a at e h is =
    let n = length old.plans in
    let here : at ≡ 0 + n = omega (arith, h.place) in
    let more : n + 1 ≡ length new.plans =
    sym (ap (λ (f : Parts). length f.plans) h.parts ∙ length-append old.plans (a ∷ [])) in
    is ∙ ap (λ ps. ps ++ (at ∷ [])) e ∙ ap (λ k. range_with_len 0 n ++ (k ∷ [])) here ∙ one_place n 0
    ∙ ap (range_with_len 0) more

pub plans_more : (old new : Parts) (a : Acceptance) (at : ℕ) (rest left all : List Acceptance) → Prepares old a at new
    → left ≡ a ∷ rest → old.plans ++ left ≡ all → new.plans ++ rest ≡ all
plans_more old new a at rest left all h step e =
    ap (λ (f : Parts). f.plans ++ rest) h.parts ∙ append_assoc old.plans (a ∷ []) rest
    ∙ ap (λ r. old.plans ++ r) (sym step) ∙ e

-- Where as many are kept as there are, they are all.
pub plans_all : (plans left all : List Acceptance) → length plans ≡ length all → plans ++ left ≡ all → plans ≡ all
plans_all plans left all many e = by left (omega (arith, many, ap length e, length-append plans left)) e
  where
    by : (left : List Acceptance) → length left ≡ 0 → plans ++ left ≡ all → plans ≡ all
    by [] none e = sym (append-nil plans) ∙ e
    by (a ∷ left) none e = absurd (omega (arith, none))

pub one_kept : (old new : Parts) (a : Acceptance) (at left after all : ℕ) → Prepares old a at new → after + 1 ≡ left
    → length old.plans + left ≡ all → length new.plans + after ≡ all
one_kept old new a at left after all h one e =
    omega (arith, one, e, ap (λ (f : Parts). length f.plans) h.parts, length-append old.plans (a ∷ []))
