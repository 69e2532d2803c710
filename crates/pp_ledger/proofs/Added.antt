-- Plans are only added to a life, and what a segment tells of them.
use Rattle.std.proofs.Common.{◌≡◌, ◌∙◌, ℕ, ◌+◌, ◌≤◌, Option, Some, None, List, [], ◌∷◌, ◌++◌, length, map, drop}
use Rattle.std.proofs.Common.{refl, sym, ap, subst, arith, append-nil, length-append, length-drop}
use Rattle.std.proofs.lemmas.List.{append_assoc, length-map, drop-append-le}
use Rattle.std.specs.Prelude.{slice_get}
use Rattle.pp_cert.specs.Accepted.{Acceptance}
use Rattle.pp_model.specs.declared.event.Event.{Event}
use Rattle.pp_model.specs.declared.event.Event.TheVariants.{Submit, Step}
use Rattle.pp_model.specs.declared.refusals.SubmitError.{SubmitError}
use Rattle.pp_model.specs.Pool.{State}
use Rattle.pp_model.specs.Moves.{next_of}
use Rattle.pp_model.specs.Submitting.{submit_error, submitted_unless}
use Rattle.pp_model.specs.Journals.{after_plan, replay, IsNextPlan, IsTrueFrom, IsJournalFrom}
use Rattle.pp_model.proofs.Journeys.{same_plans}
use Rattle.pp_core.proofs.PlanTies.{Places, place_behind}
use Rattle.pp_ledger.specs.Segments.{count_submits}
use Rattle.pp_ledger.specs.Ledgers.{Parts, IsSegment}

-- ---- plans are only added

-- The one plans are the other ones and some behind them.
abbrev pub Adds : List Acceptance → List Acceptance → Type 0
Adds ps qs = (more : List Acceptance) × (qs ≡ ps ++ more)

pub adds_none : (ps qs : List Acceptance) → qs ≡ ps → Adds ps qs
adds_none ps qs e = ([], e ∙ sym (append-nil ps))

pub adds_both : (ps qs rs : List Acceptance) → Adds ps qs → Adds qs rs → Adds ps rs
adds_both ps qs rs a b =
    (a.0 ++ b.0, b.1 ∙ ap (λ xs. xs ++ b.0) a.1 ∙ append_assoc ps a.0 b.0)

pub adds_length : (ps qs : List Acceptance) → Adds ps qs → length ps ≤ length qs
adds_length ps qs a = omega (arith, ap length a.1, length-append ps a.0)

added_by : (s : State) (a : Acceptance) (o : Option SubmitError) → Adds s.plans (submitted_unless o s a).plans
added_by s a None = (a ∷ [], refl)
added_by s a (Some error) = adds_none s.plans s.plans refl

added_plan : (s : State) (o : Option Acceptance) → Adds s.plans (after_plan s o).plans
added_plan s None = adds_none s.plans s.plans refl
added_plan s (Some a) = added_by s a (submit_error s a)

added : (plans : List Acceptance) (s : State) (es : List Event) → Adds s.plans (replay plans s es).plans
added plans s [] = adds_none s.plans s.plans refl
added plans s (Step m reply ∷ es) =
    adds_both s.plans (next_of s m).plans (replay plans (next_of s m) es).plans
    (adds_none s.plans (next_of s m).plans (same_plans s m)) (added plans (next_of s m) es)
added plans s (Submit k ∷ es) =
    let t = after_plan s (slice_get plans k) in
    adds_both s.plans t.plans (replay plans t es).plans (added_plan s (slice_get plans k)) (added plans t es)

pub plans_follow : (o s : State) (es : List Event) → IsJournalFrom o s es → Adds o.plans s.plans
plans_follow o s es h = subst (λ (t : State). Adds o.plans t.plans) h.leads_here (added s.plans o es)

pub plans_before : (o s : State) (es : List Event) → IsJournalFrom o s es → length o.plans ≤ length s.plans
plans_before o s es h = adds_length o.plans s.plans (plans_follow o s es h)

-- ---- each submit adds one

one_plan : (plans : List Acceptance) (s : State) (k : ℕ) → IsNextPlan plans s k
    → length (after_plan s (slice_get plans k)).plans ≡ length s.plans + 1
one_plan plans s k h =
    ap (λ o. length (after_plan s o).plans) h.named
    ∙ ap (λ e. length (submitted_unless e s h.plan).plans) h.taken_in
    ∙ length-append s.plans (h.plan ∷ [])

submits_add : (plans : List Acceptance) (s : State) (es : List Event) → IsTrueFrom plans s es
    → length (replay plans s es).plans ≡ length s.plans + count_submits es
submits_add plans s [] h = omega arith
submits_add plans s (Step m reply ∷ es) h =
    omega (arith, submits_add plans (next_of s m) es h.1, ap length (same_plans s m))
submits_add plans s (Submit k ∷ es) h =
    let t = after_plan s (slice_get plans k) in
    omega (arith, submits_add plans t es h.1, one_plan plans s k h.0)

pub plans_submitted : (o s : State) (es : List Event) → IsJournalFrom o s es
    → length s.plans ≡ length o.plans + count_submits es
plans_submitted o s es h =
    subst (λ (t : State). length t.plans ≡ length o.plans + count_submits es) h.leads_here
    (submits_add s.plans o es h.is_true)

-- ---- what a segment tells

-- As many plans were submitted as came before the segment and as it has places.
pub plans_counted : (l : Parts) (o s : State) → IsSegment l o s
    → l.segment.plans_before + length l.segment.prepared ≡ length s.plans
plans_counted l o s k =
    let before = plans_before o s l.segment.events k.told in
    let places = length-map l.segment.prepared (slice_get l.vault.core.plans) in
    let plans = length-map (drop (length o.plans) s.plans) (λ (a : Acceptance). Some a) in
    omega (arith, k.plans_before, before, places, plans, ap length k.prepared, length-drop (length o.plans) s.plans)

-- One place more, of the plan that is submitted.
pub named_behind : (ps : List Acceptance) (ws : List ℕ) (plans : List Acceptance) (n place : ℕ) (a : Acceptance)
    → Places ps ws (drop n plans) → n ≤ length plans → slice_get ps place ≡ Some a
    → Places ps (ws ++ place ∷ []) (drop n (plans ++ a ∷ []))
named_behind ps ws plans n place a k le at =
    place_behind ps ws (drop n plans) place a k at ∙ ap (map Some) (sym (drop-append-le n plans (a ∷ []) le))
