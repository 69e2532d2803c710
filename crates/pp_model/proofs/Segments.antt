-- Segments of a journal, one behind the other, are a true journal.
use Rattle.std.proofs.Common.{◌≡◌, ◌∙◌, ℕ, Option, Some, None, List, [], ◌∷◌, ◌++◌, refl, sym, ap, subst}
use Rattle.std.specs.Prelude.{slice_get}
use Rattle.pp_cert.specs.Accepted.{Acceptance}
use Rattle.pp_model.specs.declared.event.Event.{Event}
use Rattle.pp_model.specs.declared.event.Event.TheVariants.{Submit, Step}
use Rattle.pp_model.specs.declared.refusals.SubmitError.{SubmitError}
use Rattle.pp_model.specs.Pool.{State}
use Rattle.pp_model.specs.Moves.{next_of}
use Rattle.pp_model.specs.Submitting.{submit_error, submitted_unless}
use Rattle.pp_model.specs.Journals.{after_plan, replay, IsTrueFrom, IsJournalFrom}
use Rattle.pp_model.specs.Segments.{Segment, AreSegments, segments_end, all_events, SegmentsAreAJournal}
use Rattle.pp_model.proofs.Journeys.{replay_more, true_more, true_longer, same_plans}

-- ---- plans are only added

nothing_more : (xs : List Acceptance) → xs ≡ xs ++ []
nothing_more [] = refl
nothing_more (x ∷ xs) = ap (λ ys. x ∷ ys) (nothing_more xs)

again_more : (xs ys zs : List Acceptance) → (xs ++ ys) ++ zs ≡ xs ++ (ys ++ zs)
again_more [] ys zs = refl
again_more (x ∷ xs) ys zs = ap (λ r. x ∷ r) (again_more xs ys zs)

-- The plans of one state are those of another and some behind them.
abbrev Adds : State → State → Type 0
Adds s t = (more : List Acceptance) × (t.plans ≡ s.plans ++ more)

adds_none : (s t : State) → t.plans ≡ s.plans → Adds s t
adds_none s t e = ([], e ∙ nothing_more s.plans)

adds_both : (s t u : State) → Adds s t → Adds t u → Adds s u
adds_both s t u a b =
    (a.0 ++ b.0, b.1 ∙ ap (λ ps. ps ++ b.0) a.1 ∙ again_more s.plans a.0 b.0)

by_error : (s : State) (a : Acceptance) (o : Option SubmitError) → Adds s (submitted_unless o s a)
by_error s a None = (a ∷ [], refl)
by_error s a (Some error) = adds_none s s refl

by_plan : (s : State) (o : Option Acceptance) → Adds s (after_plan s o)
by_plan s None = adds_none s s refl
by_plan s (Some a) = by_error s a (submit_error s a)

plans_grow : (plans : List Acceptance) (s : State) (es : List Event) → Adds s (replay plans s es)
plans_grow plans s [] = adds_none s s refl
plans_grow plans s (Step m reply ∷ es) =
    adds_both s (next_of s m) (replay plans (next_of s m) es) (adds_none s (next_of s m) (same_plans s m))
    (plans_grow plans (next_of s m) es)
plans_grow plans s (Submit k ∷ es) =
    let t = after_plan s (slice_get plans k) in
    adds_both s t (replay plans t es) (by_plan s (slice_get plans k)) (plans_grow plans t es)

-- ---- two segments, and all

pub joined : (o s t : State) (es fs : List Event) → IsJournalFrom o s es → IsJournalFrom s t fs
    → IsJournalFrom o t (es ++ fs)
joined o s t es fs h k =
    let grown = plans_grow t.plans s fs in
    let is : t.plans ≡ s.plans ++ grown.0 = sym (ap (λ (x : State). x.plans) k.leads_here) ∙ grown.1 in
    let long = true_longer s.plans grown.0 o es h.is_true in
    let first : IsTrueFrom t.plans o es = subst (λ ps. IsTrueFrom ps o es) (sym is) long.0 in
    let there : replay t.plans o es ≡ s = ap (λ ps. replay ps o es) is ∙ long.1 ∙ h.leads_here in
    let second : IsTrueFrom t.plans (replay t.plans o es) fs = subst (λ x. IsTrueFrom t.plans x fs) (sym there) k.is_true in
    record {
      is_true = true_more t.plans o es fs first second;
      leads_here = replay_more t.plans o es fs ∙ ap (λ x. replay t.plans x fs) there ∙ k.leads_here;
    }

pub segments_join : (o : State) → SegmentsAreAJournal o
segments_join o [] h = record { is_true = tt; leads_here = refl }
segments_join o (x ∷ xs) h = joined o x.end (segments_end x.end xs) x.events (all_events xs) h.0 (segments_join x.end xs h.1)
