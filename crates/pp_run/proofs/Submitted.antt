-- Plans that are looked at before they are submitted.
use Rattle.std.proofs.Common.{◌≡◌, ◌∙◌, ℕ, ◌+◌, ◌<◌, ◌≤◌, Bool, true, false, List, [], ◌∷◌, length, length-append, refl, sym, ap, subst, arith, rules}
use Rattle.std.specs.Prelude.{Option, None, Some, IsOk, nat_le, nat_lt, sum_by}
use Rattle.std.proofs.lemmas.Bool.{leb-false, ltb-false}
use Rattle.std.proofs.lemmas.List.Sums.{sum_by-cons}
use Rattle.pp_settings.specs.Layout.{Geometry}
use Rattle.pp_settings.specs.declared.span.Span.{Span}
use Rattle.pp_cert.specs.Accepted.{Acceptance}
use Rattle.pp_cert.specs.Walk.{same_layout}
use Rattle.pp_model.specs.declared.refusals.SubmitError.{SubmitError}
use Rattle.pp_model.specs.Pool.{State}
use Rattle.pp_model.specs.Budget.{bound, cost_of, journal_need}
use Rattle.pp_model.specs.Submitting.{counted_plans, plan_limit, most_events, error_where, submit_error, submitted, unless_refused, after_submits}
use Rattle.pp_model.proofs.BoundSteps.{submit_bound, submit_need}
use Rattle.pp_text.specs.Steps.{◌>>=◌}
use Rattle.pp_model.specs.declared.event.Event.TheVariants.{Submit}
use Rattle.pp_pool.specs.Books.{IsBook}
use Rattle.pp_pool.specs.Parts.{Parts, state_of}
use Rattle.pp_pool.specs.Submits.{TakesIn, IsCause}
use Rattle.pp_pool.specs.declared.error.BookError.{BookError}
use Rattle.pp_pool.specs.declared.error.BookError.TheVariants.{OutOfMemory, Refused}
use Rattle.pp_run.specs.Planned.{HasPlanned, HasRoomFor, AreTakenIn, AreRefused}
use Rattle.pp_run.proofs.Taken.{taken_next}

-- ---- one plan

-- The fault that is found by the counts is the model's refusal.
pub fault_is : (g : Geometry) (count need : ℕ) (s : State) (a : Acceptance) → HasPlanned g count need s
    → error_where (same_layout g a.plan.layout) (nat_le 256 count) (nat_lt 4000000 (need + cost_of a)) ≡ submit_error s a
fault_is g count need s a h =
    ap (λ l. error_where (same_layout l a.plan.layout) (nat_le 256 count) (nat_lt 4000000 (need + cost_of a))) (sym h.layout)
    ∙ (ap (λ n. error_where (same_layout s.settings.layout a.plan.layout) (nat_le 256 n) (nat_lt 4000000 (need + cost_of a)))
    (sym h.plans)
    ∙ ap (λ n. error_where (same_layout s.settings.layout a.plan.layout) (nat_le 256 (length s.plans)) (nat_lt 4000000 (n + cost_of a)))
    (sym h.events)
    ∙ ap (λ (k : Span). error_where (same_layout s.settings.layout a.plan.layout)
    (nat_le (plan_limit k) (counted_plans k (length s.plans) s.taken))
    (nat_lt (most_events k) (journal_need s.settings s.plans + cost_of a))) (sym h.span))

-- After it there is one plan more, and the need is greater by its cost.
pub next_planned : (g : Geometry) (count need : ℕ) (s : State) (a : Acceptance) → HasPlanned g count need s
    → HasPlanned g (count + 1) (need + cost_of a) (submitted s a)
next_planned g count need s a h =
    let longer = length-append s.plans (a ∷ []) in
    let was = h.plans in
    record {
      layout = h.layout;
      span = h.span;
      plans = omega (arith, longer, was);
      events = submit_need s a ∙ ap (λ n. n + cost_of a) h.events;
    }

-- Where there is no fault, there is room for one plan more.
no_more : (same many long : Bool) → error_where same many long ≡ None → (many ≡ false) × (long ≡ false)
no_more false many long e = cc
no_more true true long e = cc
no_more true false true e = cc
no_more true false false e = (refl, refl)

pub has_place : (same : Bool) (count need : ℕ) → error_where same (nat_le 256 count) (nat_lt 4000000 need) ≡ None
    → (count < 256) × (need ≤ 4000000)
has_place same count need none =
    let room = no_more same (nat_le 256 count) (nat_lt 4000000 need) none in
    (leb-false 256 count room.0, ltb-false 4000000 need room.1)

-- ---- all plans

pub none_taken : (g : Geometry) (count need : ℕ) → AreTakenIn g count need [] need
none_taken g count need = record { taken = λ s h. search rules; cost = omega arith }

pub more_taken : (g : Geometry) (count need all : ℕ) (a : Acceptance) (rest : List Acceptance)
    → error_where (same_layout g a.plan.layout) (nat_le 256 count) (nat_lt 4000000 (need + cost_of a)) ≡ None
    → AreTakenIn g (count + 1) (need + cost_of a) rest all → AreTakenIn g count need (a ∷ rest) all
more_taken g count need all a rest none t =
    let cost = t.cost in
    record {
      taken = λ s h.
          subst IsOk (sym (taken_next s a rest (sym (fault_is g count need s a h) ∙ none)))
          (t.taken (submitted s a) (next_planned g count need s a h));
      cost = omega (arith, cost, sum_by-cons cost_of a rest);
    }

pub refused_now : (g : Geometry) (count need : ℕ) (a : Acceptance) (rest : List Acceptance) (e : SubmitError)
    → error_where (same_layout g a.plan.layout) (nat_le 256 count) (nat_lt 4000000 (need + cost_of a)) ≡ Some e
    → AreRefused g count need (a ∷ rest) e
refused_now g count need a rest e is s h =
    ap (λ o. unless_refused o (submitted s a) >>= λ after. after_submits after rest)
    (sym (fault_is g count need s a h) ∙ is)

pub refused_later : (g : Geometry) (count need : ℕ) (a : Acceptance) (rest : List Acceptance) (e : SubmitError)
    → error_where (same_layout g a.plan.layout) (nat_le 256 count) (nat_lt 4000000 (need + cost_of a)) ≡ None
    → AreRefused g (count + 1) (need + cost_of a) rest e → AreRefused g count need (a ∷ rest) e
refused_later g count need a rest e none r s h =
    taken_next s a rest (sym (fault_is g count need s a h) ∙ none)
    ∙ r (submitted s a) (next_planned g count need s a h)

-- ---- submitting

-- A plan that is next is taken in where all are.
pub allowed_next : (s : State) (a : Acceptance) (rest : List Acceptance) → IsOk (after_submits s (a ∷ rest))
    → submit_error s a ≡ None
allowed_next s a rest ok = allowed_by (submit_error s a) (submitted s a) rest ok
  where
    allowed_by : (o : Option SubmitError) (t : State) (rest : List Acceptance)
        → IsOk (unless_refused o t >>= λ after. after_submits after rest) → o ≡ None
    allowed_by None t rest ok = refl
    allowed_by (Some e) t rest ok = let never : false ≡ true = ok in cc

-- It is refused for nothing, then, if there is room.
pub not_refused : (b : Parts) (a : Acceptance) (rest : List Acceptance) (e : BookError)
    → IsOk (after_submits (state_of b) (a ∷ rest)) → HasRoomFor b (sum_by cost_of (a ∷ rest) + length (a ∷ rest))
    → IsCause b a e → ⊥
not_refused b a rest OutOfMemory ok room cause =
    omega (arith, room, cause, sum_by-cons cost_of a rest)
not_refused b a rest (Refused error) ok room cause =
    let none = allowed_next (state_of b) a rest ok in
    let some : submit_error (state_of b) a ≡ Some error = cause in cc

-- Behind it there is room for the rest.
pub room_left : (b new : Parts) (a : Acceptance) (rest : List Acceptance) (number : ℕ) → IsBook b
    → TakesIn b a number new → b.capacity ≤ new.capacity
    → HasRoomFor b (sum_by cost_of (a ∷ rest) + length (a ∷ rest)) → HasRoomFor new (sum_by cost_of rest + length rest)
room_left b new a rest number book taken grown room =
    let longer = ap length taken.journal ∙ length-append b.journal (Submit number ∷ []) in
    let rises : bound (state_of new) ≡ bound (state_of b) + cost_of a
    = ap bound taken.state ∙ submit_bound (state_of b) book.stands.core.reached a in
    omega (arith, longer, rises, grown, room, sum_by-cons cost_of a rest)
