-- Submitting a plan, on the core's side and on the state's.
use Rattle.std.proofs.Common.{◌≡◌, ◌≢◌, ◌∙◌, ℕ, ◌+◌, ◌≤◌, ◌<◌, Bool, true, false, Option, Some, None, List, []}
use Rattle.std.proofs.Common.{◌∷◌, ◌++◌}
use Rattle.std.proofs.Common.{length, refl, sym, ap, subst, arith}
use Rattle.std.specs.Prelude.{slice_get, nat_le, nat_lt, ◌↔◌}
use Rattle.std.proofs.lemmas.Bool.{false≢true}
use Rattle.std.proofs.lemmas.Bool.Decides.{nat_tests}
use Rattle.pp_cert.specs.Accepted.{Acceptance, IsAccepted}
use Rattle.pp_cert.specs.Walk.{same_layout}
use Rattle.pp_model.specs.declared.refusals.SubmitError.{SubmitError}
use Rattle.pp_model.specs.declared.refusals.SubmitError.TheVariants.{OtherSettings, TooManyPlans, JournalLimit, NotPrepared}
use Rattle.pp_settings.specs.declared.span.Span.{Span}
use Rattle.pp_settings.specs.declared.span.Span.TheVariants.{Bounded, Endless}
use Rattle.pp_model.specs.Pool.{Running, State}
use Rattle.pp_model.specs.Budget.{cost_of}
use Rattle.pp_model.specs.Reached.{IsReached}
use Rattle.pp_model.specs.Submitting.{counted_plans, plan_limit, most_events, error_where, submit_error, submitted}
use Rattle.pp_model.specs.Submitting.{submitted_unless, after_submit}
use Rattle.pp_model.proofs.Journeys.{plan_reached}
use Rattle.pp_model.proofs.Spans.{events_small, waits_count, bounded_count}
use Rattle.pp_model.proofs.BoundSteps as numbers
use Rattle.pp_core.specs.declared.seat.Seat.{Seat}
use Rattle.pp_core.specs.Parts.{Parts}
use Rattle.pp_core.specs.Limits.{most_kept}
use Rattle.pp_core.specs.StandsFor.{PlansFit, FitsRunning, FitsSeat, FitsCrew, StandsFor, IsKept}
use Rattle.pp_core.specs.Submits.{submit_fault, CanAdd, with_waiting, with_kept, with_plan, TakesIn, TakesPrepared}
use Rattle.pp_core.specs.Submits.{Prepares, SubmitFails, PreparedFails}
use Rattle.pp_core.proofs.Gathered.{bundles_kept}
use Rattle.pp_core.proofs.PlanTies.{get_before, get_last, more_places, plan_behind, plans_told}

-- ---- why a plan isn't taken in

pub fault_is : (f : Parts) (s : State) (a : Acceptance) → StandsFor f s → submit_error s a ≡ submit_fault f a
fault_is f s a st =
    let count : length s.plans ≡ f.taken + length f.waiting = sym (plans_told f s st) in
    λ i. error_where (same_layout (sym st.layout i) a.plan.layout)
    (nat_le (plan_limit (sym st.span i)) (counted_plans (sym st.span i) (count i) (sym st.taken i)))
    (nat_lt (most_events (sym st.span i)) (sym st.need i + cost_of a))

pub needs_less : (f : Parts) → IsKept f → f.need ≤ most_events f.span
needs_less f k =
    omega (arith, k.stands.need, numbers.need_fits k.state k.stands.reached, ap most_events k.stands.span)

-- Where there is none, there is room.
abbrev HasRoom : (many long : Bool) → Type 0
HasRoom many long = (many ≡ false) × (long ≡ false)

room_by : (same many long : Bool) → error_where same many long ≡ None → HasRoom many long
room_by false many long e = cc
room_by true true long e = cc
room_by true false true e = cc
room_by true false false e = (refl, refl)

-- What a plan passed that is taken in.
pub record Passed (f : Parts) (a : Acceptance) : Type 0 where
  pub few : counted_plans f.span (f.taken + length f.waiting) f.taken < plan_limit f.span
  pub need : f.need + cost_of a ≤ most_events f.span

pub passed : (f : Parts) (a : Acceptance) → submit_fault f a ≡ None → Passed f a
passed f a e =
    let count = counted_plans f.span (f.taken + length f.waiting) f.taken in
    let most = plan_limit f.span in
    let events = most_events f.span in
    let many = nat_le most count in
    let long = nat_lt events (f.need + cost_of a) in
    let room : HasRoom many long = room_by (same_layout f.layout a.plan.layout) many long e in
    record { few = less most count room.0; need = within events (f.need + cost_of a) room.1 }
  where
    less : (most n : ℕ) → nat_le most n ≡ false → n < most
    less most n e = grind (arith, nat_tests)

    within : (most n : ℕ) → nat_lt most n ≡ false → n ≤ most
    within most n e = grind (arith, nat_tests)

pub can_add : (f : Parts) (a : Acceptance) → IsKept f → submit_fault f a ≡ None → CanAdd f a
can_add f a k e =
    let p = passed f a e in
    let st = k.stands in
    record {
      few = omega (arith, p.few, waits_count f.span f.taken (length f.waiting));
      need = omega (arith, p.need, events_small f.span);
      budget = omega (arith, st.budget, st.need, numbers.bound_fits k.state st.reached);
    }

-- The same where one plan more is kept.
pub can_add_kept : (f g : Parts) (a : Acceptance) → IsKept f → submit_fault f a ≡ None → g ≡ with_kept f a → CanAdd g a
can_add_kept f g a k e is =
    let c = can_add f a k e in
    let all : CanAdd (with_kept f a) a = record { few = c.few; need = c.need; budget = c.budget } in
    subst (λ (z : Parts). CanAdd z a) (sym is) all

-- A life that isn't endless is bounded.
pub bounded_by : (k : Span) (b : Bool) → b ≡ false → (b ≡ true) ↔ (k ≢ Bounded) → k ≡ Bounded
bounded_by Bounded b off is = refl
bounded_by (Endless waiting) b off is = absurd (false≢true (sym off ∙ is.1 (endless waiting)))
  where
    endless : (waiting : ℕ) → Endless waiting ≢ Bounded
    endless waiting e = cc

-- In a bounded life there is room for it among the plans that are kept.
pub few_kept : (f : Parts) (a : Acceptance) → IsKept f → f.span ≡ Bounded → submit_fault f a ≡ None → length f.plans < 256
few_kept f a k b e =
    let st = k.stands in
    omega (
      arith,
      ap length (st.plans.all (sym st.span ∙ b)),
      plans_told f k.state st,
      bounded_count f.span (f.taken + length f.waiting) f.taken b (passed f a e).few,
    )

-- ---- refusals

-- The model never says that a plan isn't prepared.
never : (same many long : Bool) → error_where same many long ≡ Some NotPrepared → ⊥
never false many long e = cc
never true true long e = cc
never true false true e = cc
never true false false e = cc

pub refused_so : (f : Parts) (a : Acceptance) (error : SubmitError) → f.span ≡ Bounded → submit_fault f a ≡ Some error
    → SubmitFails f a error
refused_so f a OtherSettings b e = (b, λ s st. fault_is f s a st ∙ e)
refused_so f a TooManyPlans b e = (b, λ s st. fault_is f s a st ∙ e)
refused_so f a JournalLimit b e = (b, λ s st. fault_is f s a st ∙ e)
refused_so f a NotPrepared b e = absurd (never _ _ _ e)

pub prepared_refused_so : (f : Parts) (place : ℕ) (a : Acceptance) (error : SubmitError) → f.span ≢ Bounded
    → slice_get f.plans place ≡ Some a → submit_fault f a ≡ Some error → PreparedFails f place error
prepared_refused_so f place a OtherSettings endless at e = (endless, a, at, λ s st. fault_is f s a st ∙ e)
prepared_refused_so f place a TooManyPlans endless at e = (endless, a, at, λ s st. fault_is f s a st ∙ e)
prepared_refused_so f place a JournalLimit endless at e = (endless, a, at, λ s st. fault_is f s a st ∙ e)
prepared_refused_so f place a NotPrepared endless at e = absurd (never _ _ _ e)

-- ---- plans that come behind others

more_running : (ps qs : List Acceptance) (x : Seat) (r : Running) → FitsRunning ps x r → FitsRunning (ps ++ qs) x r
more_running ps qs x r h = record {
  number = h.number;
  plan = get_before ps qs x.place r.accepted h.plan;
  cursor = h.cursor;
  ask = h.ask;
  actions = h.actions;
  holds = h.holds;
  width = h.width;
  slots = h.slots;
  phase = h.phase;
}

more_seat : (ps qs : List Acceptance) (x : Option Seat) (y : Option Running) → FitsSeat ps x y → FitsSeat (ps ++ qs) x y
more_seat ps qs None None h = tt
more_seat ps qs None (Some r) h = absurd h
more_seat ps qs (Some x) None h = absurd h
more_seat ps qs (Some x) (Some r) h = more_running ps qs x r h

more_crew : (ps qs : List Acceptance) (xs : List (Option Seat)) (ys : List (Option Running)) → FitsCrew ps xs ys
    → FitsCrew (ps ++ qs) xs ys
more_crew ps qs xs ys h = record {
  size = h.size;
  each = λ w x y l r. more_seat ps qs x y (h.each w x y l r);
}

none_more : (ps : List Acceptance) → ps ++ [] ≡ ps
none_more [] = refl
none_more (p ∷ ps) = ap (λ qs. p ∷ qs) (none_more ps)

-- ---- a plan that is taken in

-- It waits, and these plans are kept.
waits_stands : (f : Parts) (s : State) (a : Acceptance) (ps : List Acceptance) (place : ℕ) → StandsFor f s
    → submit_error s a ≡ None → IsAccepted a → FitsCrew ps f.seats s.seats
    → PlansFit ps (f.waiting ++ place ∷ []) (submitted s a)
    → StandsFor (with_waiting (record f { plans = ps }) place a) (submitted s a)
waits_stands f s a ps place st e ok crew plans = record {
  reached = subst (λ (o : Option SubmitError). IsReached (submitted_unless o s a)) e (plan_reached s a ok st.reached);
  layout = st.layout;
  span = st.span;
  flushes = st.flushes;
  flushes_left = st.flushes_left;
  plans = plans;
  taken = st.taken;
  seats = crew;
  lists = st.lists;
  marks = st.marks;
  bundles = bundles_kept f.bundles s (submitted s a) st.bundles refl refl;
  pages = st.pages;
  in_flight = st.in_flight;
  flush = st.flush;
  running = st.running;
  need = omega (arith, st.need, numbers.submit_need s a);
  budget = omega (arith, st.budget, numbers.submit_bound s st.reached a);
}

-- What follows a submit that isn't refused.
follows : (f g : Parts) (s : State) (a : Acceptance) → submit_error s a ≡ None → g ≡ f → StandsFor f (submitted s a)
    → StandsFor g (after_submit s a)
follows f g s a none is h =
    subst (λ (z : Parts). StandsFor z (after_submit s a)) (sym is)
    (subst (λ (o : Option SubmitError). StandsFor f (submitted_unless o s a)) (sym none) h)

submitted_stands : (f : Parts) (s : State) (a : Acceptance) → StandsFor f s → f.span ≡ Bounded → submit_error s a ≡ None
    → IsAccepted a → StandsFor (with_plan f a) (submitted s a)
submitted_stands f s a st b e ok =
    waits_stands f s a (f.plans ++ a ∷ []) (length f.plans) st e ok (more_crew f.plans (a ∷ []) f.seats s.seats st.seats)
    (plan_behind f.plans (a ∷ []) f.waiting s (length f.plans) a st.plans (numbers.taken_are_few s st.reached)
    (get_last f.plans a) (λ q. ap (λ ps. ps ++ a ∷ []) (st.plans.all q)))

pub takes_in : (f g : Parts) (a : Acceptance) (number : ℕ) → f.span ≡ Bounded → IsAccepted a → submit_fault f a ≡ None
    → g ≡ with_plan f a → number ≡ f.taken + length f.waiting → TakesIn f a number g
takes_in f g a number b ok e is told = record {
  bounded = b;
  allowed = λ s st. fault_is f s a st ∙ e;
  numbered = λ s st. told ∙ plans_told f s st;
  stands = λ s st.
      let none = fault_is f s a st ∙ e in
      follows (with_plan f a) g s a none is (submitted_stands f s a st b none ok);
  parts = is;
}

-- ---- a prepared plan that is taken in

-- In an endless life the plans that are kept stay.
endless_plans : (f : Parts) (s : State) (place : ℕ) (a : Acceptance) → StandsFor f s → (f.span ≡ Bounded → ⊥)
    → slice_get f.plans place ≡ Some a → PlansFit f.plans (f.waiting ++ place ∷ []) (submitted s a)
endless_plans f s place a st endless at =
    subst (λ ps. PlansFit ps (f.waiting ++ place ∷ []) (submitted s a)) (none_more f.plans)
    (plan_behind f.plans [] f.waiting s place a st.plans (numbers.taken_are_few s st.reached)
    (get_before f.plans [] place a at) (λ q. absurd (endless (st.span ∙ q))))

pub takes_prepared : (f g : Parts) (place number : ℕ) (a : Acceptance) → (f.span ≡ Bounded → ⊥) → IsAccepted a
    → slice_get f.plans place ≡ Some a → submit_fault f a ≡ None → g ≡ with_waiting f place a
    → number ≡ f.taken + length f.waiting → TakesPrepared f place number a g
takes_prepared f g place number a endless ok at e is told = record {
  endless = endless;
  plan = at;
  allowed = λ s st. fault_is f s a st ∙ e;
  numbered = λ s st. told ∙ plans_told f s st;
  stands = λ s st.
      let none = fault_is f s a st ∙ e in
      follows (with_waiting f place a) g s a none is
      (waits_stands f s a f.plans place st none ok st.seats (endless_plans f s place a st endless at));
  parts = is;
}

-- ---- a plan that is prepared

prepared_stands : (f : Parts) (s : State) (a : Acceptance) → StandsFor f s → (f.span ≡ Bounded → ⊥)
    → StandsFor (with_kept f a) s
prepared_stands f s a st endless = record {
  reached = st.reached;
  layout = st.layout;
  span = st.span;
  flushes = st.flushes;
  flushes_left = st.flushes_left;
  plans = record {
    waits = more_places f.plans (a ∷ []) f.waiting _ st.plans.waits;
    submitted = st.plans.submitted;
    all = λ q. absurd (endless (st.span ∙ q));
  };
  taken = st.taken;
  seats = more_crew f.plans (a ∷ []) f.seats s.seats st.seats;
  lists = st.lists;
  marks = st.marks;
  bundles = st.bundles;
  pages = st.pages;
  in_flight = st.in_flight;
  flush = st.flush;
  running = st.running;
  need = st.need;
  budget = st.budget;
}

pub prepares : (f g : Parts) (a : Acceptance) (place : ℕ) → (f.span ≡ Bounded → ⊥)
    → same_layout f.layout a.plan.layout ≡ true → length f.plans < most_kept f.span → g ≡ with_kept f a
    → place ≡ length f.plans → Prepares f a place g
prepares f g a place endless same few is told = record {
  endless = endless;
  same = same;
  few = few;
  place = told;
  stands = λ s st. subst (λ (z : Parts). StandsFor z s) (sym is) (prepared_stands f s a st endless);
  parts = is;
}
