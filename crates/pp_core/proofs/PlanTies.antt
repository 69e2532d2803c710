-- The plans that a core keeps, and those that wait, beside the plans of the state.
use Rattle.std.proofs.Common.{◌≡◌, ◌∙◌, ℕ, zero, suc, ◌+◌, ◌^◌, ◌<◌, ◌≤◌, true, false, not, Some}
use Rattle.std.proofs.Common.{List, [], ◌∷◌, ◌++◌, length, map, refl, sym, ap, arith}
use Rattle.std.specs.Prelude.{slice_get, option_and_then, drop, nat_le, nat_lt, ◌==◌}
use Rattle.std.proofs.lemmas.Bool.Decides.{nat_tests}
use Rattle.pp_cert.specs.Accepted.{Acceptance}
use Rattle.pp_settings.specs.declared.span.Span.TheVariants.{Bounded}
use Rattle.pp_model.specs.Pool.{State}
use Rattle.pp_model.specs.Submitting.{submitted}
use Rattle.pp_model.proofs.BoundSteps as numbers
use Rattle.pp_core.specs.Parts.{Parts}
use Rattle.pp_core.specs.StandsFor.{PlansFit, StandsFor, IsKept}
use Rattle.pp_core.specs.TakeEffects.{first_plan}

-- ---- lists

get_drop : (xs : List Acceptance) (n : ℕ) → slice_get xs n ≡ slice_get (drop n xs) 0
get_drop [] zero = refl
get_drop [] (suc n) = refl
get_drop (x ∷ xs) zero = refl
get_drop (x ∷ xs) (suc n) = get_drop xs n

drop_more : (xs : List Acceptance) (n : ℕ) → drop (suc n) xs ≡ drop 1 (drop n xs)
drop_more [] zero = refl
drop_more [] (suc n) = refl
drop_more (x ∷ xs) zero = refl
drop_more (x ∷ xs) (suc n) = drop_more xs n

drop_behind : (xs : List Acceptance) (n : ℕ) (a : Acceptance) → n ≤ length xs → drop n (xs ++ a ∷ []) ≡ drop n xs ++ a ∷ []
drop_behind [] zero a le = refl
drop_behind [] (suc n) a le = absurd (omega (arith, le))
drop_behind (x ∷ xs) zero a le = refl
drop_behind (x ∷ xs) (suc n) a le = drop_behind xs n a (omega (arith, le))

pub get_before : (xs ys : List Acceptance) (i : ℕ) (x : Acceptance) → slice_get xs i ≡ Some x
    → slice_get (xs ++ ys) i ≡ Some x
get_before [] ys i x e = cc
get_before (y ∷ xs) ys zero x e = e
get_before (y ∷ xs) ys (suc i) x e = get_before xs ys i x e

pub get_last : (xs : List Acceptance) (a : Acceptance) → slice_get (xs ++ a ∷ []) (length xs) ≡ Some a
get_last [] a = refl
get_last (x ∷ xs) a = get_last xs a

length_behind : (ws : List ℕ) (k : ℕ) → length (ws ++ k ∷ []) ≡ length ws + 1
length_behind [] k = refl
length_behind (w ∷ ws) k = omega (arith, length_behind ws k)

length_rest : (ws : List ℕ) → 0 < length ws → length (drop 1 ws) + 1 ≡ length ws
length_rest [] lt = absurd (omega (arith, lt))
length_rest (w ∷ ws) lt = omega arith

pub more_plans : (xs : List Acceptance) (a : Acceptance) → length (xs ++ a ∷ []) ≡ length xs + 1
more_plans [] a = refl
more_plans (x ∷ xs) a = omega (arith, more_plans xs a)

-- ---- which plans wait

-- These places have these plans.
abbrev pub Places : List Acceptance → List ℕ → List Acceptance → Type 0
Places ps ws bs = map (slice_get ps) ws ≡ map Some bs

first_of : (ps : List Acceptance) (ws : List ℕ) (bs : List Acceptance) → Places ps ws bs
    → slice_get bs 0 ≡ option_and_then (slice_get ps) (slice_get ws 0)
first_of ps [] [] e = refl
first_of ps [] (a ∷ bs) e = cc
first_of ps (k ∷ ws) [] e = cc
first_of ps (k ∷ ws) (a ∷ bs) e =
    let f : slice_get ps k ∷ map (slice_get ps) ws ≡ Some a ∷ map Some bs = e in
    let here : slice_get ps k ≡ Some a = cc in
    sym here

rest_of : (ps : List Acceptance) (ws : List ℕ) (bs : List Acceptance) → Places ps ws bs
    → Places ps (drop 1 ws) (drop 1 bs)
rest_of ps [] [] e = refl
rest_of ps [] (a ∷ bs) e = cc
rest_of ps (k ∷ ws) [] e = cc
rest_of ps (k ∷ ws) (a ∷ bs) e =
    let f : slice_get ps k ∷ map (slice_get ps) ws ≡ Some a ∷ map Some bs = e in
    let there : map (slice_get ps) ws ≡ map Some bs = cc in
    there

-- More plans leave the places.
pub more_places : (ps qs : List Acceptance) (ws : List ℕ) (bs : List Acceptance) → Places ps ws bs
    → Places (ps ++ qs) ws bs
more_places ps qs [] [] e = refl
more_places ps qs [] (a ∷ bs) e = cc
more_places ps qs (k ∷ ws) [] e = cc
more_places ps qs (k ∷ ws) (a ∷ bs) e =
    let f : slice_get ps k ∷ map (slice_get ps) ws ≡ Some a ∷ map Some bs = e in
    let here : slice_get ps k ≡ Some a = cc in
    let there : map (slice_get ps) ws ≡ map Some bs = cc in
    λ i. get_before ps qs k a here i ∷ more_places ps qs ws bs there i

-- One place more, behind the others.
pub place_behind : (ps : List Acceptance) (ws : List ℕ) (bs : List Acceptance) (k : ℕ) (a : Acceptance)
    → Places ps ws bs → slice_get ps k ≡ Some a → Places ps (ws ++ k ∷ []) (bs ++ a ∷ [])
place_behind ps [] [] k a e at = ap (λ o. o ∷ []) at
place_behind ps [] (b ∷ bs) k a e at = cc
place_behind ps (j ∷ ws) [] k a e at = cc
place_behind ps (j ∷ ws) (b ∷ bs) k a e at =
    let f : slice_get ps j ∷ map (slice_get ps) ws ≡ Some b ∷ map Some bs = e in
    let here : slice_get ps j ≡ Some b = cc in
    let there : map (slice_get ps) ws ≡ map Some bs = cc in
    λ i. here i ∷ place_behind ps ws bs k a there at i

-- ---- the plans of a core and of a state

-- Where the state's plans stay, they still fit.
pub plans_stay : (ps : List Acceptance) (ws : List ℕ) (s t : State) → PlansFit ps ws s → t.settings ≡ s.settings
    → t.plans ≡ s.plans → t.taken ≡ s.taken → PlansFit ps ws t
plans_stay ps ws s t h k p n = record {
  waits = h.waits ∙ (λ i. map Some (drop (sym n i) (sym p i)));
  submitted = ap (λ m. m + length ws) n ∙ h.submitted ∙ ap length (sym p);
  all = λ b. h.all (ap (λ x. x.span) (sym k) ∙ b) ∙ sym p;
}

-- The first plan that waits.
pub first_waits : (f : Parts) (s : State) → StandsFor f s → slice_get s.plans s.taken ≡ first_plan f
first_waits f s st =
    get_drop s.plans s.taken ∙ first_of f.plans f.waiting (drop s.taken s.plans) st.plans.waits

-- It is taken.
pub plans_taken : (ps : List Acceptance) (ws : List ℕ) (s t : State) → PlansFit ps ws s → t.settings ≡ s.settings
    → t.plans ≡ s.plans → t.taken ≡ s.taken + 1 → s.taken < length s.plans → PlansFit ps (drop 1 ws) t
plans_taken ps ws s t h k p n lt =
    let some : 0 < length ws = omega (arith, h.submitted, lt) in
    let one : t.taken ≡ suc s.taken = omega (arith, n) in
    record {
      waits = rest_of ps ws (drop s.taken s.plans) h.waits
          ∙ ap (map Some) (sym (drop_more s.plans s.taken) ∙ (λ i. drop (sym one i) (sym p i)));
      submitted = omega (arith, h.submitted, n, length_rest ws some, ap length p);
      all = λ b. h.all (ap (λ x. x.span) (sym k) ∙ b) ∙ sym p;
    }

-- A plan that stands at this place waits behind the others. (In a bounded life it was put there just now.)
pub plan_behind : (ps qs : List Acceptance) (ws : List ℕ) (s : State) (place : ℕ) (a : Acceptance)
    → PlansFit ps ws s → s.taken ≤ length s.plans → slice_get (ps ++ qs) place ≡ Some a
    → (s.settings.span ≡ Bounded → ps ++ qs ≡ s.plans ++ a ∷ []) → PlansFit (ps ++ qs) (ws ++ place ∷ []) (submitted s a)
plan_behind ps qs ws s place a h le at all = record {
  waits = place_behind (ps ++ qs) ws (drop s.taken s.plans) place a
      (more_places ps qs ws (drop s.taken s.plans) h.waits) at
      ∙ ap (map Some) (sym (drop_behind s.plans s.taken a le));
  submitted = omega (arith, h.submitted, length_behind ws place, more_plans s.plans a);
  all = all;
}

-- ---- numbers

pub plans_told : (f : Parts) (s : State) → StandsFor f s → f.taken + length f.waiting ≡ length s.plans
plans_told f s st = ap (λ n. n + length f.waiting) st.taken ∙ st.plans.submitted

pub taken_small : (f : Parts) → IsKept f → f.taken ≤ 2 ^ 61
taken_small f k =
    omega (arith, k.stands.taken, numbers.taken_are_few k.state k.stands.reached, numbers.plans_small k.state k.stands.reached)

-- Whether a plan waits.
by_count : (n t m : ℕ) → t + n ≡ m → not (n == 0) ≡ nat_lt t m
by_count zero t m e = let no : nat_lt t m ≡ false = grind (arith, nat_tests) in sym no
by_count (suc n) t m e =
    let yes : nat_lt t m ≡ true = grind (arith, nat_tests) in
    let some : (suc n == 0) ≡ false = grind (arith, nat_tests) in ap not some ∙ sym yes

pub waits_told : (f : Parts) (s : State) → StandsFor f s → not (length f.waiting == 0) ≡ nat_lt s.taken (length s.plans)
waits_told f s st = by_count (length f.waiting) s.taken (length s.plans) st.plans.submitted

by_none : (n t m : ℕ) → t + n ≡ m → nat_le m t ≡ (n == 0)
by_none zero t m e = let yes : nat_le m t ≡ true = grind (arith, nat_tests) in yes
by_none (suc n) t m e =
    let no : nat_le m t ≡ false = grind (arith, nat_tests) in
    let some : (suc n == 0) ≡ false = grind (arith, nat_tests) in no ∙ sym some

pub none_told : (f : Parts) (s : State) → StandsFor f s → nat_le (length s.plans) s.taken ≡ (length f.waiting == 0)
none_told f s st = by_none (length f.waiting) s.taken (length s.plans) st.plans.submitted
