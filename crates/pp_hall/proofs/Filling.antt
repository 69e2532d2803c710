-- The places of parked workers, as they are filled and emptied.
use Rattle.std.proofs.Common.{◌≡◌, ◌≢◌, ◌∙◌, ℕ, zero, suc, ◌+◌, ◌<◌, ◌≤◌, Bool, true, false, ltb, List, [], ◌∷◌, ◌++◌}
use Rattle.std.proofs.Common.{length, Option, Some}
use Rattle.std.proofs.Common.{None, refl, sym, ap, subst, inl, inr, arith, length-append}
use Rattle.std.specs.Prelude.{map, slice_set, slice_index_or, replicate, is_some, is_none, IfSome, ◌&&◌, sum_by}
use Rattle.std.proofs.lemmas.Bool.{cases_eq}
use Rattle.std.proofs.lemmas.Bool.Decides.{nat_tests}
use Rattle.std.proofs.Math.ListN.{length-set}
use Rattle.std.proofs.lemmas.List.{get_or-set_same, get_or-set_other, map-append, replicate_more}
use Rattle.std.proofs.lemmas.List.Sums.{sum_by_push}
use Rattle.pp_vault.specs.declared.stage.Hand.{Hand}
use Rattle.pp_vault.specs.Holding.{placed, is_free}
use Rattle.pp_vault.specs.Stages.{stage_worker, idle_hand, is_free_for, put_for, AllIdle}
use Rattle.pp_pool.specs.declared.worker.Worker.{Worker}
use Rattle.pp_hall.specs.Posts.{ArePosts, one_if}

-- ---- one more at the end, or one less

if_push : {A : Type 0} (P : ℕ → A → Type 0) (xs : List (Option A)) (x : Option A)
    → ((v : ℕ) → IfSome (placed xs v) (P v)) → IfSome x (P (length xs)) → (v : ℕ) → IfSome (placed (xs ++ x ∷ []) v) (P v)
if_push P [] x all here zero = here
if_push P [] x all here (suc v) = tt
if_push P (y ∷ ys) x all here zero = all zero
if_push P (y ∷ ys) x all here (suc v) = if_push (λ k. P (suc k)) ys x (λ k. all (suc k)) here v

if_pop : {A : Type 0} (P : ℕ → A → Type 0) (xs : List (Option A)) (x : Option A)
    → ((v : ℕ) → IfSome (placed (xs ++ x ∷ []) v) (P v)) → (v : ℕ) → IfSome (placed xs v) (P v)
if_pop P [] x all v = tt
if_pop P (y ∷ ys) x all zero = all zero
if_pop P (y ∷ ys) x all (suc v) = if_pop (λ k. P (suc k)) ys x (λ k. all (suc k)) v

if_last : {A : Type 0} (P : ℕ → A → Type 0) (xs : List (Option A)) (x : Option A)
    → ((v : ℕ) → IfSome (placed (xs ++ x ∷ []) v) (P v)) → IfSome x (P (length xs))
if_last P [] x all = all zero
if_last P (y ∷ ys) x all = if_last (λ k. P (suc k)) ys x (λ k. all (suc k))

free_other : (hands : List (Option Hand)) (k w : ℕ) (x : Option Hand) → w ≢ k
    → is_free (slice_set hands k x) w ≡ is_free hands w
free_other hands k w x other =
    λ i. ltb w (length-set hands k x i) && is_none (get_or-set_other hands k w x None other i)

free_here : (hands : List (Option Hand)) (k : ℕ) → k < length hands → is_free (slice_set hands k None) k ≡ true
free_here hands k less =
    let there : ltb k (length hands) ≡ true = grind (arith, nat_tests) in
    (λ i. ltb k (length-set hands k None i) && is_none (get_or-set_same hands k None None less i))
    ∙ ap (λ (b : Bool). b && true) there

-- ---- filling

-- The first k of n places have their workers, whose hands are out; the other hands are idle in their places. So many devices
-- are left, one of which is the flusher's.
pub record IsFilled {S D : Type 0} (n k : ℕ) (places : List (Option (Worker S D))) (hands : List (Option Hand))
    (devices : ℕ) : Type 0 where
  pub count : length places ≡ k
  pub there : map is_some places ≡ replicate k true
  pub own : (w : ℕ) → IfSome (placed places w) (λ post. stage_worker post.hand.stage ≡ Some w)
  pub free : (w : ℕ) → w < k → is_free hands w ≡ true
  pub idle : (w : ℕ) → k ≤ w → w < n → placed hands w ≡ Some (idle_hand (record { worker = w }))
  pub long : length hands ≡ n
  pub left : devices + k ≡ n + 1

pub unfilled : {S D : Type 0} (n : ℕ) (places : List (Option (Worker S D))) (hands : List (Option Hand)) (devices : ℕ)
    → places ≡ [] → AllIdle n hands → devices ≡ n + 1 → IsFilled {S = S} {D = D} n 0 places hands devices
unfilled {S = S} {D = D} n places hands devices none idle ends = record {
  count = ap length none;
  there = ap (map is_some) none;
  own = λ w. subst (λ (xs : List (Option (Worker S D))). IfSome (placed xs w) (λ post. stage_worker post.hand.stage ≡ Some w))
      (sym none) tt;
  free = λ w less. absurd (omega arith);
  idle = λ w from less. idle.idle w less;
  long = idle.long;
  left = omega (arith, ends);
}

pub filled_more : {S D : Type 0} (n k : ℕ) (places : List (Option (Worker S D))) (hands : List (Option Hand)) (devices : ℕ)
    (post : Worker S D) (more : List (Option (Worker S D))) (rest : List (Option Hand)) (left : ℕ)
    → IsFilled n k places hands devices → k < n → stage_worker post.hand.stage ≡ Some k → more ≡ places ++ Some post ∷ []
    → rest ≡ slice_set hands k None → left + 1 ≡ devices → IsFilled n (k + 1) more rest left
filled_more {S = S} {D = D} n k places hands devices post more rest left h less of grown out one =
    let Own : ℕ → Worker S D → Type 0 = λ (w : ℕ) (p : Worker S D). stage_worker p.hand.stage ≡ Some w in
    record {
      count = ap length grown ∙ omega (arith, length-append places (Some post ∷ []), h.count);
      there =
          ap (map is_some) grown ∙ map-append is_some places (Some post ∷ [])
          ∙ ap (λ (bs : List Bool). bs ++ true ∷ []) h.there ∙ replicate_more k true;
      own = subst (λ (xs : List (Option (Worker S D))). (w : ℕ) → IfSome (placed xs w) (Own w)) (sym grown)
          (if_push Own places (Some post) h.own (subst (λ (m : ℕ). stage_worker post.hand.stage ≡ Some m) (sym h.count) of));
      free = λ w below. subst (λ (xs : List (Option Hand)). is_free xs w ≡ true) (sym out) (elim (cases_eq w k) [
        | inl here ↦ subst (λ (m : ℕ). is_free (slice_set hands k None) m ≡ true) (sym here)
            (free_here hands k (omega (arith, h.long)))
        | inr other ↦ free_other hands k w None other ∙ h.free w (omega arith)
      ]);
      idle = λ w from below. ap (λ (xs : List (Option Hand)). placed xs w) out
          ∙ get_or-set_other hands k w None None (λ e. absurd (omega (arith, e))) ∙ h.idle w (omega arith) below;
      long = ap length out ∙ length-set hands k None ∙ h.long;
      left = omega (arith, h.left);
    }

-- ---- emptying

-- What is told of one more place.
there_push : {A : Type 0} (xs : List (Option A)) (x : Option A)
    → sum_by one_if (map is_some (xs ++ x ∷ [])) ≡ sum_by one_if (map is_some xs) + one_if (is_some x)
there_push xs x =
    ap (sum_by one_if) (map-append is_some xs (x ∷ [])) ∙ sum_by_push one_if (map is_some xs) (is_some x)

-- What is left in the places, whose hands aren't there yet; and as many devices and workers as there were workers before.
pub record IsEmptied {S D : Type 0} (n there : ℕ) (places : List (Option (Worker S D))) (hands : List (Option Hand))
    (devices capacity : ℕ) : Type 0 where
  pub own : (w : ℕ) → IfSome (placed places w) (λ post. stage_worker post.hand.stage ≡ Some w)
  pub free : (w : ℕ) → w < length places → is_free hands w ≡ true
  pub number : devices + sum_by one_if (map is_some places) ≡ there
  pub sum : devices + length places ≤ n
  pub room : n + 1 ≤ capacity

pub whole : {S D : Type 0} (places : List (Option (Worker S D))) (hands : List (Option Hand)) (devices : List D)
    (capacity n there : ℕ) → ArePosts places hands devices capacity → n ≡ length places
    → there ≡ sum_by one_if (map is_some places) → IsEmptied n there places hands (length devices) capacity
whole places hands devices capacity n there h same told = record {
  own = h.own;
  free = h.free;
  number = omega (arith, ap length h.none, told);
  sum = omega (arith, ap length h.none, same);
  room = omega (arith, h.room, same);
}

-- A hand joins, whose place is free, and goes into it.
pub joins : (hands : List (Option Hand)) (w : ℕ) (o : Option ℕ) → o ≡ Some w → is_free hands w ≡ true
    → is_free_for hands o ≡ false → ⊥
joins hands w o of free isnt = let is : is_free_for hands o ≡ true = ap (is_free_for hands) of ∙ free in cc

-- The last place is taken away: its hand can join, if it has one.
module _ {S D : Type 0} (n there : ℕ) (places : List (Option (Worker S D))) (hands : List (Option Hand))
    (devices capacity : ℕ) (rest : List (Option (Worker S D))) (place : Option (Worker S D))
    (h : IsEmptied n there places hands devices capacity) (popped : places ≡ rest ++ place ∷ []) where
  abbrev Own : ℕ → Worker S D → Type 0
  Own w p = stage_worker p.hand.stage ≡ Some w

  own_all : (w : ℕ) → IfSome (placed (rest ++ place ∷ []) w) (Own w)
  own_all = subst (λ (xs : List (Option (Worker S D))). (w : ℕ) → IfSome (placed xs w) (Own w)) popped h.own

  longer : length places ≡ length rest + 1
  longer = ap length popped ∙ omega (arith, length-append rest (place ∷ []))

  told : sum_by one_if (map is_some places) ≡ sum_by one_if (map is_some rest) + one_if (is_some place)
  told = ap (λ (xs : List (Option (Worker S D))). sum_by one_if (map is_some xs)) popped ∙ there_push rest place

  pub last_own : IfSome place (Own (length rest))
  last_own = if_last Own rest place own_all

  pub last_free : is_free hands (length rest) ≡ true
  last_free = h.free (length rest) (omega (arith, longer))

  pub emptied_none : is_some place ≡ false → IsEmptied n there rest hands devices capacity
  emptied_none none = record {
    own = if_pop Own rest place own_all;
    free = λ w less. h.free w (omega (arith, longer));
    number = omega (arith, h.number, told, ap one_if none);
    sum = omega (arith, h.sum, longer);
    room = h.room;
  }

  pub emptied_more : is_some place ≡ true → (x : Option Hand) (joined : List (Option Hand)) (more : ℕ)
      → joined ≡ slice_set hands (length rest) x → more ≡ devices + 1 → IsEmptied n there rest joined more capacity
  emptied_more some x joined more put one = record {
    own = if_pop Own rest place own_all;
    free = λ w less. ap (λ (xs : List (Option Hand)). is_free xs w) put
        ∙ free_other hands (length rest) w x (λ e. absurd (omega (arith, e))) ∙ h.free w (omega (arith, longer));
    number = omega (arith, h.number, told, one, ap one_if some);
    sum = omega (arith, h.sum, longer);
    room = h.room;
  }

-- ---- nothing is left

pub nil : {A : Type 0} (xs ys : List A) (x : A) → ys ≡ xs ++ x ∷ [] → length ys ≤ 1 → xs ≡ []
nil [] ys x e few = refl
nil (z ∷ zs) ys x e few = absurd (omega (arith, ap length e, length-append (z ∷ zs) (x ∷ [])))
