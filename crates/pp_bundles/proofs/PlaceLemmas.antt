-- Lemmas on the places, whose stacks stand behind that of the free records.
use Rattle.std.proofs.Common.{◌≡◌, ◌≢◌, ◌<◌, ◌≤◌, ◌+◌, ◌-◌, ℕ, List, [], ◌∷◌, length, set, get_or}
use Rattle.std.proofs.Common.{refl, sym, ap, ◌∙◌, arith, inl, inr, get_or-set_same, get_or-set_other, length-set}
use Rattle.std.proofs.Common.{length-drop}
use Rattle.std.specs.Prelude.{◌⊎◌, drop, sum_by, slice_get, Option, Some, None}
use Rattle.std.proofs.lemmas.List.{drop-set-lt, drop-set-add, get_or-drop, set-get_or, get_or_past}
use Rattle.std.proofs.lemmas.List.Sums.{sum_by-set, sum_by-cons}
use Rattle.std.proofs.lemmas.Bool.{cases_lt}
use Rattle.pp_bundles.specs.Bundles.{PageStacks, pages_at, free_records, pushed, popped, place_count}
use Rattle.pp_bundles.specs.Stacks.{stack_at, moved}
use Rattle.pp_bundles.specs.BundlesInside.{stacks_behind}

-- no page is made or lost
same_room : (all : List (List ℕ)) (from to page : ℕ) → from ≢ to → from < length all → to < length all
    → 0 < length (stack_at all from) → sum_by length (moved all from to page) ≡ sum_by length all
same_room all from to page d lf lt some =
    let left : List ℕ = drop 1 (stack_at all from) in
    let a = sum_by-set length all from left [] lf in
    let b = sum_by-set length (set all from left) to (page ∷ stack_at all to) []
    (omega (arith, length-set all from left, lt)) in
    let c : length (get_or (set all from left) to []) ≡ length (stack_at all to) =
    ap length (get_or-set_other all from to left [] (λ e. d (sym e))) in
    omega (arith, a, b, c, length-drop 1 (stack_at all from), some)

-- ---- what is read of the places

-- the free records are those of the first stack
pub free_is : (all : List (List ℕ)) → 0 < length all → free_records (stacks_behind all) ≡ length (stack_at all 0)
free_is [] l = absurd (omega (arith, l))
free_is (free ∷ others) l =
    let e = sum_by-cons length free others in
    let d : length free + sum_by length others - sum_by length others ≡ length free = omega arith in
    ap (λ n. n - sum_by length others) e ∙ d

pub pages_are : (all : List (List ℕ)) (place : ℕ) → pages_at (stacks_behind all) place ≡ stack_at all (place + 1)
pages_are all place =
    get_or-drop 1 all place [] ∙ ap (stack_at all) (let e : 1 + place ≡ place + 1 = omega arith in e)

pub places_are : (all : List (List ℕ)) → place_count (stacks_behind all) ≡ length all - 1
places_are all = length-drop 1 all

-- ---- push and pop

stacks_after : (all : List (List ℕ)) (place : ℕ) (free pages : List ℕ)
    → drop 1 (set (set all 0 free) (place + 1) pages) ≡ set (drop 1 all) place pages
stacks_after all place free pages =
    let e : place + 1 ≡ 1 + place = omega arith in
    ap (λ n. drop 1 (set (set all 0 free) n pages)) e ∙ drop-set-add 1 (set all 0 free) place pages
    ∙ ap (λ l. set l place pages) (drop-set-lt 1 all 0 free (omega arith))

pub pushed_is : (all : List (List ℕ)) (place page : ℕ) → place + 1 < length all → 0 < length (stack_at all 0)
    → stacks_behind (moved all 0 (place + 1) page) ≡ pushed (stacks_behind all) place page
pushed_is all place page l some =
    let room = same_room all 0 (place + 1) page (λ e. absurd (omega (arith, e))) (omega (arith, l)) l some in
    let stacks : drop 1 (moved all 0 (place + 1) page) ≡ set (drop 1 all) place (page ∷ pages_at (stacks_behind all) place) =
    stacks_after all place (drop 1 (stack_at all 0)) (page ∷ stack_at all (place + 1))
    ∙ ap (λ l. set (drop 1 all) place (page ∷ l)) (sym (pages_are all place)) in
    (λ j. record { room = room j; stacks = stacks j })

pub popped_is : (all : List (List ℕ)) (place page : ℕ) → place + 1 < length all
    → 0 < length (stack_at all (place + 1))
    → stacks_behind (moved all (place + 1) 0 page) ≡ popped (stacks_behind all) place
popped_is all place page l some =
    let rest : List ℕ = drop 1 (stack_at all (place + 1)) in
    let room = same_room all (place + 1) 0 page (λ e. absurd (omega (arith, e))) l (omega (arith, l)) some in
    let e : place + 1 ≡ 1 + place = omega arith in
    let stacks : drop 1 (moved all (place + 1) 0 page) ≡ set (drop 1 all) place (drop 1 (pages_at (stacks_behind all) place)) =
    drop-set-lt 1 (set all (place + 1) rest) 0 (page ∷ stack_at all 0) (omega arith)
    ∙ ap (λ n. drop 1 (set all n rest)) e ∙ drop-set-add 1 all place rest
    ∙ ap (λ l. set (drop 1 all) place (drop 1 l)) (sym (pages_are all place)) in
    (λ j. record { room = room j; stacks = stacks j })

-- ---- what push and pop mean at each place

none_first : (xs : List ℕ) → slice_get xs 0 ≡ None → xs ≡ []
none_first [] e = refl
none_first (x ∷ xs) e = absurd cc

pub popped_none : (s : PageStacks) (place : ℕ) → slice_get (pages_at s place) 0 ≡ None → popped s place ≡ s
popped_none s place e =
    let none : pages_at s place ≡ [] = none_first (pages_at s place) e in
    let same : set s.stacks place (drop 1 (pages_at s place)) ≡ s.stacks =
    ap (set s.stacks place) (ap (drop 1) none ∙ sym none) ∙ set-get_or s.stacks place [] in
    (λ j. record { room = s.room; stacks = same j })

some_first : (xs : List ℕ) (x : ℕ) → slice_get xs 0 ≡ Some x → xs ≡ x ∷ drop 1 xs
some_first [] x e = absurd cc
some_first (y ∷ xs) x e = let f : y ≡ x = cc in ap (λ z. z ∷ xs) f

pub stands_at : (s : PageStacks) (place x : ℕ) → slice_get (pages_at s place) 0 ≡ Some x → place < length s.stacks
stands_at s place x e = first_of (cases_lt place (length s.stacks))
  where
    first_of : (place < length s.stacks) ⊎ (length s.stacks ≤ place) → place < length s.stacks
    first_of c = elim c [
      | inl l ↦ l
      | inr l ↦ let none : pages_at s place ≡ [] = get_or_past s.stacks place [] l in
          let f : slice_get {X = ℕ} [] 0 ≡ Some x = sym (ap (λ l. slice_get l 0) none) ∙ e in absurd cc
    ]

pub pages_before : (s : PageStacks) (place page : ℕ) → slice_get (pages_at s place) 0 ≡ Some page
    → pages_at s place ≡ page ∷ pages_at (popped s place) place
pages_before s place page e =
    some_first (pages_at s place) page e
    ∙ ap (λ l. page ∷ l)
    (sym (get_or-set_same s.stacks place (drop 1 (pages_at s place)) [] (stands_at s place page e)))

-- ---- the same by what the code has called: stack n is that of the place

pub first_at : (all : List (List ℕ)) (s : PageStacks) (place n : ℕ) (r : Option ℕ) → stacks_behind all ≡ s
    → n ≡ place + 1 → r ≡ slice_get (stack_at all n) 0 → slice_get (pages_at s place) 0 ≡ r
first_at all s place n r view e f =
    ap (λ x. slice_get (pages_at x place) 0) (sym view) ∙ ap (λ l. slice_get l 0) (pages_are all place)
    ∙ ap (λ k. slice_get (stack_at all k) 0) (sym e) ∙ sym f

pub pushed_by : (all now : List (List ℕ)) (s : PageStacks) (place n page : ℕ) → stacks_behind all ≡ s → n ≡ place + 1
    → now ≡ moved all 0 n page → place < length s.stacks → 0 < free_records s → 0 < length all
    → stacks_behind now ≡ pushed s place page
pushed_by all now s place n page view e m l some first =
    let a : length s.stacks ≡ length all - 1 = sym (ap place_count view) ∙ places_are all in
    let b : free_records s ≡ length (stack_at all 0) = sym (ap free_records view) ∙ free_is all first in
    ap stacks_behind (m ∙ ap (λ k. moved all 0 k page) e)
    ∙ pushed_is all place page (omega (arith, a, l)) (omega (arith, b, some))
    ∙ ap (λ x. pushed x place page) view

some_stands : (xs : List ℕ) (x : ℕ) → slice_get xs 0 ≡ Some x → 0 < length xs
some_stands [] x e = absurd cc
some_stands (y ∷ xs) x e = omega arith

pub popped_by : (all now : List (List ℕ)) (s : PageStacks) (place n page : ℕ) → stacks_behind all ≡ s → n ≡ place + 1
    → now ≡ moved all n 0 page → slice_get (pages_at s place) 0 ≡ Some page → stacks_behind now ≡ popped s place
popped_by all now s place n page view e m top =
    let l : place < length all - 1 =
    let a : length s.stacks ≡ length all - 1 = sym (ap place_count view) ∙ places_are all in
    omega (arith, a, stands_at s place page top) in
    let some : length (pages_at s place) ≡ length (stack_at all (place + 1)) =
    ap length (ap (λ x. pages_at x place) (sym view) ∙ pages_are all place) in
    ap stacks_behind (m ∙ ap (λ k. moved all k 0 page) e)
    ∙ popped_is all place page (omega (arith, l)) (omega (arith, some, some_stands (pages_at s place) page top))
    ∙ ap (λ x. popped x place) view
