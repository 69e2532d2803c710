-- The two sides of a line's equals sign.
use Rattle.std.proofs.Common.{◌≡◌, ◌≢◌, ℕ, suc, ◌<◌, ◌+◌, Bool, true, false, ◌&&◌, ◌==◌, List, [], ◌∷◌, ◌++◌, length, drop}
use Rattle.std.proofs.Common.{◌≤◌, take, Option, Some, None, codes, if◌then◌else◌, arith, refl, sym, ap, ◌∙◌}
use Rattle.std.specs.Prelude.{option_map}
use Rattle.std.specs.List.{AllByRecursion}
use Rattle.std.specs.Option.{option_or, MatchOption}
use Rattle.std.specs.Borrow.{Bor}
use Rattle.std.specs.Str.Pattern.{FindsText, LacksTextAt}
use Rattle.std.proofs.lemmas.Bool.Decides.{nat_tests}
use Rattle.std.proofs.lemmas.Str.Pattern.{split_text_parts}
use Rattle.pp_report.specs.Reading.{past_equals, sides}

abbrev equals : List ℕ
equals = 32 ∷ 61 ∷ 32 ∷ []

none_from : {A : Type 0} (o : Option A) → ((x : A) → o ≡ Some x → ⊥) → o ≡ None
none_from None h = refl
none_from (Some x) h = absurd (h x refl)

picked : {A : Type 0} (b : Bool) (x y : A) → (if b then Some x else None) ≡ Some y → (b ≡ true) × (x ≡ y)
picked true x y e = (refl, cc)
picked false x y e = absurd cc

three : (a b d : ℕ) → (a == 32 && b == 61 && d == 32) ≡ true → (a ≡ 32) × (b ≡ 61) × (d ≡ 32)
three a b d e = (grind (arith, nat_tests), grind (arith, nat_tests), grind (arith, nat_tests))

some_is : {A : Type 0} (x y : A) → Some x ≡ Some y → x ≡ y
some_is x y e = cc

past_found : (text rest : List ℕ) → past_equals text ≡ Some rest → text ≡ equals ++ rest
past_found [] rest e = absurd cc
past_found (a ∷ []) rest e = absurd cc
past_found (a ∷ b ∷ []) rest e = absurd cc
past_found (a ∷ b ∷ d ∷ more) rest e =
    let (t, is) = picked (a == 32 && b == 61 && d == 32) more rest e in
    let (x, y, z) = three a b d t in cc

-- ---- what is found of a text that has an equals sign

abbrev either : (b : ℕ) → Option (List ℕ) → Option (List ℕ × List ℕ) → Option (List ℕ × List ℕ)
either b here there =
    option_or (option_map (λ rest. ([], rest)) here) (option_map (λ (p : List ℕ × List ℕ). (b ∷ p.0, p.1)) there)

later : (b : ℕ) (bs xs ys : List ℕ) → past_equals (b ∷ bs) ≡ None → sides bs ≡ Some (xs, ys)
    → sides (b ∷ bs) ≡ Some (b ∷ xs, ys)
later b bs xs ys none rest = ap (λ o. either b o (sides bs)) none ∙ ap (λ o. either b None o) rest

sides_at : (xs ys : List ℕ) → ((i : ℕ) → i < length xs → LacksTextAt equals (xs ++ (equals ++ ys)) i)
    → sides (xs ++ (equals ++ ys)) ≡ Some (xs, ys)
sides_at [] ys lacks = refl
sides_at (x ∷ xs) ys lacks =
    later x (xs ++ (equals ++ ys)) xs ys
    (none_from (past_equals (x ∷ (xs ++ (equals ++ ys))))
    (λ rest e. lacks 0 (omega arith) rest (past_found (x ∷ (xs ++ (equals ++ ys))) rest e)))
    (sides_at xs ys (λ i h. lacks (suc i) (omega arith)))

sides_none : (text : List ℕ) → ((xs ys : List ℕ) → text ≢ xs ++ (equals ++ ys)) → sides text ≡ None
sides_none [] h = refl
sides_none (b ∷ bs) h =
    ap (λ o. either b o (sides bs)) (none_from (past_equals (b ∷ bs)) (λ rest e. h [] rest (past_found (b ∷ bs) rest e)))
    ∙ ap (λ o. either b None o) (sides_none bs (λ xs ys e. h (b ∷ xs) ys (ap (λ l. b ∷ l) e)))

-- What `split_once` gives.
pub split_sides : (text : List ℕ) (r : Option (Bor (List ℕ) × Bor (List ℕ)))
    → MatchOption r (FindsText (codes " = ") text None) (λ x. (i : ℕ) × (j : ℕ) × FindsText (codes " = ") text (Some (i, j)) × (x.0.now ≡ take i text) × (x.1.now ≡ drop j text) × (i ≤ j) × (length x.0.now ≡ i) × (length x.1.now + j ≡ length text))
    → option_map (λ p. (p.0.now, p.1.now)) r ≡ sides text
split_sides text None h = sym (sides_none text (split_text_parts equals text None h))
split_sides text (Some x) h =
    let is : text ≡ x.0.now ++ (equals ++ x.1.now) = split_text_parts equals text (Some x) h in
    sym (ap sides is ∙ sides_at x.0.now x.1.now (λ i low rest e. h.2.0 i (omega (arith, h.6)) rest (ap (drop i) is ∙ e)))

-- ---- what is read of two sides

past_not : (a b : ℕ) (more : List ℕ) → b ≢ 61 → past_equals (a ∷ b ∷ more) ≡ None
past_not a b [] h = refl
past_not a b (d ∷ more) h =
    none_from (past_equals (a ∷ b ∷ d ∷ more))
    (λ rest e. h (three a b d (picked (a == 32 && b == 61 && d == 32) more rest e).0).1)

pub sides_again : (xs ys : List ℕ) → AllByRecursion (λ b. b ≢ 61) xs → sides (xs ++ (codes " = " ++ ys)) ≡ Some (xs, ys)
sides_again [] ys h = refl
sides_again (x ∷ []) ys h =
    later x (equals ++ ys) [] ys (past_not x 32 (61 ∷ 32 ∷ ys) (λ e. omega arith)) refl
sides_again (x ∷ y ∷ xs) ys h =
    later x (y ∷ xs ++ (equals ++ ys)) (y ∷ xs) ys (past_not x y (xs ++ (equals ++ ys)) h.1.0)
    (sides_again (y ∷ xs) ys h.1)

-- The sides stand around an equals sign.
pub sides_found : (text xs ys : List ℕ) → sides text ≡ Some (xs, ys) → text ≡ xs ++ (codes " = " ++ ys)
sides_found [] xs ys e = absurd cc
sides_found (b ∷ bs) xs ys e =
    by (sides_found bs) (past_equals (b ∷ bs)) (past_found (b ∷ bs)) (sides bs) refl e
  where
    by : ((xs ys : List ℕ) → sides bs ≡ Some (xs, ys) → bs ≡ xs ++ (codes " = " ++ ys)) → (o : Option (List ℕ))
        → ((rest : List ℕ) → o ≡ Some rest → (b ∷ bs) ≡ equals ++ rest) → (q : Option (List ℕ × List ℕ))
        → sides bs ≡ q → either b o q ≡ Some (xs, ys) → (b ∷ bs) ≡ xs ++ (codes " = " ++ ys)
    by more (Some rest) found q is e =
        let is : ([], rest) ≡ (xs, ys) = some_is ([], rest) (xs, ys) e in
        found rest refl ∙ ap (λ (q : List ℕ × List ℕ). q.0 ++ (equals ++ q.1)) is
    by more None found (Some p) is e =
        let same : (b ∷ p.0, p.1) ≡ (xs, ys) = some_is (b ∷ p.0, p.1) (xs, ys) e in
        ap (λ l. b ∷ l) (more p.0 p.1 is) ∙ ap (λ (q : List ℕ × List ℕ). q.0 ++ (equals ++ q.1)) same
    by more None found None is e = absurd cc
