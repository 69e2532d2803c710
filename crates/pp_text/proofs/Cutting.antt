-- Cutting a text into parts.
use Rattle.std.proofs.Common.{◌≡◌, ◌≢◌, ℕ, suc, ◌<◌, Bool, true, false, ◌==◌, List, [], ◌∷◌, ◌++◌, length, get_or, All}
use Rattle.std.proofs.Common.{Some, None, if◌then◌else◌, arith, refl, ap, ◌∙◌}
use Rattle.std.proofs.lemmas.Bool.Decides.{nat_tests}
use Rattle.std.proofs.lemmas.List.Elements.{All-from_get_or}
use Rattle.std.proofs.lemmas.List.Splits.{slice_split_at, slice_split_none}
use Rattle.pp_text.specs.Parts.{parts, ahead, behind}

other : (a b : ℕ) → a ≢ b → (a == b) ≡ false
other a b h = grind (arith, nat_tests)

same : (a : ℕ) → (a == a) ≡ true
same a = grind (arith, nat_tests)

others : (separator : ℕ) (bs : List ℕ) → ((i : ℕ) → i < length bs → get_or bs i 0 ≢ separator)
    → All (λ b. (b == separator) ≡ false) bs
others separator bs lacks =
    All-from_get_or (λ b. (b == separator) ≡ false) bs 0 (λ i h. other (get_or bs i 0) separator (lacks i h))

pub parts_one : (separator : ℕ) (bs : List ℕ) → ((i : ℕ) → i < length bs → get_or bs i 0 ≢ separator)
    → parts separator bs ≡ bs ∷ []
parts_one separator bs lacks = slice_split_none (λ b. b == separator) bs (others separator bs lacks)

pub parts_more : (separator : ℕ) (bs xs ys : List ℕ) → bs ≡ xs ++ (separator ∷ ys)
    → ((i : ℕ) → i < length xs → get_or xs i 0 ≢ separator) → parts separator bs ≡ xs ∷ parts separator ys
parts_more separator bs xs ys e lacks =
    ap (parts separator) e
    ∙ slice_split_at (λ b. b == separator) xs separator ys (others separator xs lacks) (same separator)

-- ---- what stands ahead of the first such byte, and behind it

abbrev Lacks : ℕ → List ℕ → Type 0
Lacks separator xs = (i : ℕ) → i < length xs → get_or xs i 0 ≢ separator

later : (separator x : ℕ) (xs : List ℕ) → Lacks separator (x ∷ xs) → Lacks separator xs
later separator x xs lacks i h = lacks (suc i) (omega arith)

head : (separator x : ℕ) (xs : List ℕ) → Lacks separator (x ∷ xs) → (x == separator) ≡ false
head separator x xs lacks = other x separator (lacks 0 (omega arith))

pub ahead_at : (separator : ℕ) (xs ys : List ℕ) → ((i : ℕ) → i < length xs → get_or xs i 0 ≢ separator)
    → ahead separator (xs ++ (separator ∷ ys)) ≡ xs
ahead_at separator [] ys lacks = rw (same separator) refl
ahead_at separator (x ∷ xs) ys lacks =
    rw (head separator x xs lacks) (ap (λ l. x ∷ l) (ahead_at separator xs ys (later separator x xs lacks)))

pub behind_at : (separator : ℕ) (xs ys : List ℕ) → ((i : ℕ) → i < length xs → get_or xs i 0 ≢ separator)
    → behind separator (xs ++ (separator ∷ ys)) ≡ Some ys
behind_at separator [] ys lacks = rw (same separator) refl
behind_at separator (x ∷ xs) ys lacks =
    rw (head separator x xs lacks) (behind_at separator xs ys (later separator x xs lacks))

pub ahead_none : (separator : ℕ) (xs : List ℕ) → ((i : ℕ) → i < length xs → get_or xs i 0 ≢ separator)
    → ahead separator xs ≡ xs
ahead_none separator [] lacks = refl
ahead_none separator (x ∷ xs) lacks =
    rw (head separator x xs lacks) (ap (λ l. x ∷ l) (ahead_none separator xs (later separator x xs lacks)))

pub behind_none : (separator : ℕ) (xs : List ℕ) → ((i : ℕ) → i < length xs → get_or xs i 0 ≢ separator)
    → behind separator xs ≡ None
behind_none separator [] lacks = refl
behind_none separator (x ∷ xs) lacks =
    rw (head separator x xs lacks) (behind_none separator xs (later separator x xs lacks))

-- A text is what stands ahead, the separator, and what stands behind.
pub cut_found : (separator : ℕ) (text rest : List ℕ) → behind separator text ≡ Some rest
    → text ≡ ahead separator text ++ (separator ∷ rest)
cut_found separator [] rest e = absurd cc
cut_found separator (b ∷ bs) rest e = by (cut_found separator bs rest) (b == separator) refl e
  where
    by : (behind separator bs ≡ Some rest → bs ≡ ahead separator bs ++ (separator ∷ rest)) → (t : Bool)
        → (b == separator) ≡ t → (if t then Some bs else behind separator bs) ≡ Some rest
        → (b ∷ bs) ≡ (if t then [] else b ∷ ahead separator bs) ++ (separator ∷ rest)
    by more true is e = let n : b ≡ separator = grind (arith, nat_tests) in let s : bs ≡ rest = cc in cc
    by more false is e = ap (λ l. b ∷ l) (more e)

-- A text without the separator is what stands ahead.
pub cut_whole : (separator : ℕ) (text : List ℕ) → behind separator text ≡ None → text ≡ ahead separator text
cut_whole separator [] e = refl
cut_whole separator (b ∷ bs) e = by (cut_whole separator bs) (b == separator) e
  where
    by : (behind separator bs ≡ None → bs ≡ ahead separator bs) → (t : Bool)
        → (if t then Some bs else behind separator bs) ≡ None → (b ∷ bs) ≡ (if t then [] else b ∷ ahead separator bs)
    by more true e = absurd cc
    by more false e = ap (λ l. b ∷ l) (more e)
