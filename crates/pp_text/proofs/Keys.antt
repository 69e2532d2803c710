-- The tests of keys say the facts, and the facts pass the tests.
use Rattle.std.proofs.Common.{◌≡◌, ◌⊎◌, inl, inr, ℕ, suc, Bool, true, false, ◌||◌, List, [], ◌∷◌, map, get_or, Contains}
use Rattle.std.proofs.Common.{Option, Some, None, refl, sym, ap, ◌∙◌, arith}
use Rattle.std.specs.List.{list_any}
use Rattle.std.specs.Str.{bytes_eq}
use Rattle.std.proofs.lemmas.Bool.{and_parts}
use Rattle.std.proofs.lemmas.List.Folds.{list_any_at}
use Rattle.std.proofs.lemmas.Slice.Eq.{bytes_eq-Decides}
use Rattle.serde_json.specs.Data.{Data, null, boolean, number, string, array, object, Members, no_members, member}
use Rattle.pp_text.specs.Objects.{is_one_of, keys_are, has_only_keys, AreAmong, HasOnly}

or_cases : (x y : Bool) → (x || y) ≡ true → (x ≡ true) ⊎ (y ≡ true)
or_cases true y e = inl refl
or_cases false y e = inr e

-- A key that is equal to one of the list stands in it.
pub among : (k : List ℕ) (known : List (List ℕ)) → is_one_of known k ≡ true → Contains known k
among k [] e = absurd cc
among k (l ∷ ls) e =
    elim (or_cases (bytes_eq k l) (list_any (bytes_eq k) ls) e) [
      | inl is ↦ (0, omega arith, sym ((bytes_eq-Decides k l).0 is))
      | inr more ↦ let (i, within, is) = among k ls more in (suc i, omega (arith, within), is)
    ]

pub among_again : (k : List ℕ) (known : List (List ℕ)) → Contains known k → is_one_of known k ≡ true
among_again k known (i, within, is) =
    list_any_at (bytes_eq k) known i k within ((bytes_eq-Decides k (get_or known i k)).1 (sym is))

pub keys_found : (known : List (List ℕ)) (ms : Members) → keys_are (is_one_of known) ms ≡ true → AreAmong known ms
keys_found known no_members e = tt
keys_found known (member k d ms) e =
    let (here, more) = and_parts (is_one_of known k) (keys_are (is_one_of known) ms) e in
    (among k known here, keys_found known ms more)

pub keys_again : (known : List (List ℕ)) (ms : Members) → AreAmong known ms → keys_are (is_one_of known) ms ≡ true
keys_again known no_members h = refl
keys_again known (member k d ms) h = rw (among_again k known h.0) (keys_again known ms h.1)

pub only_found : (known : List (List ℕ)) (d : Data) → has_only_keys known d ≡ true → HasOnly known d
only_found known (object ms) e = (ms, refl, keys_found known ms e)
only_found known null e = absurd cc
only_found known (boolean b) e = absurd cc
only_found known (number n) e = absurd cc
only_found known (string s) e = absurd cc
only_found known (array ds) e = absurd cc

pub only_again : (known : List (List ℕ)) (d : Data) → HasOnly known d → has_only_keys known d ≡ true
only_again known d (ms, is, among) = rw is (keys_again known ms among)

-- A test of each element, through a map.
pub list_any_map : {A B : Type 0} (f : B → Bool) (g : A → B) (xs : List A)
    → list_any f (map g xs) ≡ list_any (λ x. f (g x)) xs
list_any_map f g [] = refl
list_any_map f g (x ∷ xs) = ap (λ b. f (g x) || b) (list_any_map f g xs)
