-- A word that is none of some others, seen one by one.
use Rattle.std.proofs.Common.{◌≡◌, ◌≢◌, ◌<◌, ◌≤◌, ◌+◌, ℕ, Bool, true, false, List, [], ◌∷◌, length, drop, get_or, sym, subst, codes, Option, Some, None}
use Rattle.std.proofs.Common.{add-one, drop-cons}
use Rattle.std.proofs.lemmas.List.{drop_all}
use Rattle.std.specs.Borrow.{Bor}
use Rattle.pp_words.specs.CommandLine.{Text, texts}
use Rattle.pp_cli.specs.Clashes.{IsApart, IsApartAt}

-- At the end none is left.
pub none_left : (word : Text) (others : List (Bor Text)) (place : ℕ) → length others ≤ place
    → IsApart word (texts (drop place others))
none_left word others place all = rw (drop_all place others all) tt

-- One more is none.
pub one_more : (word : Text) (others : List (Bor Text)) (place : ℕ) (other : Bor Text) → place < length others
    → (get_or others place other).now ≢ word → IsApart word (texts (drop (place + 1) others))
    → IsApart word (texts (drop place others))
one_more word others place other low apart rest =
    rw (drop-cons others place other low)
    (apart, subst (λ n. IsApart word (texts (drop n others))) (add-one place) rest)

abbrev IsFalse : Bool → Type 0
IsFalse true = ⊥
IsFalse false = Unit {0}

-- What would make a test true isn't so where it is false.
pub unlike : {A : Type 0} (b : Bool) → (A → b ≡ true) → b ≡ false → A → ⊥
unlike b makes is a = subst IsFalse (makes a) (subst IsFalse (sym is) tt)

-- What is none of `-` and some others is none of these.
pub behind : (word : Option Text) (others : List Text) → IsApartAt word (codes "-" ∷ others) → IsApartAt word others
behind None others apart = tt
behind (Some word) others apart = apart.1
