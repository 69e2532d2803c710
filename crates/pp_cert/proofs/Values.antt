-- What the parts of an entry are, where a reading of them found something.
use Rattle.std.proofs.Common.{◌≡◌, ℕ, ◌≤◌, Bool, true, false, nat_le, if◌then◌else◌, List, Option, Some, None}
use Rattle.std.proofs.Common.{option_and_then, codes, refl, sym, ap, ◌∙◌, arith}
use Rattle.std.specs.Prelude.{◌&&◌}
use Rattle.std.specs.Str.{bytes_eq}
use Rattle.std.proofs.lemmas.Bool.{leb-true, le-leb}
use Rattle.std.proofs.lemmas.Slice.Eq.{bytes_eq-Decides}
use Rattle.serde_json.specs.Data.{unsigned, negative, float, Data, null, boolean, number, string, array, object, Items}
use Rattle.serde_json.specs.Data.{no_items, item}
use Rattle.serde_json.specs.Find.{as_str, as_number, as_u64}
use Rattle.pp_cert.specs.declared.note.Held.{Held}
use Rattle.pp_cert.specs.declared.note.Held.TheVariants.{Free, S, X}
use Rattle.pp_cert.specs.Words.{held_text, held_of}
use Rattle.pp_settings.specs.Layout.{Geometry}
use Rattle.pp_cert.specs.Limits.{most_bound}
use Rattle.pp_cert.specs.Claims.{IsBound}
use Rattle.pp_cert.specs.Reading.{as_two, bound_in}

pub two_is : (ds : Items) (two : Data × Data) → as_two ds ≡ Some two → ds ≡ item two.0 (item two.1 no_items)
two_is (item a (item b no_items)) two e = cc
two_is no_items two e = absurd cc
two_is (item a no_items) two e = absurd cc
two_is (item a (item b (item c ds))) two e = absurd cc

-- ---- how a page is held

held_by_tests : (text : List ℕ) (h : Held) (x y z : Bool) → bytes_eq text (codes "-") ≡ x
    → bytes_eq text (codes "S") ≡ y → bytes_eq text (codes "X") ≡ z
    → ◌≡◌ {A = Option Held} (if x then Some Free else (if y then Some S else (if z then Some X else None))) (Some h)
    → text ≡ held_text h
held_by_tests text h true y z a b c e = let is : h ≡ Free = cc in (bytes_eq-Decides text (codes "-")).0 a
    ∙ ap held_text (sym is)
held_by_tests text h false true z a b c e = let is : h ≡ S = cc in (bytes_eq-Decides text (codes "S")).0 b
    ∙ ap held_text (sym is)
held_by_tests text h false false true a b c e = let is : h ≡ X = cc in (bytes_eq-Decides text (codes "X")).0 c
    ∙ ap held_text (sym is)
held_by_tests text h false false false a b c e = absurd cc

pub held_is : (d : Data) (h : Held) → option_and_then held_of (as_str d) ≡ Some h → d ≡ string (held_text h)
held_is (string text) h e = ap (λ (s : List ℕ). string s) (held_by_tests text h _ _ _ refl refl refl e)
held_is null h e = absurd cc
held_is (boolean b) h e = absurd cc
held_is (number n) h e = absurd cc
held_is (array es) h e = absurd cc
held_is (object ns) h e = absurd cc

pub held_again : (h : Held) → held_of (held_text h) ≡ Some h
held_again Free = refl
held_again S = refl
held_again X = refl

-- ---- a bundle's bound

-- The bound that a value spells, if it spells one.
abbrev pub bound_of : Geometry → Data → Option ℕ
bound_of g d = option_and_then (bound_in g) (option_and_then as_u64 (as_number d))

bound_by_tests : (g : Geometry) (n k : ℕ) (x y : Bool) → nat_le 1 n ≡ x → nat_le n (most_bound g) ≡ y
    → ◌≡◌ {A = Option ℕ} (if x && y then Some n else None) (Some k) → (n ≡ k) × IsBound g k
bound_by_tests g n k true true a b e =
    let same : n ≡ k = cc in
    let some : 1 ≤ n = leb-true 1 n a in
    let few : n ≤ most_bound g = leb-true n (most_bound g) b in
    (same, (omega (arith, same, some), omega (arith, same, few)))
bound_by_tests g n k true false a b e = absurd cc
bound_by_tests g n k false y a b e = absurd cc

pub bound_is : (g : Geometry) (d : Data) (k : ℕ) → bound_of g d ≡ Some k → (d ≡ number (unsigned k)) × IsBound g k
bound_is g (number (unsigned n)) k e =
    let (same, is) = bound_by_tests g n k _ _ refl refl e in
    (ap (λ (m : ℕ). number (unsigned m)) same, is)
bound_is g (number (negative z)) k e = absurd cc
bound_is g (number (float x)) k e = absurd cc
bound_is g null k e = absurd cc
bound_is g (boolean b) k e = absurd cc
bound_is g (string text) k e = absurd cc
bound_is g (array es) k e = absurd cc
bound_is g (object ns) k e = absurd cc

pub bound_again : (g : Geometry) (k : ℕ) → IsBound g k → bound_in g k ≡ Some k
bound_again g k is = rw (le-leb 1 k is.0, le-leb k (most_bound g) is.1) refl
