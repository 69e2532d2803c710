-- A walk over all names that takes their keys from those that stand nowhere.
use Rattle.std.proofs.Common.{◌≡◌, ◌≢◌, ℕ, ◌+◌, ◌<◌, ◌≤◌, Bool, true, false, cond, List, length, set, refl, ap, sym}
use Rattle.std.proofs.Common.{◌∙◌, arith, inl, inr}
use Rattle.std.specs.Prelude.{Option, None, Some}
use Rattle.std.proofs.lemmas.Bool.{cases_lt, cases_eq}
use Rattle.std.proofs.lemmas.List.{get_or_past}
use Rattle.pp_cache.specs.Cache.{PageCache}
use Rattle.pp_names.specs.Names.{key_of}
use Rattle.pp_keyed.specs.Keyed.{stands, unused_taken, IsSwept}
use Rattle.pp_keyed.proofs.TakenLemmas.{taken-unused, key-set, key-taken}

-- How far the walk has come.
pub record IsSweeping (old names : List (Option ℕ)) (c : PageCache) (i : ℕ) : Type 0 where
  pub size : length names ≡ length old
  pub passed : (x : ℕ) → x < i → key_of names x ≡ cond (stands c x) (key_of old x) None
  pub rest : (x : ℕ) → i ≤ x → key_of names x ≡ key_of old x

pub sweeping-start : (old : List (Option ℕ)) (c : PageCache) → IsSweeping old old c 0
sweeping-start old c = record { size = refl; passed = λ x lt. absurd (omega arith); rest = λ x le. refl }

other-taken : (names : List (Option ℕ)) (c : PageCache) (i x : ℕ) → x ≢ i
    → key_of (unused_taken names c (Some i)) x ≡ key_of names x
other-taken names c i x ne = go (stands c i)
  where
    go : (b : Bool) → key_of (cond b names (set names i None)) x ≡ key_of names x
    go true = refl
    go false = key-set names i x None ne

here-taken : (names : List (Option ℕ)) (c : PageCache) (i : ℕ)
    → key_of (unused_taken names c (Some i)) i ≡ cond (stands c i) (key_of names i) None
here-taken names c i = go (stands c i)
  where
    go : (b : Bool) → key_of (cond b names (set names i None)) i ≡ cond b (key_of names i) None
    go true = refl
    go false = key-taken names i

pub sweeping-next : (old names : List (Option ℕ)) (c : PageCache) (i : ℕ) → IsSweeping old names c i
    → IsSweeping old (unused_taken names c (Some i)) c (i + 1)
sweeping-next old names c i h = record {
  size = (taken-unused names c (Some i)).size ∙ h.size;
  passed = λ x lt. elim (cases_eq x i) [
    | inl e ↦ rw e (here-taken names c i ∙ ap (λ (o : Option ℕ). cond (stands c i) o None) (h.rest i (omega arith)))
    | inr ne ↦ other-taken names c i x ne ∙ h.passed x (omega (arith, lt, ne))
  ];
  rest = λ x le. other-taken names c i x (λ e. omega (arith, le, e)) ∙ h.rest x (omega (arith, le));
}

pub sweeping-end : (old names : List (Option ℕ)) (c : PageCache) (i : ℕ) → IsSweeping old names c i → length old ≤ i
    → IsSwept old names c
sweeping-end old names c i h all = record {
  size = h.size;
  each = λ x. elim (cases_lt x i) [
    | inl lt ↦ h.passed x lt
    | inr le ↦ get_or_past names x None (omega (arith, h.size, all, le))
        ∙ nothing (stands c x) (key_of old x) (get_or_past old x None (omega (arith, all, le)))
  ];
}
  where
    nothing : (b : Bool) (o : Option ℕ) → o ≡ None → None ≡ cond b o None
    nothing true o e = sym e
    nothing false o e = refl
