-- Where the guard of a slot stands among those that are lent.
use Rattle.std.proofs.Common.{◌≡◌, ◌∙◌, ◌+◌, ◌<◌, ℕ, suc, Bool, true, false, cond, Option, Some, None, List, [], ◌∷◌, length, refl, sym, ap, subst, arith}
use Rattle.std.specs.Prelude.{◌==◌}
use Rattle.std.specs.List.{position_from}
use Rattle.std.proofs.lemmas.Bool.Decides.{nat_tests}
use Rattle.std.proofs.lemmas.Iterator.Adapters.{position_from-zero}
use Rattle.pp_device.specs.Image.{body_of}
use Rattle.pp_vault.specs.declared.guards.WriteGuard.{WriteGuard}
use Rattle.pp_pool.specs.Lent.{lent, place_of, guard_at, has_lent, page_lent, body_lent}

-- The guard of a slot stands there: these are what is lent of the slot.
pub record FoundAt (slot : ℕ) (has : Bool) (page : Option ℕ) (body : List ℕ) (guards : List WriteGuard) (n : ℕ) : Type 0 where
  pub within : n < length guards
  pub is_there : has ≡ true
  pub its_page : page ≡ Some (guard_at guards n).page
  pub its_body : body ≡ body_of (guard_at guards n).image
  pub its_slot : (guard_at guards n).slot ≡ slot

abbrev Found : (guards : List WriteGuard) → (slot n : ℕ) → Type 0
Found guards slot n = FoundAt slot (has_lent (lent guards) slot) (page_lent (lent guards) slot) (body_lent (lent guards) slot) guards n

abbrev Missing : (has : Bool) → (page : Option ℕ) → Type 0
Missing has page = (has ≡ false) × (page ≡ None)

abbrev test_of : (slot : ℕ) → WriteGuard → Bool
test_of slot g = g.slot == slot

same_number : (a b : ℕ) → (a == b) ≡ true → a ≡ b
same_number a b is = grind (arith, nat_tests)

some_same : (a b : ℕ) → ◌≡◌ {A = Option ℕ} (Some a) (Some b) → a ≡ b
some_same a b e = cc

none_some : (a : ℕ) → ◌≡◌ {A = Option ℕ} None (Some a) → ⊥
none_some a e = cc

module _ (slot : ℕ) where
  by_first : (b : Bool) (i n : ℕ) (g : WriteGuard) (guards : List WriteGuard) → (b ≡ true → g.slot ≡ slot)
      → (position_from (test_of slot) (i + 1) guards ≡ Some n → (k : ℕ) × (n ≡ (i + 1) + k) × Found guards slot k)
      → cond b (Some i) (position_from (test_of slot) (i + 1) guards) ≡ Some n
      → (k : ℕ) × (n ≡ i + k)
      × FoundAt slot (cond b true (has_lent (lent guards) slot)) (cond b (Some g.page) (page_lent (lent guards) slot))
      (cond b (body_of g.image) (body_lent (lent guards) slot)) (g ∷ guards) k
  by_first true i n g guards first rest is = (
    0,
    (let e = some_same i n is in omega (arith, e)),
    record {
      within = omega arith;
      is_there = refl;
      its_page = refl;
      its_body = refl;
      its_slot = first refl;
    },
  )
  by_first false i n g guards first rest is =
      let r = rest is in (
        suc r.0,
        (let e = r.1 in omega (arith, e)),
        record {
          within = (let lt = r.2.within in omega (arith, lt));
          is_there = r.2.is_there;
          its_page = r.2.its_page;
          its_body = r.2.its_body;
          its_slot = r.2.its_slot;
        },
      )

  found_from : (i n : ℕ) (guards : List WriteGuard) → position_from (test_of slot) i guards ≡ Some n
      → (k : ℕ) × (n ≡ i + k) × Found guards slot k
  found_from i n [] is = absurd (none_some n is)
  found_from i n (g ∷ guards) is =
      by_first (test_of slot g) i n g guards (same_number g.slot slot) (found_from (i + 1) n guards) is

  by_none : (b : Bool) (i : ℕ) (g : WriteGuard) (guards : List WriteGuard)
      → (position_from (test_of slot) (i + 1) guards ≡ None → Missing (has_lent (lent guards) slot) (page_lent (lent guards) slot))
      → cond b (Some i) (position_from (test_of slot) (i + 1) guards) ≡ None
      → Missing (cond b true (has_lent (lent guards) slot)) (cond b (Some g.page) (page_lent (lent guards) slot))
  by_none true i g guards rest is = absurd (none_some i (sym is))
  by_none false i g guards rest is = rest is

  missing_from : (i : ℕ) (guards : List WriteGuard) → position_from (test_of slot) i guards ≡ None
      → Missing (has_lent (lent guards) slot) (page_lent (lent guards) slot)
  missing_from i [] is = (refl, refl)
  missing_from i (g ∷ guards) is = by_none (test_of slot g) i g guards (missing_from (i + 1) guards) is

pub found : (guards : List WriteGuard) (slot n : ℕ) → place_of guards slot ≡ Some n → Found guards slot n
found guards slot n is =
    let f = found_from slot 0 n guards (sym (position_from-zero (test_of slot) guards) ∙ is) in
    let same : f.0 ≡ n = (let e = f.1 in omega (arith, e)) in
    subst (Found guards slot) same f.2

pub missing : (guards : List WriteGuard) (slot : ℕ) → place_of guards slot ≡ None
    → Missing (has_lent (lent guards) slot) (page_lent (lent guards) slot)
missing guards slot is = missing_from slot 0 guards (sym (position_from-zero (test_of slot) guards) ∙ is)

-- ---- two slots

pub place_same : (guards : List WriteGuard) (first second n : ℕ) → place_of guards first ≡ Some n
    → place_of guards second ≡ Some n → first ≡ second
place_same guards first second n one other =
    sym (found guards first n one).its_slot ∙ (found guards second n other).its_slot

pub places_differ : (guards : List WriteGuard) (first second n m : ℕ) → place_of guards first ≡ Some n
    → place_of guards second ≡ Some m → (n ≡ m → ⊥) → first ≡ second → ⊥
places_differ guards first second n m one other differ same =
    differ (some_same n m (sym one ∙ ap (place_of guards) same ∙ other))
