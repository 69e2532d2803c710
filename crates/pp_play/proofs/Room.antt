-- Slots that are bundles, and slots that have room for a page.
use Rattle.std.proofs.Common.{◌≡◌, ◌∙◌, ℕ, ◌<◌, ◌≤◌, Bool, true, false, Option, Some, None, List, length, nat_lt}
use Rattle.std.proofs.Common.{refl, sym, ap, arith}
use Rattle.std.specs.Prelude.{◌&&◌, ◌||◌}
use Rattle.std.proofs.lemmas.Bool.{false≢true}
use Rattle.std.proofs.lemmas.Bool.Decides.{nat_tests}
use Rattle.pp_model.specs.Pool.{State}
use Rattle.pp_core.specs.Queries.{held_of, bundle_of}
use Rattle.pp_vault.specs.declared.guards.Guard.{Guard}
use Rattle.pp_vault.specs.declared.guards.Guard.TheVariants.{Pin, Read, Write, Bundle}
use Rattle.pp_vault.specs.Fits.{is_gathered}
use Rattle.pp_vault.specs.Hands.{PlaceFits}
use Rattle.pp_vault.specs.Holding.{has_bundle, placed, is_free}
use Rattle.pp_vault.proofs.FitTests.{none_some}
use Rattle.pp_play.specs.Doing.{has_room}
use Rattle.pp_play.proofs.Places.{free_here}

-- ---- bundles

-- A slot is a bundle in t where it is one in s, if its bundle's pages are the same.
pub gathered_same : (s t : State) (w slot : ℕ) → bundle_of t w slot ≡ bundle_of s w slot
    → is_gathered t w slot ≡ is_gathered s w slot
gathered_same s t w slot e = ap (λ (ps : List ℕ). nat_lt 0 (length ps)) e

-- Some pages are not none.
pub some_gathered : (n : ℕ) → 0 < n → nat_lt 0 n ≡ false → ⊥
some_gathered n lt e =
    let none : n ≤ 0 = grind (arith, nat_tests) in
    omega (arith, lt, none)

-- ---- tests

second_holds : (a b : Bool) → b ≡ true → (a || b) ≡ true
second_holds true b e = refl
second_holds false b e = e

both_hold : (b c : Bool) → b ≡ true → c ≡ true → (b && c) ≡ true
both_hold true c e f = f
both_hold false c e f = absurd (false≢true e)

first_holds : (a b c : Bool) → c ≡ false → (a || (b && c)) ≡ true → a ≡ true
first_holds true b c none e = refl
first_holds false true c none e = absurd (false≢true (sym none ∙ e))
first_holds false false c none e = absurd (false≢true e)

-- ---- room

-- A slot that has room and is no bundle has a free place.
pub room_free : (s : State) (w : ℕ) (places : List (Option Guard)) (slot : ℕ) → is_gathered s w slot ≡ false
    → has_room s w places slot ≡ true → is_free places slot ≡ true
room_free s w places slot none room =
    first_holds (is_free places slot) (has_bundle (placed places slot)) (is_gathered s w slot) none room

-- A slot that holds no page of its own has room, where its place fits.
module _ (n : ℕ) (s : State) (w : ℕ) (places : List (Option Guard)) (slot : ℕ) (long : length places ≡ 32)
    (low : slot < 32) (none : held_of s w slot ≡ None) where
  free_room : placed places slot ≡ None → has_room s w places slot ≡ true
  free_room at =
      ap (λ b. b || (has_bundle (placed places slot) && is_gathered s w slot)) (free_here places slot at long low)

  bundle_room : has_bundle (placed places slot) ≡ true → is_gathered s w slot ≡ true → has_room s w places slot ≡ true
  bundle_room there is =
      second_holds (is_free places slot) (has_bundle (placed places slot) && is_gathered s w slot)
      (both_hold (has_bundle (placed places slot)) (is_gathered s w slot) there is)

  room_by : (o : Option Guard) → placed places slot ≡ o → PlaceFits n s w slot o → has_room s w places slot ≡ true
  room_by None at fits = free_room at
  room_by (Some (Pin g)) at fits = absurd (none_some (sym none ∙ fits.held))
  room_by (Some (Read g)) at fits = absurd (none_some (sym none ∙ fits.held))
  room_by (Some (Write g)) at fits = absurd (none_some (sym none ∙ fits.held))
  room_by (Some (Bundle g)) at fits = bundle_room (ap has_bundle at) fits.gathered

  pub room_fits : PlaceFits n s w slot (placed places slot) → has_room s w places slot ≡ true
  room_fits fits = room_by (placed places slot) refl fits
