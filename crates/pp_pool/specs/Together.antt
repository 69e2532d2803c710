-- What comes of it where the bodies of two pages are changed together.
use Rattle.std.specs.Prelude.{◌≡◌, ℕ, List, Some, slice_set}
use Rattle.std.specs.Borrow.{MutBor}
use Rattle.std.specs.Fn.{Once}
use Rattle.pp_device.specs.Image.{body_of}
use Rattle.pp_vault.specs.declared.guards.WriteGuard.{WriteGuard}
use Rattle.pp_pool.specs.Lent.{place_of, guard_at, with_guard_body}

-- The predicates of a function that is handed two bodies, to be changed.
abbrev pub OnBoth : (F R : Type 0) → Type 1
OnBoth F R =
    Once F (MutBor (List ℕ) × (MutBor (List ℕ) × Unit {0})) (R × (MutBor (List ℕ) × (MutBor (List ℕ) × Unit {0})))

-- The function was handed the bodies of these guards, gave this answer, and left what the others have as theirs.
pub record ChangesBoth {F R : Type 0} (f : OnBoth F R) (change : F) (one other : WriteGuard) (answer : R)
    (one' other' : WriteGuard) : Type 0 where
  pub first : MutBor (List ℕ)
  pub second : MutBor (List ℕ)
  pub shows : (first.now ≡ body_of one.image) × (second.now ≡ body_of other.image)
  pub left : MutBor (List ℕ) × (MutBor (List ℕ) × Unit {0})
  pub met : f.post change (first, (second, tt)) (answer, left)
  pub leaves : (one' ≡ with_guard_body one left.0.now) × (other' ≡ with_guard_body other left.1.0.now)

-- The same of the guards at two places. The others are as they were.
pub record ChangesAt {F R : Type 0} (f : OnBoth F R) (change : F) (first second : ℕ) (old : List WriteGuard) (answer : R)
    (new : List WriteGuard) : Type 0 where
  pub one : WriteGuard
  pub other : WriteGuard
  pub changes : ChangesBoth f change (guard_at old first) (guard_at old second) answer one other
  pub are : new ≡ slice_set (slice_set old first one) second other

-- The same of the pages of two slots.
pub record ChangesSlots {F R : Type 0} (f : OnBoth F R) (change : F) (first second : ℕ) (old : List WriteGuard) (answer : R)
    (new : List WriteGuard) : Type 0 where
  pub one : ℕ
  pub other : ℕ
  pub finds : (place_of old first ≡ Some one) × (place_of old second ≡ Some other)
  pub changes : ChangesAt f change one other old answer new
