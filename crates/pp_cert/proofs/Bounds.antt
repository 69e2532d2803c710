-- What is tested of a bound, where the body scatters the bundle and where it doesn't.
use Rattle.std.proofs.Common.{◌≡◌, ℕ, ◌<◌, Bool, true, false, refl, arith}
use Rattle.std.specs.Prelude.{◌==◌, ◌&&◌, ◌||◌, not, nat_lt, nat_le}
use Rattle.std.proofs.lemmas.Bool.Decides.{nat_tests}
use Rattle.pp_cert.specs.Notes.{is_begun, is_back, has_grown}

pub begun_is : (scattered : Bool) (before first : ℕ)
    → is_begun scattered before first ≡ (first == before || (nat_lt before first && not scattered))
begun_is true before first = grind (arith, nat_tests)
begun_is false before first = grind (arith, nat_tests)

pub back_is : (scattered : Bool) (before last : ℕ) → is_back scattered before last ≡ (last == before || not scattered)
back_is true before last = or_nothing (last == before)
  where
    or_nothing : (b : Bool) → b ≡ (b || false)
    or_nothing true = refl
    or_nothing false = refl
back_is false before last = or_always (last == before)
  where
    or_always : (b : Bool) → true ≡ (b || true)
    or_always true = refl
    or_always false = refl

pub grown_is : (turns : ℕ) (scattered : Bool) (before first last : ℕ)
    → has_grown turns scattered before first last ≡ (has_grown turns false before first last || scattered)
grown_is turns true before first last = or_always (has_grown turns false before first last)
  where
    or_always : (b : Bool) → true ≡ (b || true)
    or_always true = refl
    or_always false = refl
grown_is turns false before first last = or_nothing (has_grown turns false before first last)
  where
    or_nothing : (b : Bool) → b ≡ (b || false)
    or_nothing true = refl
    or_nothing false = refl

pub ruleset turns = (begun_is, back_is, grown_is)
