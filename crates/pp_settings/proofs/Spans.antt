-- How long a life may last, beside how many plans may wait; and the version that a document tells.
use Rattle.std.proofs.Common.{◌≡◌, ℕ, ◌≤◌, ◌==◌, pos, negsuc, Bool, true, false, if◌then◌else◌, Option, Some, None}
use Rattle.std.proofs.Common.{refl, arith}
use Rattle.std.proofs.lemmas.Bool.Decides.{nat_tests}
use Rattle.toml.specs.Data.{Data, string, integer, float, boolean, datetime, array, table}
use Rattle.pp_settings.specs.declared.span.Span.{Span}
use Rattle.pp_settings.specs.declared.span.Span.TheVariants.{Bounded, Endless}
use Rattle.pp_settings.specs.Limits.{most_waiting}
use Rattle.pp_settings.specs.Spans.{IsSpan, span_of, waiting_of}
use Rattle.pp_settings.specs.Versions.{is_two}

pub waiting_again : (n : ℕ) → waiting_of (span_of n) ≡ n
waiting_again n = by (n == 0) refl
  where
    by : (b : Bool) → (n == 0) ≡ b → waiting_of (if b then Bounded else Endless n) ≡ n
    by true none = grind (arith, nat_tests)
    by false some = refl

pub span_within : (n : ℕ) → n ≤ most_waiting → IsSpan (span_of n)
span_within n most = by (n == 0) refl
  where
    by : (b : Bool) → (n == 0) ≡ b → IsSpan (if b then Bounded else Endless n)
    by true none = tt
    by false some = (grind (arith, nat_tests), most)

pub span_again : (k : Span) → IsSpan k → span_of (waiting_of k) ≡ k
span_again Bounded h = refl
span_again (Endless n) h = by (n == 0) refl
  where
    by : (b : Bool) → (n == 0) ≡ b → (if b then Bounded else Endless n) ≡ Endless n
    by true none = absurd (grind (arith, nat_tests, h.0))
    by false some = refl

pub waiting_within : (k : Span) → IsSpan k → waiting_of k ≤ most_waiting
waiting_within Bounded h = omega arith
waiting_within (Endless n) h = h.1

-- the value that tells version 2
pub two_is : (o : Option Data) → is_two o ≡ true → o ≡ Some (integer (pos 2))
two_is None e = absurd cc
two_is (Some (integer (pos n))) e =
    let same : n ≡ 2 = grind (arith, nat_tests) in rw same refl
two_is (Some (integer (negsuc n))) e = absurd cc
two_is (Some (string z)) e = absurd cc
two_is (Some (float z)) e = absurd cc
two_is (Some (boolean z)) e = absurd cc
two_is (Some (datetime z)) e = absurd cc
two_is (Some (array z)) e = absurd cc
two_is (Some (table z)) e = absurd cc
