-- The least number that passes a test.
use Rattle.std.specs.Prelude.{ℕ, zero, suc, ◌≡◌, ◌<◌, ◌≤◌, Bool, true, false, if◌then◌else◌, Option, None, Some}

-- The number that was found, or else n where that passes.
abbrev pub or_next : (ℕ → Bool) → ℕ → Option ℕ → Option ℕ
or_next test n (Some k) = Some k
or_next test n None = if test n then Some n else None

-- The least number below n that passes the test: the least below n - 1, if there is one, and else n - 1 where that
-- passes.
abbrev pub least_below : (ℕ → Bool) → ℕ → Option ℕ
least_below test zero = None
least_below test (suc n) = or_next test n (least_below test n)

-- The number has the property, and no smaller one has it.
pub record IsLeast (P : ℕ → Type 0) (n : ℕ) : Type 0 where
  pub passes : P n
  pub least : (k : ℕ) → P k → n ≤ k

-- The answer is the first number below n that passes the test, or there is none.
pub data FirstBelow (test : ℕ → Bool) (n : ℕ) (answer : Option ℕ) : Type 0 where
  first : (i : ℕ) → answer ≡ Some i → i < n → test i ≡ true → ((k : ℕ) → k < i → test k ≡ false)
      → FirstBelow test n answer
  nowhere : answer ≡ None → ((k : ℕ) → k < n → test k ≡ false) → FirstBelow test n answer
