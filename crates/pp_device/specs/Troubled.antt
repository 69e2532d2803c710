-- A device with planted troubles.
use Rattle.std.specs.Prelude.{◌≡◌, ℕ, ◌+◌, ◌^◌, ◌==◌, nat_lt, Option, Some, None, Ok, Err, is_err, List, length}
use Rattle.std.specs.Prelude.{reverse, replicate, if◌then◌else◌}
use Rattle.std.specs.List.{find}
use Rattle.std.specs.Option.{option_map}
use Rattle.pp_device.specs.declared.failing.Trouble.{Trouble}
use Rattle.pp_device.specs.declared.failing.Trouble.TheVariants.{Fail, Lie}
use Rattle.pp_device.specs.declared.fault.Fault.TheVariants.{Read, Write}
use Rattle.pp_device.specs.Answers.{Answer}
use Rattle.pp_device.specs.Image.{with_head}

-- The device inside, the troubles with the numbers of the calls at which they are planted, how many calls were made,
-- and how many of these failed.
pub record Troubled (D : Type 0) : Type 0 where
  pub device : D
  pub troubles : List (ℕ × Trouble)
  pub calls : ℕ
  pub failures : ℕ

-- The trouble of the last entry for number n, if there is one.
abbrev pub last_for : List (ℕ × Trouble) → ℕ → Option Trouble
last_for troubles n = option_map (λ entry. entry.1) (find (λ entry. entry.0 == n) (reverse troubles))

-- The trouble at call n: that of the last entry for n, and past call 2^32 - 1 none.
abbrev pub trouble_at : List (ℕ × Trouble) → ℕ → Option Trouble
trouble_at troubles n = if nat_lt n (2 ^ 32) then last_for troubles n else None

-- What a reading answers, what the slice holds then, and what becomes of the device inside, by the trouble at the call.
-- With none the device inside reads. Else it stays as it is: the call fails and the slice stays, or the slice gets the
-- head of the lie and a body of zeros.
abbrev pub ReadsBy : {D : Type 0} → (D → ℕ → List ℕ → Answer → List ℕ → D → Type 0)
    → Option Trouble → D → ℕ → List ℕ → Answer → List ℕ → D → Type 0
ReadsBy reads None d page slice answer given e = reads d page slice answer given e
ReadsBy reads (Some Fail) d page slice answer given e = (answer ≡ Err Read) × (given ≡ slice) × (e ≡ d)
ReadsBy reads (Some (Lie other stamp)) d page slice answer given e =
    (answer ≡ Ok tt) × (given ≡ with_head (replicate (length slice) 0) other stamp) × (e ≡ d)

-- What a writing answers, and what becomes of the device inside. A lie is none to it.
abbrev pub WritesBy : {D : Type 0} → (D → ℕ → List ℕ → Answer → D → Type 0)
    → Option Trouble → D → ℕ → List ℕ → Answer → D → Type 0
WritesBy writes None d page slice answer e = writes d page slice answer e
WritesBy writes (Some Fail) d page slice answer e = (answer ≡ Err Write) × (e ≡ d)
WritesBy writes (Some (Lie other stamp)) d page slice answer e = writes d page slice answer e

-- One more call was made, and it is a failure where it answered an error. The troubles are the same.
pub record IsCounted {D : Type 0} (f : Troubled D) (answer : Answer) (e : Troubled D) : Type 0 where
  pub calls_are : e.calls ≡ f.calls + 1
  pub failures_are : e.failures ≡ (if is_err answer then f.failures + 1 else f.failures)
  pub troubles_are : e.troubles ≡ f.troubles

-- A reading: what the trouble at its number makes of it, and it is counted.
abbrev pub TroubledReads : {D : Type 0} → (D → ℕ → List ℕ → Answer → List ℕ → D → Type 0)
    → Troubled D → ℕ → List ℕ → Answer → List ℕ → Troubled D → Type 0
TroubledReads reads f page slice answer given e =
    ReadsBy reads (trouble_at f.troubles (f.calls + 1)) f.device page slice answer given e.device × IsCounted f answer e

-- A writing, likewise.
abbrev pub TroubledWrites : {D : Type 0} → (D → ℕ → List ℕ → Answer → D → Type 0)
    → Troubled D → ℕ → List ℕ → Answer → Troubled D → Type 0
TroubledWrites writes f page slice answer e =
    WritesBy writes (trouble_at f.troubles (f.calls + 1)) f.device page slice answer e.device × IsCounted f answer e
