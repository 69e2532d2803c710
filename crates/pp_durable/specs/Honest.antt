-- Devices that keep every byte, behind a log or with check sums.
use Rattle.std.specs.Prelude.{ℕ, Bool, List, take}
use Rattle.pp_device.specs.Answers.{Answer}
use Rattle.pp_device.specs.Honest.{IsHonest}
use Rattle.pp_durable.specs.Syncing.{SyncAnswer}
use Rattle.pp_durable.specs.Ahead.{Ahead, AheadReads, AheadWrites}
use Rattle.pp_durable.specs.Checked.{Checked, CheckedReads, CheckedWrites}

-- Where a device keeps every byte, it does so behind a log.
abbrev pub AheadIsHonest : {D L : Type 0} → (List ℕ → ℕ) → (L → ℕ) → (L → ℕ → SyncAnswer → L → Type 0)
    → (D → ℕ → List ℕ → Answer → List ℕ → D → Type 0) → (D → ℕ → List ℕ → Answer → D → Type 0) → Type 0
AheadIsHonest {D = D} {L = L} number_in durable forces reads writes =
    (are : D → Bool) (kept : D → ℕ → List ℕ) → IsHonest are reads writes kept
    → IsHonest {D = Ahead D L} (λ w. are w.device) (AheadReads reads) (AheadWrites number_in durable forces writes)
    (λ w page. kept w.device page)

-- Where a device keeps every byte, it does so with check sums: its caller's page is what it keeps, but for the sum.
abbrev pub CheckedIsHonest : {D : Type 0} → (D → ℕ → List ℕ → Answer → List ℕ → D → Type 0)
    → (D → ℕ → List ℕ → Answer → D → Type 0) → Type 0
CheckedIsHonest {D = D} reads writes =
    (are : D → Bool) (kept : D → ℕ → List ℕ) → IsHonest are reads writes kept
    → IsHonest {D = Checked D} (λ c. are c.device) (CheckedReads reads) (CheckedWrites writes)
    (λ c page. take c.page_bytes (kept c.device page))
