-- What a crash may leave.
use Rattle.std.specs.Prelude.{◌≡◌, ◌≢◌, ℕ, Bool, true, Ok, List, ◌⊎◌, take, slice_get}
use Rattle.pp_device.specs.Answers.{Answer}
use Rattle.pp_durable.specs.Syncing.{SyncAnswer}
use Rattle.pp_durable.specs.Ahead.{Ahead, AheadReads, AheadWrites, AheadSyncs}
use Rattle.pp_durable.specs.Checked.{Checked, LeavesFront, CheckedReads, CheckedWrites, CheckedSyncs}

-- The image is torn between two: each byte is that of the one or of the other.
pub record IsTorn (old new image : List ℕ) : Type 0 where
  pub each : (k : ℕ) → (slice_get image k ≡ slice_get old k) ⊎ (slice_get image k ≡ slice_get new k)

-- Devices of a type, those that `are` names, keep of each page the image that `kept` tells, and a crash leaves of it one of
-- those that `may_leave` tells. After a sync that was done a crash leaves what was kept, and nothing else. A writing, also one
-- that failed, may leave its page torn between what a crash might have left before and the image; of another page it leaves
-- no more than before, and so do a reading, and a sync that failed. Each call leaves one of these devices.
pub record IsDurable {D : Type 0} (are : D → Bool) (reads : D → ℕ → List ℕ → Answer → List ℕ → D → Type 0)
    (writes : D → ℕ → List ℕ → Answer → D → Type 0) (syncs : D → SyncAnswer → D → Type 0) (kept : D → ℕ → List ℕ)
    (may_leave : D → ℕ → List ℕ → Type 0) : Type 0 where
  pub synced : (d e : D) (page : ℕ) (image : List ℕ) → are d ≡ true → syncs d (Ok tt) e → may_leave e page image
      → image ≡ kept d page
  pub sync_keeps : (d e : D) (page : ℕ) (answer : SyncAnswer) → are d ≡ true → syncs d answer e → kept e page ≡ kept d page
  pub sync_adds : (d e : D) (page : ℕ) (image : List ℕ) (answer : SyncAnswer) → are d ≡ true → syncs d answer e
      → may_leave e page image → may_leave d page image
  pub read_adds : (d e : D) (page other : ℕ) (slice given image : List ℕ) (answer : Answer) → are d ≡ true
      → reads d page slice answer given e → may_leave e other image → may_leave d other image
  pub others : (d e : D) (page other : ℕ) (slice image : List ℕ) (answer : Answer) → are d ≡ true
      → writes d page slice answer e → other ≢ page → may_leave e other image → may_leave d other image
  pub torn : (d e : D) (page : ℕ) (slice image : List ℕ) (answer : Answer) → are d ≡ true → writes d page slice answer e
      → may_leave e page image → (old : List ℕ) × may_leave d page old × IsTorn old slice image
  pub after_sync : (d e : D) (answer : SyncAnswer) → are d ≡ true → syncs d answer e → are e ≡ true
  pub after_read : (d e : D) (page : ℕ) (slice given : List ℕ) (answer : Answer) → are d ≡ true
      → reads d page slice answer given e → are e ≡ true
  pub after_write : (d e : D) (page : ℕ) (image : List ℕ) (answer : Answer) → are d ≡ true
      → writes d page image answer e → are e ≡ true

-- Where a device is durable, it is so behind a log.
abbrev pub AheadIsDurable : {D L : Type 0} → (List ℕ → ℕ) → (L → ℕ) → (L → ℕ → SyncAnswer → L → Type 0)
    → (D → ℕ → List ℕ → Answer → List ℕ → D → Type 0) → (D → ℕ → List ℕ → Answer → D → Type 0)
    → (D → SyncAnswer → D → Type 0) → (D → ℕ → List ℕ → Type 0) → Type 0
AheadIsDurable {D = D} {L = L} number_in durable forces reads writes syncs may_leave =
    (are : D → Bool) (kept : D → ℕ → List ℕ) → IsDurable are reads writes syncs kept may_leave
    → IsDurable {D = Ahead D L} (λ w. are w.device) (AheadReads reads) (AheadWrites number_in durable forces writes)
    (AheadSyncs syncs) (λ w page. kept w.device page) (λ w page image. may_leave w.device page image)

-- Where a device is durable, it is so with check sums.
abbrev pub CheckedIsDurable : {D : Type 0} → (D → ℕ → List ℕ → Answer → List ℕ → D → Type 0)
    → (D → ℕ → List ℕ → Answer → D → Type 0) → (D → SyncAnswer → D → Type 0) → (D → ℕ → List ℕ → Type 0) → Type 0
CheckedIsDurable {D = D} reads writes syncs may_leave =
    (are : D → Bool) (kept : D → ℕ → List ℕ) → IsDurable are reads writes syncs kept may_leave
    → IsDurable {D = Checked D} (λ c. are c.device) (CheckedReads reads) (CheckedWrites writes) (CheckedSyncs syncs)
    (λ c page. take c.page_bytes (kept c.device page)) (LeavesFront may_leave)
