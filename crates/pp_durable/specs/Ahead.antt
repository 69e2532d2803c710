-- A device behind an engine's log.
use Rattle.std.specs.Prelude.{◌≡◌, ℕ, ◌+◌, ◌≤◌, max, Ok, Err, is_err, List, if◌then◌else◌}
use Rattle.std.proofs.Common.{ap}
use Rattle.pp_device.specs.declared.fault.Fault.TheVariants.{Write}
use Rattle.pp_device.specs.Answers.{Answer}
use Rattle.pp_durable.specs.Syncing.{SyncAnswer}

-- The device, the log, the greatest number in an image that was handed to the device, how many calls were made, and how
-- many of these failed.
pub record Ahead (D L : Type 0) : Type 0 where
  pub device : D
  pub log : L
  pub newest : ℕ
  pub calls : ℕ
  pub failures : ℕ

-- Nothing was handed to the device yet.
abbrev pub new_ahead : {D L : Type 0} → D → L → Ahead D L
new_ahead device log = record { device = device; log = log; newest = 0; calls = 0; failures = 0 }

-- One more call was made, and it is a failure where it answered an error.
pub record IsCounted {D L : Type 0} (w : Ahead D L) (answer : Answer) (v : Ahead D L) : Type 0 where
  pub calls_are : v.calls ≡ w.calls + 1
  pub failures_are : v.failures ≡ (if is_err answer then w.failures + 1 else w.failures)

-- A reading is that of the device. The log stays.
pub record AheadReads {D L : Type 0} (reads : D → ℕ → List ℕ → Answer → List ℕ → D → Type 0) (w : Ahead D L) (page : ℕ)
    (slice : List ℕ) (answer : Answer) (given : List ℕ) (v : Ahead D L) : Type 0 where
  pub device_reads : reads w.device page slice answer given v.device
  pub log_is : v.log ≡ w.log
  pub newest_is : v.newest ≡ w.newest
  pub counts : IsCounted w answer v

-- What becomes of an image with this number, once the log has answered. Where the log is on the medium up to there, the
-- image is handed to the device, which writes. Else the writing fails, and the device stays.
abbrev pub WritesOnce : {D : Type 0} → (D → ℕ → List ℕ → Answer → D → Type 0) → SyncAnswer → (number newest : ℕ)
    → D → ℕ → List ℕ → Answer → D → ℕ → Type 0
WritesOnce writes (Ok _) number newest d page image answer e after =
    writes d page image answer e × (after ≡ max newest number)
WritesOnce writes (Err _) number newest d page image answer e after =
    (answer ≡ Err Write) × (e ≡ d) × (after ≡ newest)

-- A writing: the log is forced up to the number in the image, and then it is written or not. Of whatever was handed to
-- the device so far, the log is on the medium.
pub record AheadWrites {D L : Type 0} (number_in : List ℕ → ℕ) (durable : L → ℕ) (forces : L → ℕ → SyncAnswer → L → Type 0)
    (writes : D → ℕ → List ℕ → Answer → D → Type 0) (w : Ahead D L) (page : ℕ) (image : List ℕ) (answer : Answer)
    (v : Ahead D L) : Type 0 where
  pub told : SyncAnswer
  pub forced : forces w.log (number_in image) told v.log
  pub written : WritesOnce writes told (number_in image) w.newest w.device page image answer v.device v.newest
  pub ahead : v.newest ≤ durable v.log
  pub counts : IsCounted w answer v

-- A sync is that of the device. All else stays.
pub record AheadSyncs {D L : Type 0} (syncs : D → SyncAnswer → D → Type 0) (w : Ahead D L) (answer : SyncAnswer)
    (v : Ahead D L) : Type 0 where
  pub device_syncs : syncs w.device answer v.device
  pub others_are : v ≡ record w { device = v.device }

-- ---- what the device keeps of its syncs, it keeps behind the log

-- A reading is no sync: the law of a durable device.
pub reads-keep : {D L : Type 0} (reads : D → ℕ → List ℕ → Answer → List ℕ → D → Type 0) (syncs failed : D → ℕ)
    → ((d e : D) (page : ℕ) (slice given : List ℕ) (answer : Answer) → reads d page slice answer given e
    → (syncs e ≡ syncs d) × (failed e ≡ failed d))
    → (w v : Ahead D L) (page : ℕ) (slice given : List ℕ) (answer : Answer) → AheadReads reads w page slice answer given v
    → (syncs v.device ≡ syncs w.device) × (failed v.device ≡ failed w.device)
reads-keep reads syncs failed keeps w v page slice given answer r =
    keeps w.device v.device page slice given answer r.device_reads

once-keeps : {D : Type 0} (writes : D → ℕ → List ℕ → Answer → D → Type 0) (syncs failed : D → ℕ)
    → ((d e : D) (page : ℕ) (image : List ℕ) (answer : Answer) → writes d page image answer e
    → (syncs e ≡ syncs d) × (failed e ≡ failed d))
    → (told : SyncAnswer) (number newest : ℕ) (d e : D) (page : ℕ) (image : List ℕ) (answer : Answer) (after : ℕ)
    → WritesOnce writes told number newest d page image answer e after → (syncs e ≡ syncs d) × (failed e ≡ failed d)
once-keeps writes syncs failed keeps (Ok _) number newest d e page image answer after r = keeps d e page image answer r.0
once-keeps writes syncs failed keeps (Err _) number newest d e page image answer after r = (ap syncs r.1, ap failed r.1)

-- A writing is no sync: the law of a durable device.
pub writes-keep : {D L : Type 0} (number_in : List ℕ → ℕ) (durable : L → ℕ) (forces : L → ℕ → SyncAnswer → L → Type 0)
    (writes : D → ℕ → List ℕ → Answer → D → Type 0) (syncs failed : D → ℕ)
    → ((d e : D) (page : ℕ) (image : List ℕ) (answer : Answer) → writes d page image answer e
    → (syncs e ≡ syncs d) × (failed e ≡ failed d))
    → (w v : Ahead D L) (page : ℕ) (image : List ℕ) (answer : Answer)
    → AheadWrites number_in durable forces writes w page image answer v
    → (syncs v.device ≡ syncs w.device) × (failed v.device ≡ failed w.device)
writes-keep number_in durable forces writes syncs failed keeps w v page image answer r =
    once-keeps writes syncs failed keeps r.told (number_in image) w.newest w.device v.device page image answer v.newest
    r.written
