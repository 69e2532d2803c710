-- A device with a check sum behind each page.
use Rattle.std.specs.Prelude.{◌≡◌, ℕ, ◌+◌, ◌==◌, Bool, true, false, Ok, Err, is_err, List, ◌++◌, length, take, drop}
use Rattle.std.specs.Prelude.{if◌then◌else◌, ◌⊎◌}
use Rattle.std.specs.Int.{w32, to_be_bytes}
use Rattle.std.proofs.Common.{ap, refl}
use Rattle.pp_device.specs.declared.fault.Fault.TheVariants.{Read, Write}
use Rattle.pp_device.specs.Answers.{Answer}
use Rattle.pp_durable.specs.Syncing.{SyncAnswer}
use Rattle.pp_durable.specs.Sum.{sum_of}

-- The device inside, how many bytes the caller's pages have, how many calls were made, and how many of these failed.
pub record Checked (D : Type 0) : Type 0 where
  pub device : D
  pub page_bytes : ℕ
  pub calls : ℕ
  pub failures : ℕ

-- A device that was not called yet.
abbrev pub new_checked : {D : Type 0} → D → ℕ → Checked D
new_checked device page_bytes = record { device = device; page_bytes = page_bytes; calls = 0; failures = 0 }

-- Whether so many bytes are as many as the caller's pages have.
abbrev pub is_as_long : {D : Type 0} → Checked D → ℕ → Bool
is_as_long c len = len == c.page_bytes

-- The sum of these bytes as it stands behind them: its highest byte first.
abbrev pub sum_bytes : List ℕ → List ℕ
sum_bytes bytes = to_be_bytes w32 (sum_of bytes)

-- The bytes, and then their sum.
abbrev pub with_sum : List ℕ → List ℕ
with_sum bytes = bytes ++ sum_bytes bytes

-- Behind the first so many bytes of the image their sum stands.
abbrev pub HasSum : ℕ → List ℕ → Type 0
HasSum len image = drop len image ≡ sum_bytes (take len image)

-- What a reading of the device inside comes to, which was answered so and gave this image. Where it failed, so does the
-- call. Where the sum fits, the caller is given the bytes before it. Else the call fails, and the caller's slice stays.
abbrev pub TakenAs : Answer → (image slice : List ℕ) → Answer → (given : List ℕ) → Type 0
TakenAs (Err fault) image slice answer given = (answer ≡ Err fault) × (given ≡ slice)
TakenAs (Ok _) image slice answer given =
    (HasSum (length slice) image × (answer ≡ Ok tt) × (given ≡ take (length slice) image))
    ⊎ ((HasSum (length slice) image → ⊥) × (answer ≡ Err Read) × (given ≡ slice))

-- A reading through a buffer that held these bytes.
pub record ChecksInside {D : Type 0} (reads : D → ℕ → List ℕ → Answer → List ℕ → D → Type 0) (d : D) (page : ℕ)
    (buffer slice : List ℕ) (answer : Answer) (given : List ℕ) (e : D) : Type 0 where
  pub told : Answer
  pub image : List ℕ
  pub device_reads : reads d page buffer told image e
  pub is_longer : length image ≡ length slice + 4
  pub taken : TakenAs told image slice answer given

-- One more call was made, and it is a failure where it answered an error. The pages are as long.
pub record IsCounted {D : Type 0} (c : Checked D) (answer : Answer) (e : Checked D) : Type 0 where
  pub calls_are : e.calls ≡ c.calls + 1
  pub failures_are : e.failures ≡ (if is_err answer then c.failures + 1 else c.failures)
  pub page_bytes_are : e.page_bytes ≡ c.page_bytes

-- A reading through some buffer.
pub record ReadsInside {D : Type 0} (reads : D → ℕ → List ℕ → Answer → List ℕ → D → Type 0) (d : D) (page : ℕ)
    (slice : List ℕ) (answer : Answer) (given : List ℕ) (e : D) : Type 0 where
  pub buffer : List ℕ
  pub reads_so : ChecksInside reads d page buffer slice answer given e

-- A reading. Where the slice is not as long as a page it fails, and all stays.
pub record CheckedReads {D : Type 0} (reads : D → ℕ → List ℕ → Answer → List ℕ → D → Type 0) (c : Checked D) (page : ℕ)
    (slice : List ℕ) (answer : Answer) (given : List ℕ) (e : Checked D) : Type 0 where
  pub served : is_as_long c (length slice) ≡ true → ReadsInside reads c.device page slice answer given e.device
  pub refused : is_as_long c (length slice) ≡ false
      → (answer ≡ Err Read) × (given ≡ slice) × (e.device ≡ c.device)
  pub counts : IsCounted c answer e

-- A writing: the device inside writes the bytes and their sum.
pub record CheckedWrites {D : Type 0} (writes : D → ℕ → List ℕ → Answer → D → Type 0) (c : Checked D) (page : ℕ)
    (slice : List ℕ) (answer : Answer) (e : Checked D) : Type 0 where
  pub served : is_as_long c (length slice) ≡ true → writes c.device page (with_sum slice) answer e.device
  pub refused : is_as_long c (length slice) ≡ false → (answer ≡ Err Write) × (e.device ≡ c.device)
  pub counts : IsCounted c answer e

-- A sync is that of the device inside. All else stays.
pub record CheckedSyncs {D : Type 0} (syncs : D → SyncAnswer → D → Type 0) (c : Checked D) (answer : SyncAnswer)
    (e : Checked D) : Type 0 where
  pub device_syncs : syncs c.device answer e.device
  pub others_are : e ≡ record c { device = e.device }

-- What a crash may leave of a page: of an image that it may leave inside, the bytes before the sum.
abbrev pub LeavesFront : {D : Type 0} → (D → ℕ → List ℕ → Type 0) → Checked D → ℕ → List ℕ → Type 0
LeavesFront may_leave c page bytes =
    (image : List ℕ) × may_leave c.device page image × (bytes ≡ take c.page_bytes image)

-- ---- what the device inside keeps of its syncs, it keeps behind check sums

-- A reading is no sync: the law of a durable device.
pub reads-keep : {D : Type 0} (reads : D → ℕ → List ℕ → Answer → List ℕ → D → Type 0) (syncs failed : D → ℕ)
    → ((d e : D) (page : ℕ) (slice given : List ℕ) (answer : Answer) → reads d page slice answer given e
    → (syncs e ≡ syncs d) × (failed e ≡ failed d))
    → (c e : Checked D) (page : ℕ) (slice given : List ℕ) (answer : Answer) → CheckedReads reads c page slice answer given e
    → (syncs e.device ≡ syncs c.device) × (failed e.device ≡ failed c.device)
reads-keep reads syncs failed keeps c e page slice given answer r =
    split (is_as_long c (length slice)) r.served r.refused where
      split : (b : Bool) → (b ≡ true → ReadsInside reads c.device page slice answer given e.device)
          → (b ≡ false → (answer ≡ Err Read) × (given ≡ slice) × (e.device ≡ c.device))
          → (syncs e.device ≡ syncs c.device) × (failed e.device ≡ failed c.device)
      split true served refused =
          let so = (served refl).reads_so in keeps c.device e.device page (served refl).buffer so.image so.told so.device_reads
      split false served refused = (ap syncs (refused refl).2, ap failed (refused refl).2)

-- A writing is no sync: the law of a durable device.
pub writes-keep : {D : Type 0} (writes : D → ℕ → List ℕ → Answer → D → Type 0) (syncs failed : D → ℕ)
    → ((d e : D) (page : ℕ) (image : List ℕ) (answer : Answer) → writes d page image answer e
    → (syncs e ≡ syncs d) × (failed e ≡ failed d))
    → (c e : Checked D) (page : ℕ) (image : List ℕ) (answer : Answer) → CheckedWrites writes c page image answer e
    → (syncs e.device ≡ syncs c.device) × (failed e.device ≡ failed c.device)
writes-keep writes syncs failed keeps c e page image answer r =
    split (is_as_long c (length image)) r.served r.refused where
      split : (b : Bool) → (b ≡ true → writes c.device page (with_sum image) answer e.device)
          → (b ≡ false → (answer ≡ Err Write) × (e.device ≡ c.device))
          → (syncs e.device ≡ syncs c.device) × (failed e.device ≡ failed c.device)
      split true served refused = keeps c.device e.device page (with_sum image) answer (served refl)
      split false served refused = (ap syncs (refused refl).1, ap failed (refused refl).1)
