-- An end of a shared device.
use Rattle.std.specs.Prelude.{◌≡◌, ℕ, ◌+◌, ◌==◌, ◌&&◌, nat_lt, Bool, true, false, Ok, Err, is_err, List, length}
use Rattle.std.specs.Prelude.{if◌then◌else◌}
use Rattle.pp_device.specs.declared.fault.Fault.{Fault}
use Rattle.pp_device.specs.declared.fault.Fault.TheVariants.{Read, Write}
use Rattle.pp_device.specs.Answers.{Answer}
use Rattle.pp_durable.specs.Syncing.{SyncAnswer, SyncCounts, no_syncs, counted_sync}
use Rattle.std.proofs.Common.{ap}

-- Whether the pages are in memory, or else in a file; how many there are; how long an image is; how many calls of this
-- end were made, and how many of these failed; and its syncs.
pub record End : Type 0 where
  pub in_memory : Bool
  pub pages : ℕ
  pub page_bytes : ℕ
  pub calls : ℕ
  pub failures : ℕ
  pub syncs : SyncCounts

-- An end that was not called yet.
abbrev pub new_end : Bool → ℕ → ℕ → End
new_end in_memory pages page_bytes =
    record { in_memory = in_memory; pages = pages; page_bytes = page_bytes; calls = 0; failures = 0; syncs = no_syncs }

-- Of so many pages of so many bytes: whether the page is one, and so many bytes are as many as its image has.
abbrev pub has_image : (pages page_bytes page len : ℕ) → Bool
has_image pages page_bytes page len = nat_lt page pages && (len == page_bytes)

-- Whether the device has the page, and so many bytes are as many as an image has.
abbrev pub is_served : End → ℕ → ℕ → Bool
is_served d page len = has_image d.pages d.page_bytes page len

-- The end after one more call, which was answered so.
abbrev pub counted : End → Answer → End
counted d answer =
    record d { calls = d.calls + 1; failures = if is_err answer then d.failures + 1 else d.failures }

-- What a call answers. One that isn't served fails. One that is served is done where the pages are in memory; where they
-- are in a file, it may fail too.
pub record AnswersSo (d : End) (page len : ℕ) (fault : Fault) (answer : Answer) : Type 0 where
  pub refused : is_served d page len ≡ false → answer ≡ Err fault
  pub memory : d.in_memory ≡ true → is_served d page len ≡ true → answer ≡ Ok tt

-- What a reading gives. Where it isn't served, the slice stays. Else it may hold any bytes then, since other ends write.
pub record EndReads (d : End) (page : ℕ) (slice : List ℕ) (answer : Answer) (given : List ℕ) (e : End)
    : Type 0 where
  pub answers : AnswersSo d page (length slice) Read answer
  pub stays : is_served d page (length slice) ≡ false → given ≡ slice
  pub length_is : length given ≡ length slice
  pub after : e ≡ counted d answer

-- What a writing leaves of the end: one more call.
pub record EndWrites (d : End) (page : ℕ) (slice : List ℕ) (answer : Answer) (e : End) : Type 0 where
  pub answers : AnswersSo d page (length slice) Write answer
  pub after : e ≡ counted d answer

-- What a sync leaves of the end: one more of them. Where the pages are in memory and none failed, it is done. Of a file it
-- says the system's answer alone.
pub record EndSyncs (d : End) (answer : SyncAnswer) (e : End) : Type 0 where
  pub memory : d.in_memory ≡ true → d.syncs.failed ≡ 0 → answer ≡ Ok tt
  pub after : e ≡ record d { syncs = counted_sync d.syncs answer }

-- ---- a reading or a writing is no sync

-- A reading is no sync: the law of a durable device.
pub reads-keep : (d e : End) (page : ℕ) (slice given : List ℕ) (answer : Answer) → EndReads d page slice answer given e
    → (e.syncs.asked ≡ d.syncs.asked) × (e.syncs.failed ≡ d.syncs.failed)
reads-keep d e page slice given answer r = (ap (λ x. x.syncs.asked) r.after, ap (λ x. x.syncs.failed) r.after)

-- A writing is no sync: the law of a durable device.
pub writes-keep : (d e : End) (page : ℕ) (image : List ℕ) (answer : Answer) → EndWrites d page image answer e
    → (e.syncs.asked ≡ d.syncs.asked) × (e.syncs.failed ≡ d.syncs.failed)
writes-keep d e page image answer r = (ap (λ x. x.syncs.asked) r.after, ap (λ x. x.syncs.failed) r.after)
