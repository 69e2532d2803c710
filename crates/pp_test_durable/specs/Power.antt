-- A device whose power may fail.
use Rattle.std.specs.Prelude.{◌≡◌, ℕ, ◌+◌, ◌-◌, ◌==◌, ◌<◌, ◌&&◌, nat_lt, Bool, true, false, is_ok, List, [], length, map, slice_set}
use Rattle.std.specs.Prelude.{slice_index_or, if◌then◌else◌}
use Rattle.std.specs.List.{range_with_len}
use Rattle.std.proofs.Common.{refl, ap, ◌∙◌}
use Rattle.pp_device.specs.declared.fault.Fault.TheVariants.{Read, Write}
use Rattle.pp_device.specs.Answers.{Answer}
use Rattle.pp_device.specs.Disk.{answer_of}
use Rattle.pp_durable.specs.Syncing.{SyncAnswer, SyncCounts, no_syncs, counted_sync}
use Rattle.pp_durable.specs.Crash.{IsTorn, IsDurable}
use Rattle.pp_test_durable.specs.Leaves.{Image, blank_leaf, settled, IsCrashed}

-- How long an image is; the pages, page p at place p; how many calls the power lasts, of which it fails at the last; how many
-- calls were made, and how many of these failed; and the syncs.
pub record Powered : Type 0 where
  pub page_bytes : ℕ
  pub images : List Image
  pub power : ℕ
  pub calls : ℕ
  pub failures : ℕ
  pub syncs : SyncCounts

-- A device to which nothing was done yet.
abbrev pub new_powered : ℕ → ℕ → ℕ → Powered
new_powered pages page_bytes power =
    record {
      page_bytes = page_bytes;
      images = map (blank_leaf page_bytes) (range_with_len 0 pages);
      power = power;
      calls = 0;
      failures = 0;
      syncs = no_syncs;
    }

-- A page that the device doesn't have.
abbrev pub no_leaf : Image
no_leaf = record { medium = []; shown = [] }

abbrev pub image_at : Powered → ℕ → Image
image_at d page = slice_index_or d.images page no_leaf

-- Whether the device has the page, and so many bytes are as many as an image has.
abbrev pub is_served : Powered → ℕ → ℕ → Bool
is_served d page len = nat_lt page (length d.images) && (len == d.page_bytes)

-- Whether the power lasts until the next call has begun, and until it is done.
abbrev pub is_begun : Powered → Bool
is_begun d = nat_lt 0 d.power

abbrev pub is_done : Powered → Bool
is_done d = nat_lt 1 d.power

-- The device after one more reading or writing, which was done or else failed.
abbrev pub counted : Powered → Bool → Powered
counted d done =
    record d { power = d.power - 1; calls = d.calls + 1; failures = if done then d.failures else d.failures + 1 }

-- The device in which this is shown of the page.
abbrev pub shown_so : Powered → ℕ → List ℕ → Powered
shown_so d page image = record d { images = slice_set d.images page (record (image_at d page) { shown = image }) }

-- What a reading gives, where it is served and the power lasts; else the slice stays.
pub record PowerReads (d : Powered) (page : ℕ) (slice : List ℕ) (answer : Answer) (given : List ℕ) (e : Powered)
    : Type 0 where
  pub answer_is : answer ≡ answer_of (is_served d page (length slice) && is_done d) Read
  pub given_is : given ≡ (if is_served d page (length slice) && is_done d then (image_at d page).shown else slice)
  pub after : e ≡ counted d (is_served d page (length slice) && is_done d)

-- What a writing leaves. Where the power fails in the middle of it, the image was on its way.
pub record PowerWrites (d : Powered) (page : ℕ) (slice : List ℕ) (answer : Answer) (e : Powered) : Type 0 where
  pub answer_is : answer ≡ answer_of (is_served d page (length slice) && is_done d) Write
  pub after : e ≡ (if is_served d page (length slice) && is_begun d
      then counted (shown_so d page slice) (is_served d page (length slice) && is_done d)
      else counted d (is_served d page (length slice) && is_done d))

-- Whether a sync is done: none has failed before, and the power lasts.
abbrev pub is_synced : Powered → Bool
is_synced d = (d.syncs.failed == 0) && is_done d

-- What a sync leaves: all that is shown is on the medium, where it is done; else the pages stay.
pub record PowerSyncs (d : Powered) (answer : SyncAnswer) (e : Powered) : Type 0 where
  pub is_done : is_ok answer ≡ is_synced d
  pub after : e ≡ record d {
    images = if is_synced d then map settled d.images else d.images;
    power = d.power - 1;
    syncs = counted_sync d.syncs answer;
  }

-- What a crash may leave of a page: it is torn between what is on the medium and what is shown.
abbrev pub PowerLeaves : Powered → ℕ → List ℕ → Type 0
PowerLeaves d page image = IsTorn (image_at d page).medium (image_at d page).shown image

-- A device after a crash: of each page it has what the crash left.
pub record IsAfterCrash (d e : Powered) : Type 0 where
  pub page_bytes_are : e.page_bytes ≡ d.page_bytes
  pub pages_are : length e.images ≡ length d.images
  pub left : (page : ℕ) → PowerLeaves d page (image_at e page).shown
  pub settled_is : (page : ℕ) → (image_at e page).medium ≡ (image_at e page).shown

-- A device whose power may fail keeps what it shows, and a crash leaves of it what was said.
abbrev pub is_any : Powered → Bool
is_any d = true

abbrev pub PowerIsDurable : Type 0
PowerIsDurable =
    IsDurable is_any PowerReads PowerWrites PowerSyncs (λ d page. (image_at d page).shown) PowerLeaves

-- Each page crashed.
pub record AllCrashed (before after : List Image) : Type 0 where
  pub length_is : length after ≡ length before
  pub each : (page : ℕ) → page < length before
      → IsCrashed (slice_index_or before page no_leaf) (slice_index_or after page no_leaf)

-- ---- a reading or a writing is no sync

-- A reading is no sync: the law of a durable device.
pub reads-keep : (d e : Powered) (page : ℕ) (slice given : List ℕ) (answer : Answer) → PowerReads d page slice answer given e
    → (e.syncs.asked ≡ d.syncs.asked) × (e.syncs.failed ≡ d.syncs.failed)
reads-keep d e page slice given answer r = (ap (λ x. x.syncs.asked) r.after, ap (λ x. x.syncs.failed) r.after)

same-syncs : (b : Bool) (d x y : Powered) → x.syncs ≡ d.syncs → y.syncs ≡ d.syncs → (if b then x else y).syncs ≡ d.syncs
same-syncs true d x y left right = left
same-syncs false d x y left right = right

-- A writing is no sync: the law of a durable device.
pub writes-keep : (d e : Powered) (page : ℕ) (image : List ℕ) (answer : Answer) → PowerWrites d page image answer e
    → (e.syncs.asked ≡ d.syncs.asked) × (e.syncs.failed ≡ d.syncs.failed)
writes-keep d e page image answer r =
    let same : e.syncs ≡ d.syncs =
    ap (λ x. x.syncs) r.after ∙ same-syncs (is_served d page (length image) && is_begun d) d
    (counted (shown_so d page image) (is_served d page (length image) && is_done d))
    (counted d (is_served d page (length image) && is_done d)) refl refl in
    (ap (λ s. s.asked) same, ap (λ s. s.failed) same)
