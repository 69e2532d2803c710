-- A device in memory.
use Rattle.std.specs.Prelude.{◌≡◌, ℕ, ◌+◌, ◌==◌, ◌&&◌, nat_lt, Bool, Ok, Err, List, length, map, slice_set}
use Rattle.std.specs.Prelude.{slice_index_or, [], if◌then◌else◌}
use Rattle.std.specs.List.{range_with_len}
use Rattle.pp_device.specs.declared.fault.Fault.{Fault}
use Rattle.pp_device.specs.declared.fault.Fault.TheVariants.{Read, Write}
use Rattle.pp_device.specs.Answers.{Answer}
use Rattle.pp_device.specs.Image.{blank_image}

-- How long an image is; the image of each page, that of page p at place p; how many calls were made, and how many of
-- these failed.
pub record Disk : Type 0 where
  pub page_bytes : ℕ
  pub images : List (List ℕ)
  pub calls : ℕ
  pub failures : ℕ

-- A device to which nothing was done yet.
abbrev pub new_disk : ℕ → ℕ → Disk
new_disk pages page_bytes =
    record {
      page_bytes = page_bytes;
      images = map (blank_image page_bytes) (range_with_len 0 pages);
      calls = 0;
      failures = 0;
    }

-- The image of a page that the device has.
abbrev pub image_of : Disk → ℕ → List ℕ
image_of d page = slice_index_or d.images page []

-- Whether the device has the page, and so many bytes are as many as an image has.
abbrev pub is_served : Disk → ℕ → ℕ → Bool
is_served d page len = nat_lt page (length d.images) && (len == d.page_bytes)

-- The answer of a call that is served, or else fails so.
abbrev pub answer_of : Bool → Fault → Answer
answer_of served fault = if served then Ok tt else Err fault

-- The device after one more call, which is served or else fails.
abbrev pub counted : Disk → Bool → Disk
counted d served =
    record d { calls = d.calls + 1; failures = if served then d.failures else d.failures + 1 }

-- The device in which the slice is the image of the page, where that call is served.
abbrev pub written : Disk → ℕ → List ℕ → Disk
written d page slice =
    if is_served d page (length slice) then record d { images = slice_set d.images page slice } else d

-- What a reading gives: the image of the page, where the call is served; else the slice stays. The images stay.
pub record DiskReads (d : Disk) (page : ℕ) (slice : List ℕ) (answer : Answer) (given : List ℕ) (e : Disk)
    : Type 0 where
  pub answer_is : answer ≡ answer_of (is_served d page (length slice)) Read
  pub given_is : given ≡ (if is_served d page (length slice) then image_of d page else slice)
  pub after : e ≡ counted d (is_served d page (length slice))

-- What a writing leaves: the slice is the image of the page, where the call is served. All other images stay.
pub record DiskWrites (d : Disk) (page : ℕ) (slice : List ℕ) (answer : Answer) (e : Disk) : Type 0 where
  pub answer_is : answer ≡ answer_of (is_served d page (length slice)) Write
  pub after : e ≡ counted (written d page slice) (is_served d page (length slice))
