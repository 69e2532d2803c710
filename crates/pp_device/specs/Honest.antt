-- Devices that keep every byte.
use Rattle.std.specs.Prelude.{◌≡◌, ◌≢◌, ℕ, ◌&&◌, not, Bool, true, false, Ok, Err, List}
use Rattle.std.specs.List.{list_all}
use Rattle.pp_device.specs.declared.fault.Fault.{Fault}
use Rattle.pp_device.specs.declared.failing.Trouble.{Trouble}
use Rattle.pp_device.specs.declared.failing.Trouble.TheVariants.{Fail, Lie}
use Rattle.pp_device.specs.Answers.{Answer}
use Rattle.pp_device.specs.Disk.{Disk, DiskReads, DiskWrites, image_of}
use Rattle.pp_device.specs.Troubled.{Troubled, TroubledReads, TroubledWrites}

-- Devices of a type, those that `are` names, keep of each page the image that `kept` tells: a reading that is done gives it,
-- and no reading changes any; a writing that is done makes the bytes the page's image and leaves all others, and one that
-- fails leaves all. Each call leaves one of these devices.
pub record IsHonest {D : Type 0} (are : D → Bool) (reads : D → ℕ → List ℕ → Answer → List ℕ → D → Type 0)
    (writes : D → ℕ → List ℕ → Answer → D → Type 0) (kept : D → ℕ → List ℕ) : Type 0 where
  pub read_gives : (d e : D) (page : ℕ) (slice given : List ℕ) → are d ≡ true → reads d page slice (Ok tt) given e
      → given ≡ kept d page
  pub read_keeps : (d e : D) (page other : ℕ) (slice given : List ℕ) (answer : Answer) → are d ≡ true
      → reads d page slice answer given e → kept e other ≡ kept d other
  pub written : (d e : D) (page : ℕ) (image : List ℕ) → are d ≡ true → writes d page image (Ok tt) e
      → kept e page ≡ image
  pub others : (d e : D) (page other : ℕ) (image : List ℕ) → are d ≡ true → writes d page image (Ok tt) e
      → other ≢ page → kept e other ≡ kept d other
  pub failed : (d e : D) (page other : ℕ) (image : List ℕ) (fault : Fault) → are d ≡ true
      → writes d page image (Err fault) e → kept e other ≡ kept d other
  pub after_read : (d e : D) (page : ℕ) (slice given : List ℕ) (answer : Answer) → are d ≡ true
      → reads d page slice answer given e → are e ≡ true
  pub after_write : (d e : D) (page : ℕ) (image : List ℕ) (answer : Answer) → are d ≡ true
      → writes d page image answer e → are e ≡ true

-- Every device in memory keeps the images that it has.
abbrev pub is_any : Disk → Bool
is_any d = true

abbrev pub SoloIsHonest : Type 0
SoloIsHonest = IsHonest is_any DiskReads DiskWrites image_of

-- Whether no entry plants a lie.
abbrev pub is_lie : Trouble → Bool
is_lie Fail = false
is_lie (Lie page stamp) = true

abbrev pub plants_no_lie : List (ℕ × Trouble) → Bool
plants_no_lie troubles = list_all (λ entry. not (is_lie entry.1)) troubles

-- The device inside is one that keeps every byte, and no lie is planted before it.
abbrev pub is_honest_inside : {D : Type 0} → (D → Bool) → Troubled D → Bool
is_honest_inside are f = are f.device && plants_no_lie f.troubles

-- What the device inside keeps.
abbrev pub kept_inside : {D : Type 0} → (D → ℕ → List ℕ) → Troubled D → ℕ → List ℕ
kept_inside kept f page = kept f.device page

-- Where the device inside keeps every byte and no lie is planted, so does the device with planted troubles.
abbrev pub FailingIsHonest : {D : Type 0} → (D → ℕ → List ℕ → Answer → List ℕ → D → Type 0)
    → (D → ℕ → List ℕ → Answer → D → Type 0) → Type 0
FailingIsHonest {D = D} reads writes =
    (are : D → Bool) (kept : D → ℕ → List ℕ) → IsHonest are reads writes kept
    → IsHonest (is_honest_inside are) (TroubledReads reads) (TroubledWrites writes) (kept_inside kept)
