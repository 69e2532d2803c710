-- A page of a device whose power may fail.
use Rattle.std.specs.Prelude.{◌≡◌, ℕ, List, length}
use Rattle.pp_device.specs.Image.{blank_image}
use Rattle.pp_durable.specs.Crash.{IsTorn}

-- What is on the medium of it, and what a reading shows.
pub record Image : Type 0 where
  pub medium : List ℕ
  pub shown : List ℕ

-- A page to which nothing was written.
abbrev pub blank_leaf : ℕ → ℕ → Image
blank_leaf page_bytes page = record { medium = blank_image page_bytes page; shown = blank_image page_bytes page }

-- What is shown is on the medium.
abbrev pub settled : Image → Image
settled image = record { medium = image.shown; shown = image.shown }

-- After a crash the page is torn between what was on the medium and what was shown, and what is on the medium is shown.
pub record IsCrashed (before after : Image) : Type 0 where
  pub torn : IsTorn before.medium before.shown after.medium
  pub shown_is : after.shown ≡ after.medium
  pub length_is : length after.shown ≡ length before.shown
