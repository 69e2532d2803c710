-- What becomes of the images.
use Rattle.std.specs.Prelude.{◌≡◌, ◌<◌, ℕ, None, Some, List, length, slice_set}
use Rattle.pp_vault.specs.Parts.{Parts}
use Rattle.pp_vault.specs.StandsFor.{image_in}

-- The image has left the frame, and nothing else has changed of the images.
pub record TakenOut (old new : Parts) (frame : ℕ) (image : List ℕ) : Type 0 where
  pub was : image_in old.images frame ≡ Some image
  pub images : new.images ≡ slice_set old.images frame None
  pub spare : new.spare ≡ old.spare

-- The image has come into the frame, which is there and had none, and nothing else has changed of the images.
pub record PutIn (old new : Parts) (frame : ℕ) (image : List ℕ) : Type 0 where
  pub there : frame < length old.images
  pub was : image_in old.images frame ≡ None
  pub images : new.images ≡ slice_set old.images frame (Some image)
  pub spare : new.spare ≡ old.spare

-- Every image is where it was, and as it was.
pub record ImagesStay (old new : Parts) : Type 0 where
  pub images : new.images ≡ old.images
  pub spare : new.spare ≡ old.spare
