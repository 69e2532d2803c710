-- What a vault stands for: its core stands for a state of the model, and the images are those that this state wants.
use Rattle.std.specs.Prelude.{◌≡◌, ℕ, ◌<◌, ◌≤◌, not, Option, None, Some, IsSome, List, length, slice_index_or}
use Rattle.std.specs.Option.{is_some}
use Rattle.pp_model.specs.Pool.{State}
use Rattle.pp_model.specs.Ready.{Standing, ready_at, is_away_at}
use Rattle.pp_core.specs.StandsFor as core
use Rattle.pp_device.specs.Image.{head_of}
use Rattle.pp_vault.specs.Parts.{Parts}

-- The image in the frame, if it is there.
abbrev pub image_in : List (Option (List ℕ)) → (frame : ℕ) → Option (List ℕ)
image_in images frame = slice_index_or images frame None

-- The frame has an image that names the page and the mark.
pub record IsRight (images : List (Option (List ℕ))) (page : ℕ) (x : Standing) : Type 0 where
  pub image : List ℕ
  pub there : image_in images x.frame ≡ Some image
  pub head : head_of image ≡ (page, x.mark)

-- Each page that is cached, not being loaded, and not latched X has its image in its frame, and the image names the
-- page and its known mark.
abbrev pub ReadyAreRight : List (Option (List ℕ)) → State → Type 0
ReadyAreRight images s = (page : ℕ) (x : Standing) → ready_at s page ≡ Some x → IsRight images page x

-- The images in the frames, and the buffer of the flusher, are those that the state wants.
pub record ImagesFit (page_bytes : ℕ) (images : List (Option (List ℕ))) (spare : Option (List ℕ))
    (s : State) : Type 0 where
  pub wide : 64 ≤ page_bytes
  pub frames : length images ≡ s.settings.layout.frames
  -- every image has as many bytes as a page
  pub long : (frame : ℕ) (image : List ℕ) → image_in images frame ≡ Some image → length image ≡ page_bytes
  -- an image is missing in the frames whose page's image is with an errand or with a writer, and in no other
  pub there : (frame : ℕ) → frame < length images → is_some (image_in images frame) ≡ not (is_away_at s frame)
  pub right : ReadyAreRight images s
  -- the buffer of the flusher is there while no flush is in flight
  pub spare_there : s.flush ≡ None → IsSome spare
  pub spare_long : (image : List ℕ) → spare ≡ Some image → length image ≡ page_bytes

-- The core of these parts stands for the state, and their images and buffer fit it.
pub record StandsFor (v : Parts) (s : State) : Type 0 where
  pub core : core.StandsFor v.core s
  pub images : ImagesFit v.page_bytes v.images v.spare s

-- There is a state that the parts stand for.
pub record IsKept (v : Parts) : Type 0 where
  pub state : State
  pub stands : StandsFor v state
