-- The whole sentence, of a vault.
use Rattle.std.specs.Prelude.{◌≡◌, ℕ, ◌<◌, false, Some, List, IsTrue}
use Rattle.pp_arc.specs.FourLists.{is_cached}
use Rattle.pp_model.specs.Pool.{State, frame_of, known_mark}
use Rattle.pp_model.specs.Ready.{is_loading, is_written}
use Rattle.pp_core.specs.Headline as core
use Rattle.pp_device.specs.Image.{head_of}
use Rattle.pp_vault.specs.Parts.{Parts}
use Rattle.pp_vault.specs.StandsFor.{StandsFor, IsKept, image_in}

-- The page has a frame, which is one of the pool's, and a known mark. In that frame is an image, and its head names the
-- page and the mark.
pub record StandsReady (v : Parts) (s : State) (page : ℕ) : Type 0 where
  pub frame : ℕ
  pub mark : ℕ
  pub image : List ℕ
  pub in_frame : frame_of s page ≡ Some frame
  pub is_frame : frame < s.settings.layout.frames
  pub known : known_mark s page ≡ Some mark
  pub there : image_in v.images frame ≡ Some image
  pub head : head_of image ≡ (page, mark)

-- So it is with each page that is cached, that is not being loaded for some worker, and that no slot has latched X.
abbrev pub ReadyFramesAreRight : Parts → State → Type 0
ReadyFramesAreRight v s =
    (page : ℕ) → IsTrue (is_cached s.lists page) → is_loading s page ≡ false → is_written s page ≡ false
    → StandsReady v s page

-- What holds of the core's state, and: each ready frame holds the page and the stamp that it names.
pub record Headline (v : Parts) (s : State) : Type 0 where
  pub core : core.Headline s
  pub ready_frames_are_right : ReadyFramesAreRight v s

-- It holds of each state that the vault stands for.
abbrev pub HeadlineHolds : Parts → Type 0
HeadlineHolds v = (s : State) → StandsFor v s → Headline v s

-- What every call of a vault keeps: there is a state that it stands for, and the whole sentence holds of each such state.
pub record Holds (v : Parts) : Type 0 where
  pub kept : IsKept v
  pub headline : HeadlineHolds v
