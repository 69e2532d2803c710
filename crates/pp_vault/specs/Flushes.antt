-- A flush that begins: the page's image is copied into the flusher's buffer.
use Rattle.std.specs.Prelude.{◌≡◌, ℕ, Bool, true, false, Option, None, Some, IsSome, option_map, List}
use Rattle.std.specs.Option.{is_some}
use Rattle.pp_frames.specs.Marks.{dirty_from}
use Rattle.pp_model.specs.declared.refusals.Cause.TheVariants.{NotDirty}
use Rattle.pp_model.specs.declared.refusals.Delay.TheVariants.{FlushBusy}
use Rattle.pp_model.specs.Marks.{marks}
use Rattle.pp_core.specs.Queries.{flushed_page}
use Rattle.pp_vault.specs.declared.refusal.Refusal.TheVariants.{NotNow, OffPlan}
use Rattle.pp_model.specs.declared.moves.Move.TheVariants.{FlushBegin}
use Rattle.pp_model.specs.Pool.{State, frame_of, known_mark}
use Rattle.pp_device.specs.Image.{head_of}
use Rattle.pp_vault.specs.declared.tokens.Duty.TheVariants.{Flush}
use Rattle.pp_vault.specs.declared.tokens.Errand.{Errand}
use Rattle.pp_vault.specs.Parts.{Parts}
use Rattle.pp_vault.specs.StandsFor.{StandsFor, image_in}
use Rattle.pp_vault.specs.Calls.{Call, asks, refused}

-- The call is the flush of the page.
abbrev pub flush_call : (page : ℕ) → State → Call
flush_call page s = asks (FlushBegin page)

-- The call is the flush of this page; where there is none, it is refused, for now where a flush is in flight.
abbrev pub flush_if : (busy : Bool) → Option ℕ → Call
flush_if busy (Some page) = asks (FlushBegin page)
flush_if true None = refused (NotNow FlushBusy)
flush_if false None = refused (OffPlan NotDirty)

-- The call is the flush of the page that the search from this number finds.
abbrev pub next_call : (number : ℕ) → State → Call
next_call number s = flush_if (is_some (flushed_page s)) (dirty_from (marks s) number)

-- The page has a frame, and this image is in it.
pub record IsImageOf (v : Parts) (s : State) (page : ℕ) (image : List ℕ) : Type 0 where
  pub frame : ℕ
  pub stands : frame_of s page ≡ Some frame
  pub there : image_in v.images frame ≡ Some image

-- The page's image and the buffer are there.
pub record CanCopy (v : Parts) (page : ℕ) : Type 0 where
  pub state : State
  pub stands : StandsFor v state
  pub image : List ℕ
  pub source : IsImageOf v state page image
  pub spare : IsSome v.spare

-- The errand is to write the page, with a copy of its image, which names the page and its mark. The images in the
-- frames stay, and the buffer is away.
pub record CopiesOut (old new : Parts) (page : ℕ) (errand : Errand) : Type 0 where
  pub duty : errand.duty ≡ Flush page
  pub copy : (s : State) → StandsFor old s → IsImageOf old s page errand.image
  pub head : (s : State) → StandsFor old s
      → Some (head_of errand.image) ≡ option_map (λ mark. (page, mark)) (known_mark s page)
  pub images : new.images ≡ old.images
  pub spare : new.spare ≡ None

-- So it goes out for the page that the search from this number finds.
pub record CopiesNext (old new : Parts) (number : ℕ) (errand : Errand) : Type 0 where
  pub page : ℕ
  pub found : (s : State) → StandsFor old s → dirty_from (marks s) number ≡ Some page
  pub copies : CopiesOut old new page errand
