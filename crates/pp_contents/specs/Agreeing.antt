-- How a vault and its hands agree with what a device told.
use Rattle.std.specs.Prelude.{◌≡◌, ◌≤◌, ℕ, true, false, Option, None, Some, List}
use Rattle.pp_model.specs.Pool.{State, Flush, is_dirty, known_mark, mark_at}
use Rattle.pp_core.specs.Queries.{errand_of}
use Rattle.pp_device.specs.Image.{body_of}
use Rattle.pp_vault.specs.declared.stage.Stage.TheVariants.{Back}
use Rattle.pp_vault.specs.declared.stage.Hand.{Hand}
use Rattle.pp_vault.specs.declared.tokens.Returned.{Returned}
use Rattle.pp_vault.specs.declared.hands.Flushing.{Flushing}
use Rattle.pp_vault.specs.declared.hands.Flushing.TheVariants as flushing
use Rattle.pp_vault.specs.declared.hands.Hands.{Hands}
use Rattle.pp_vault.specs.Parts.{Parts}
use Rattle.pp_vault.specs.Holding.{placed}
use Rattle.pp_contents.specs.Content.{ready_image}

-- The image with an errand of the flusher that is still to be carried out.
abbrev pub flush_copy : Option Flushing → Option (List ℕ)
flush_copy (Some (flushing.Out errand)) = Some errand.image
flush_copy _ = None

-- `told` is the image that the device last told of each page: by a reading, or as it was written.
pub record Agrees (v : Parts) (s : State) (hands : Hands) (told : ℕ → List ℕ) : Type 0 where
  -- a page that is ready, and not newer than the device's, has in its frame the body that the device told
  pub clean : (page : ℕ) (image : List ℕ) → ready_image v s page ≡ Some image → is_dirty s page ≡ false
      → body_of image ≡ body_of (told page)
  -- a page that is being loaded isn't newer than the device's
  pub loaded : (w slot page : ℕ) (victim : Option ℕ) → errand_of s w ≡ Some (slot, page, victim)
      → is_dirty s page ≡ false
  -- a victim that is written back is
  pub victim : (w slot page victim : ℕ) → errand_of s w ≡ Some (slot, page, Some victim) → is_dirty s victim ≡ true
  -- a page that is being flushed is newer than the device's, and its mark hasn't fallen since the flush began
  pub flushed : (f : Flush) → s.flush ≡ Some f → (is_dirty s f.page ≡ true) × (f.began ≤ mark_at s f.page)
  -- while it has the mark with which the flush began, and is ready, its frame has the image that the flusher writes
  pub copied : (f : Flush) (image copy : List ℕ) → s.flush ≡ Some f → known_mark s f.page ≡ Some f.began
      → ready_image v s f.page ≡ Some image → flush_copy hands.flushing ≡ Some copy → image ≡ copy
  -- the vault knows what came of each errand that was carried out
  pub answered : (w : ℕ) (hand : Hand) (returned : Returned) → placed hands.workers w ≡ Some hand
      → hand.stage ≡ Back returned → ⊥
  pub flush_answered : (returned : Returned) → hands.flushing ≡ Some (flushing.Back returned) → ⊥
