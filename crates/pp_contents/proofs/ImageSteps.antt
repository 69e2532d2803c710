-- What a worker's call does with the images of pages: in frames, and with the tokens of its hand.
use Rattle.std.proofs.Common.{◌≡◌, ◌≢◌, ℕ, false, Some, None, List}
use Rattle.pp_model.specs.Pool.{State, is_dirty}
use Rattle.pp_device.specs.Image.{body_of}
use Rattle.pp_vault.specs.declared.guards.WriteGuard.{WriteGuard}
use Rattle.pp_vault.specs.declared.guards.Guard.TheVariants.{Write}
use Rattle.pp_vault.specs.declared.stage.Hand.{Hand}
use Rattle.pp_vault.specs.Parts.{Parts}
use Rattle.pp_vault.specs.Holding.{placed}
use Rattle.pp_contents.specs.Content.{victim_by, ready_image}

-- The hand has this image of the page: with a guard that has it latched X, or with an errand that writes it back.
pub data TokenIn (hand : Hand) (page : ℕ) (image : List ℕ) : Type 0 where
  guarded : (slot : ℕ) (g : WriteGuard) → placed hand.guards slot ≡ Some (Write g) → g.page ≡ page → g.image ≡ image
      → TokenIn hand page image
  sent : victim_by page hand.stage ≡ Some image → TokenIn hand page image

-- The hand has no image of the page.
abbrev pub NoToken : Hand → (page : ℕ) → Type 0
NoToken hand page = (image : List ℕ) → TokenIn hand page image → ⊥

-- Of this page it has the same images as before; so it has of all pages, or of all but one.
abbrev pub SameToken : (hand left : Hand) → (page : ℕ) → Type 0
SameToken hand left page =
    ((image : List ℕ) → TokenIn hand page image → TokenIn left page image)
    × ((image : List ℕ) → TokenIn left page image → TokenIn hand page image)

-- The image in the frame of the page is the same, if one is ready there.
abbrev pub SameReady : (old new : Parts) (s t : State) → (page : ℕ) → Type 0
SameReady old new s t page = ready_image new t page ≡ ready_image old s page

-- Of all pages but this one nothing changes.
pub record OthersSame (old new : Parts) (s t : State) (hand left : Hand) (page : ℕ) : Type 0 where
  pub tokens : (other : ℕ) → other ≢ page → SameToken hand left other
  pub ready : (other : ℕ) → other ≢ page → SameReady old new s t other

pub data ImageStep (old new : Parts) (s t : State) (hand left : Hand) : Type 0 where
  -- no image of a page moves
  still : ((page : ℕ) → SameToken hand left page) → ((page : ℕ) → SameReady old new s t page)
      → ImageStep old new s t hand left
  -- the image of a page goes from its frame into the hand
  taken : (page : ℕ) (image : List ℕ) → ready_image old s page ≡ Some image → ready_image new t page ≡ None
      → NoToken hand page → TokenIn left page image → OthersSame old new s t hand left page
      → ImageStep old new s t hand left
  -- a page that isn't newer than the device's leaves its frame
  evicted : (page : ℕ) (image : List ℕ) → ready_image old s page ≡ Some image → is_dirty s page ≡ false
      → ready_image new t page ≡ None → NoToken hand page → NoToken left page
      → OthersSame old new s t hand left page → ImageStep old new s t hand left
  -- the image of a page goes from the hand into its frame, with the body that it has
  put : (page : ℕ) (image now : List ℕ) → TokenIn hand page image → NoToken left page
      → ready_image old s page ≡ None → ready_image new t page ≡ Some now → body_of now ≡ body_of image
      → OthersSame old new s t hand left page → ImageStep old new s t hand left
  -- an image that was read comes into the frame of its page
  read : (page : ℕ) (image : List ℕ) → NoToken hand page → NoToken left page → ready_image old s page ≡ None
      → ready_image new t page ≡ Some image → OthersSame old new s t hand left page → ImageStep old new s t hand left
  -- the image of a victim was written, and leaves the hand
  written : (page : ℕ) (image : List ℕ) → TokenIn hand page image → NoToken left page
      → ((other : ℕ) → other ≢ page → SameToken hand left other) → ((other : ℕ) → SameReady old new s t other)
      → ready_image old s page ≡ None → ImageStep old new s t hand left
