-- What becomes of the images in ready frames, by what the state and the frames do.
use Rattle.std.proofs.Common.{◌≡◌, ◌≢◌, ◌∙◌, ℕ, Option, Some, None, List, refl, ap}
use Rattle.std.specs.Prelude.{slice_set}
use Rattle.pp_model.specs.Pool.{State}
use Rattle.pp_model.specs.Reached.{IsReached}
use Rattle.pp_model.specs.Ready.{Standing, ready_at, NoneReadyIn, ReadyStay, Leaves, Enters}
use Rattle.pp_model.proofs.ReadyLaws.{ready_are_apart, away_are_apart}
use Rattle.pp_vault.specs.Parts.{Parts}
use Rattle.pp_vault.specs.StandsFor.{image_in}
use Rattle.pp_vault.specs.ImageMoves.{TakenOut, PutIn}
use Rattle.pp_contents.specs.Content.{standing_image, ready_image}
use Rattle.pp_vault.proofs.Images.{in_here, in_there}
use Rattle.pp_contents.proofs.ImageSteps.{SameReady}

abbrev Images : Type 0
Images = List (Option (List ℕ))

same_images : (old new : Parts) → new.images ≡ old.images → (o : Option Standing)
    → standing_image new o ≡ standing_image old o
same_images old new e None = refl
same_images old new e (Some x) = ap (λ (xs : Images). image_in xs x.frame) e

-- The image of one frame is written, and this isn't it.
other_image : (old new : Parts) (frame : ℕ) (image : Option (List ℕ)) → new.images ≡ slice_set old.images frame image
    → (o : Option Standing) → ((x : Standing) → o ≡ Some x → x.frame ≢ frame)
    → standing_image new o ≡ standing_image old o
other_image old new frame image e None apart = refl
other_image old new frame image e (Some x) apart =
    ap (λ (xs : Images). image_in xs x.frame) e ∙ in_there old.images frame x.frame image (apart x refl)

module _ (old new : Parts) (s t : State) where
  -- All images stay, and so do the pages that are ready.
  pub ready_same : new.images ≡ old.images → ReadyStay s t → (page : ℕ) → SameReady old new s t page
  ready_same e stay page = ap (standing_image new) (stay page) ∙ same_images old new e (ready_at s page)

  -- A page that stands as before, in another frame.
  elsewhere : (frame : ℕ) (image : Option (List ℕ)) → new.images ≡ slice_set old.images frame image → (page : ℕ)
      → ready_at t page ≡ ready_at s page → ((x : Standing) → ready_at s page ≡ Some x → x.frame ≢ frame)
      → SameReady old new s t page
  elsewhere frame image e page stay apart =
      ap (standing_image new) stay ∙ other_image old new frame image e (ready_at s page) apart

  -- The image of a frame in which no page is ready changes.
  pub ready_beside : (frame : ℕ) (image : Option (List ℕ)) → new.images ≡ slice_set old.images frame image
      → ReadyStay s t → NoneReadyIn s frame → (page : ℕ) → SameReady old new s t page
  ready_beside frame image e stay none page = elsewhere frame image e page (stay page) (none page)

  -- ---- a page that leaves its frame

  module _ (reached : IsReached s) (page : ℕ) (x : Standing) (leaves : Leaves s t page x) (image : List ℕ)
      (out : TakenOut old new x.frame image) where
    pub left_was : ready_image old s page ≡ Some image
    left_was = ap (standing_image old) leaves.was ∙ out.was

    pub left_gone : ready_image new t page ≡ None
    left_gone = ap (standing_image new) leaves.gone

    pub left_others : (other : ℕ) → other ≢ page → SameReady old new s t other
    left_others other apart =
        elsewhere x.frame None out.images other (leaves.others other apart)
        (λ y e same. apart (ready_are_apart s reached other page y x e leaves.was same))

  -- ---- a page that comes into its frame

  module _ (reached : IsReached s) (page : ℕ) (x : Standing) (enters : Enters s t page x) (image : List ℕ)
      (into : PutIn old new x.frame image) where
    pub entered_none : ready_image old s page ≡ None
    entered_none = ap (standing_image old) enters.none

    pub entered_is : ready_image new t page ≡ Some image
    entered_is =
        ap (standing_image new) enters.is ∙ ap (λ (xs : Images). image_in xs x.frame) into.images
        ∙ in_here old.images x.frame (Some image) into.there

    pub entered_others : (other : ℕ) → other ≢ page → SameReady old new s t other
    entered_others other apart =
        elsewhere x.frame (Some image) into.images other (enters.others other apart)
        (λ y e. away_are_apart s reached x.frame enters.image.was other y e)
