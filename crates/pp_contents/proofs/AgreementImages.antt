-- Images of ready pages: where one is there, and that a worker's call leaves those that stay.
use Rattle.std.proofs.Common.{◌≡◌, ◌∙◌, ℕ, Option, Some, None, List, refl, sym, ap}
use Rattle.std.specs.Prelude.{unwrap_or, is_some}
use Rattle.std.proofs.lemmas.Bool.{false≢true}
use Rattle.pp_model.specs.Pool.{State}
use Rattle.pp_model.specs.Ready.{Standing, ready_at}
use Rattle.pp_vault.specs.declared.stage.Hand.{Hand}
use Rattle.pp_vault.specs.Parts.{Parts}
use Rattle.pp_vault.specs.StandsFor.{StandsFor, image_in}
use Rattle.pp_contents.specs.Content.{standing_image, ready_image}
use Rattle.pp_contents.proofs.ImageSteps.{OthersSame, SameReady, ImageStep, still, taken, evicted, put, read, written}

pub no_image : {b : List ℕ} → ◌≡◌ {A = Option (List ℕ)} None (Some b) → ⊥
no_image {b} e = false≢true (ap is_some e)

pub one_image : {a b : List ℕ} → ◌≡◌ {A = Option (List ℕ)} (Some a) (Some b) → a ≡ b
one_image {a} {b} e = ap (λ o. unwrap_or o a) e

pub not_standing : {x : Standing} → ◌≡◌ {A = Option Standing} None (Some x) → ⊥
not_standing e = false≢true (ap is_some e)

-- ---- where an image is ready

-- The page stands ready, and this is the image in its frame.
pub record IsShown (v : Parts) (s : State) (q : ℕ) (image : List ℕ) : Type 0 where
  pub at : Standing
  pub ready : ready_at s q ≡ Some at
  pub there : image_in v.images at.frame ≡ Some image

shown_by : (v : Parts) (s : State) (q : ℕ) (image : List ℕ) (o : Option Standing) → ready_at s q ≡ o
    → standing_image v o ≡ Some image → IsShown v s q image
shown_by v s q image None e is = absurd (no_image is)
shown_by v s q image (Some x) e is = record { at = x; ready = e; there = is }

pub shown : (v : Parts) (s : State) (q : ℕ) (image : List ℕ) → ready_image v s q ≡ Some image → IsShown v s q image
shown v s q image is = shown_by v s q image (ready_at s q) refl is

unshown_by : (v : Parts) (s : State) → StandsFor v s → (q : ℕ) (o : Option Standing) → ready_at s q ≡ o
    → standing_image v o ≡ None → o ≡ None
unshown_by v s st q None e is = refl
unshown_by v s st q (Some x) e is = absurd (no_image (sym is ∙ (st.images.right q x e).there))

-- A page with no image in a frame isn't ready.
pub unshown : (v : Parts) (s : State) → StandsFor v s → (q : ℕ) → ready_image v s q ≡ None → ready_at s q ≡ None
unshown v s st q is = unshown_by v s st q (ready_at s q) refl is

-- ---- images that stay

module _ (old new : Parts) (s t : State) (hand left : Hand) (q : ℕ) (i j : List ℕ) (was : ready_image old s q ≡ Some i)
    (is : ready_image new t q ≡ Some j) where
  by_same : SameReady old new s t q → j ≡ i
  by_same alike = one_image (sym is ∙ alike ∙ was)

  -- The page that had no image isn't this one, nor is the one that has none now.
  by_others : (page : ℕ) → (q ≡ page → ⊥) → OthersSame old new s t hand left page → j ≡ i
  by_others page apart others = by_same (others.ready q apart)

  came : (page : ℕ) → ready_image old s page ≡ None → q ≡ page → ⊥
  came page none e = no_image (sym none ∙ ap (ready_image old s) (sym e) ∙ was)

  went : (page : ℕ) → ready_image new t page ≡ None → q ≡ page → ⊥
  went page none e = no_image (sym none ∙ ap (ready_image new t) (sym e) ∙ is)

  -- A page that is ready before and after has its image still.
  pub image_stays : ImageStep old new s t hand left → j ≡ i
  image_stays (still tokens ready) = by_same (ready q)
  image_stays (taken page image has gone none token others) = by_others page (went page gone) others
  image_stays (evicted page image has clean gone none nothing others) = by_others page (went page gone) others
  image_stays (put page image now token none empty has body others) = by_others page (came page empty) others
  image_stays (read page image none nothing empty has others) = by_others page (came page empty) others
  image_stays (written page image token none tokens ready empty) = by_same (ready q)
