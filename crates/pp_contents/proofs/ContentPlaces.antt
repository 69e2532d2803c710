-- Where the image of a page is: with a hand, in a ready frame, or on the device. It is in one place.
use Rattle.std.proofs.Common.{◌≡◌, ◌∙◌, ℕ, Bool, true, false, Option, Some, None, List}
use Rattle.std.proofs.Common.{refl, sym, ap, subst}
use Rattle.std.specs.Prelude.{unwrap_or, if◌then◌else◌, ◌==◌}
use Rattle.pp_model.specs.Pool.{State}
use Rattle.pp_model.specs.Ready.{ready_at}
use Rattle.pp_device.specs.Image.{body_of}
use Rattle.pp_vault.specs.declared.guards.Guard.{Guard}
use Rattle.pp_vault.specs.declared.guards.Guard.TheVariants.{Pin, Read, Write, Bundle}
use Rattle.pp_vault.specs.declared.stage.Hand.{Hand}
use Rattle.pp_vault.specs.declared.hands.Hands.{Hands}
use Rattle.pp_vault.specs.Parts.{Parts}
use Rattle.pp_vault.specs.Holding.{placed}
use Rattle.pp_contents.specs.Content.{or_other, first_given, written_by, written_in, victim_in, standing_image}
use Rattle.pp_contents.specs.Content.{ready_image, image_here, content}
use Rattle.pp_contents.specs.ContentLaws.{Held}
use Rattle.pp_contents.proofs.AgreementPlaces.{hand_fits}
use Rattle.pp_contents.proofs.Finding.{test_same, GivenAt, given_at, none_given}
use Rattle.pp_vault.proofs.FitTests.{none_some, some_some, nat_is}
use Rattle.pp_contents.proofs.ImageSteps.{TokenIn, guarded, sent, NoToken}
use Rattle.pp_contents.proofs.TokensApart.{Stands, stands, token_unready, token_worker, token_once}

-- ---- the images of a hand

module _ (hand : Hand) (page : ℕ) where
  -- What is found among the guards is an image of the hand.
  by_guard : (image : List ℕ) (slot : ℕ) (o : Option Guard) → placed hand.guards slot ≡ o
      → written_by page o ≡ Some image → TokenIn hand page image
  by_guard image slot None at e = absurd (none_some e)
  by_guard image slot (Some (Pin g)) at e = absurd (none_some e)
  by_guard image slot (Some (Read g)) at e = absurd (none_some e)
  by_guard image slot (Some (Bundle g)) at e = absurd (none_some e)
  by_guard image slot (Some (Write g)) at e = go (g.page == page) refl e
    where
      go : (b : Bool) → (g.page == page) ≡ b → (if b then Some g.image else None) ≡ Some image → TokenIn hand page image
      go true is f = guarded slot g at (nat_is g.page page is) (some_some g.image g.image image f)
      go false is f = absurd (none_some f)

  found_written : (image : List ℕ) → written_in page (Some hand) ≡ Some image → TokenIn hand page image
  found_written image e =
      let found : GivenAt (written_by page) hand.guards image = given_at (written_by page) hand.guards image e in
      by_guard image found.place (placed hand.guards found.place) refl found.given

  -- Where nothing is found, the hand has none.
  none_found : written_in page (Some hand) ≡ None → victim_in page (Some hand) ≡ None → NoToken hand page
  none_found written victim image (guarded slot g at is has) =
      let none : written_by page (placed hand.guards slot) ≡ None =
      none_given (written_by page) refl hand.guards written slot in
      let some : written_by page (Some (Write g)) ≡ Some g.image =
      ap (λ b. if b then Some g.image else None) (test_same g.page page is) in
      none_some (sym none ∙ ap (written_by page) at ∙ some)
  none_found written victim image (sent e) = none_some (sym victim ∙ e)

-- ---- the places

-- No hand has an image of the page.
abbrev pub NoneHas : Hands → (page : ℕ) → Type 0
NoneHas hands page = (w : ℕ) (hand : Hand) → placed hands.workers w ≡ Some hand → NoToken hand page

-- The image of the page is this: a hand has it, or it is in the frame where the page is ready, or it is the one that the
-- device told last.
pub data IsAt (v : Parts) (s : State) (hands : Hands) (told : ℕ → List ℕ) (page : ℕ) (image : List ℕ) : Type 0 where
  in_hand : (w : ℕ) (hand : Hand) → placed hands.workers w ≡ Some hand → TokenIn hand page image
      → IsAt v s hands told page image
  in_frame : ready_image v s page ≡ Some image → IsAt v s hands told page image
  on_device : NoneHas hands page → ready_image v s page ≡ None → told page ≡ image → IsAt v s hands told page image

-- Each page's image is in one of them, where its content is looked for.
module _ (v : Parts) (s : State) (hands : Hands) (told : ℕ → List ℕ) (page : ℕ) where
  in_written : (image : List ℕ) (w : ℕ) (o : Option Hand) → placed hands.workers w ≡ o → written_in page o ≡ Some image
      → IsAt v s hands told page image
  in_written image w None at e = absurd (none_some e)
  in_written image w (Some hand) at e = in_hand w hand at (found_written hand page image e)

  in_sent : (image : List ℕ) (w : ℕ) (o : Option Hand) → placed hands.workers w ≡ o → victim_in page o ≡ Some image
      → IsAt v s hands told page image
  in_sent image w None at e = absurd (none_some e)
  in_sent image w (Some hand) at e = in_hand w hand at (sent e)

  none_has : first_given (written_in page) hands.workers ≡ None → first_given (victim_in page) hands.workers ≡ None
      → NoneHas hands page
  none_has written victim w hand at =
      none_found hand page
      (ap (written_in page) (sym at) ∙ none_given (written_in page) refl hands.workers written w)
      (ap (victim_in page) (sym at) ∙ none_given (victim_in page) refl hands.workers victim w)

  place_by : (a b c : Option (List ℕ)) → first_given (written_in page) hands.workers ≡ a
      → first_given (victim_in page) hands.workers ≡ b → ready_image v s page ≡ c
      → IsAt v s hands told page (unwrap_or (or_other a (or_other b c)) (told page))
  place_by (Some x) b c e f g =
      let found : GivenAt (written_in page) hands.workers x = given_at (written_in page) hands.workers x e in
      in_written x found.place (placed hands.workers found.place) refl found.given
  place_by None (Some x) c e f g =
      let found : GivenAt (victim_in page) hands.workers x = given_at (victim_in page) hands.workers x f in
      in_sent x found.place (placed hands.workers found.place) refl found.given
  place_by None None (Some x) e f g = in_frame g
  place_by None None None e f g = on_device (none_has e f) g refl

  pub where_is : IsAt v s hands told page (unwrap_or (image_here v s hands page) (told page))
  where_is =
      place_by (first_given (written_in page) hands.workers) (first_given (victim_in page) hands.workers)
      (ready_image v s page) refl refl refl

-- ---- hands that fit

pub hand_stands : (v : Parts) (s : State) (hands : Hands) → Held v s hands → (w : ℕ) (hand : Hand)
    → placed hands.workers w ≡ Some hand → Stands s w hand
hand_stands v s hands held w hand at = stands v.page_bytes s w hand (hand_fits v s hands w hand held at)

-- A page that isn't ready has no image in a ready frame.
pub unready_image : (v : Parts) (s : State) (page : ℕ) → ready_at s page ≡ None → ready_image v s page ≡ None
unready_image v s page e = ap (standing_image v) e

module _ (v : Parts) (s : State) (hands : Hands) (held : Held v s hands) where
  pub has_unready : (w : ℕ) (hand : Hand) → placed hands.workers w ≡ Some hand → (page : ℕ) (image : List ℕ)
      → TokenIn hand page image → ready_image v s page ≡ None
  has_unready w hand at page image token =
      unready_image v s page
      (token_unready s held.stands.core.reached w hand (hand_stands v s hands held w hand at) page image token)

  pub one_has : (w u : ℕ) (hand and : Hand) → placed hands.workers w ≡ Some hand → placed hands.workers u ≡ Some and
      → (page : ℕ) (one two : List ℕ) → TokenIn hand page one → TokenIn and page two → w ≡ u
  one_has w u hand and at on page one two a b =
      token_worker s held.stands.core.reached w u hand and (hand_stands v s hands held w hand at)
      (hand_stands v s hands held u and on) page one two a b

  same_hand : (w u : ℕ) (hand and : Hand) → w ≡ u → placed hands.workers w ≡ Some hand
      → placed hands.workers u ≡ Some and → and ≡ hand
  same_hand w u hand and e at on = some_some hand and hand (sym on ∙ ap (placed hands.workers) (sym e) ∙ at)

  has_once : (w u : ℕ) (hand and : Hand) → placed hands.workers w ≡ Some hand → placed hands.workers u ≡ Some and
      → (page : ℕ) (one two : List ℕ) → TokenIn hand page one → TokenIn and page two → one ≡ two
  has_once w u hand and at on page one two a b =
      let is : w ≡ u = one_has w u hand and at on page one two a b in
      token_once s held.stands.core.reached w hand (hand_stands v s hands held w hand at) page one two a
      (subst (λ h. TokenIn h page two) (same_hand w u hand and is at on) b)

  -- The image of a page is one.
  pub is_once : (told : ℕ → List ℕ) (page : ℕ) (one two : List ℕ) → IsAt v s hands told page one
      → IsAt v s hands told page two → one ≡ two
  is_once told page one two (in_hand w hand at a) (in_hand u and on b) = has_once w u hand and at on page one two a b
  is_once told page one two (in_hand w hand at a) (in_frame f) =
      absurd (none_some (sym (has_unready w hand at page one a) ∙ f))
  is_once told page one two (in_hand w hand at a) (on_device none f is) = absurd (none w hand at one a)
  is_once told page one two (in_frame e) (in_hand u and on b) =
      absurd (none_some (sym (has_unready u and on page two b) ∙ e))
  is_once told page one two (in_frame e) (in_frame f) = some_some one one two (sym e ∙ f)
  is_once told page one two (in_frame e) (on_device none f is) = absurd (none_some (sym f ∙ e))
  is_once told page one two (on_device none e is) (in_hand u and on b) = absurd (none u and on two b)
  is_once told page one two (on_device none e is) (in_frame f) = absurd (none_some (sym e ∙ f))
  is_once told page one two (on_device none e is) (on_device also f was) = sym is ∙ was

  -- So the content of a page is the body of the image, wherever it is.
  pub content_at : (told : ℕ → List ℕ) (page : ℕ) (image : List ℕ) → IsAt v s hands told page image
      → content v s hands told page ≡ body_of image
  content_at told page image at =
      ap body_of (is_once told page (unwrap_or (image_here v s hands page) (told page)) image
      (where_is v s hands told page) at)
