-- What a worker's call does with the images of pages, by what it is: one that asks no device, or the answer of a device.
use Rattle.std.proofs.Common.{◌≡◌, ◌≢◌, ℕ, Bool, true, false, Some, None, List, refl}
use Rattle.pp_model.specs.Pool.{State, is_dirty}
use Rattle.pp_device.specs.Image.{body_of}
use Rattle.pp_core.specs.Queries.{errand_of}
use Rattle.pp_vault.specs.declared.tokens.Duty.{Duty}
use Rattle.pp_vault.specs.declared.tokens.Duty.TheVariants as duty
use Rattle.pp_vault.specs.declared.stage.Hand.{Hand}
use Rattle.pp_vault.specs.Parts.{Parts}
use Rattle.pp_contents.specs.Content.{ready_image}
use Rattle.pp_contents.proofs.ImageSteps.{TokenIn, NoToken, SameToken, SameReady, OthersSame, ImageStep}
use Rattle.pp_contents.proofs.ImageSteps.{still, taken, evicted, put, read, written}

-- A call that asks no device: nothing moves, or an image goes from its frame into the hand or comes back from there, or
-- a page that isn't newer than the device's leaves its frame.
pub data CallStep (old new : Parts) (s t : State) (hand left : Hand) : Type 0 where
  stays : ((page : ℕ) → SameToken hand left page) → ((page : ℕ) → SameReady old new s t page) → CallStep old new s t hand left
  takes : (page : ℕ) (image : List ℕ) → ready_image old s page ≡ Some image → ready_image new t page ≡ None
      → NoToken hand page → TokenIn left page image → OthersSame old new s t hand left page → CallStep old new s t hand left
  evicts : (page : ℕ) (image : List ℕ) → ready_image old s page ≡ Some image → is_dirty s page ≡ false
      → ready_image new t page ≡ None → NoToken hand page → NoToken left page
      → OthersSame old new s t hand left page → CallStep old new s t hand left
  puts : (page : ℕ) (image now : List ℕ) → TokenIn hand page image → NoToken left page
      → ready_image old s page ≡ None → ready_image new t page ≡ Some now → body_of now ≡ body_of image
      → OthersSame old new s t hand left page → CallStep old new s t hand left

-- The answer of a device, by the duty, whether it was done, and the image that came back: a page that was read comes
-- into its frame, or doesn't; a victim that was written leaves the hand, and one that was not is back in a frame.
pub data AnswerStep (old new : Parts) (s t : State) (hand left : Hand) : Duty → Bool → List ℕ → Type 0 where
  loads : (w slot page : ℕ) (image : List ℕ) → NoToken hand page → NoToken left page
      → ready_image old s page ≡ None → ready_image new t page ≡ Some image
      → OthersSame old new s t hand left page → AnswerStep old new s t hand left (duty.Read w slot page) true image
  loses : (w slot page : ℕ) (ok : Bool) (image : List ℕ) → errand_of s w ≡ Some (slot, page, None)
      → ((page : ℕ) → SameToken hand left page) → ((page : ℕ) → SameReady old new s t page)
      → AnswerStep old new s t hand left (duty.Read w slot page) ok image
  writes : (w slot page victim : ℕ) (image : List ℕ) → TokenIn hand victim image → NoToken left victim
      → ((other : ℕ) → other ≢ victim → SameToken hand left other)
      → ((other : ℕ) → SameReady old new s t other) → ready_image old s victim ≡ None
      → AnswerStep old new s t hand left (duty.Write w slot page victim) true image
  keeps : (w slot page victim : ℕ) (image : List ℕ) → TokenIn hand victim image → NoToken left victim
      → ready_image old s victim ≡ None → ready_image new t victim ≡ Some image
      → OthersSame old new s t hand left victim → AnswerStep old new s t hand left (duty.Write w slot page victim) false image

-- ---- both are steps of images

pub call_step : (old new : Parts) (s t : State) (hand left : Hand) → CallStep old new s t hand left
    → ImageStep old new s t hand left
call_step old new s t hand left (stays tokens ready) = still tokens ready
call_step old new s t hand left (takes page image was gone none token others) = taken page image was gone none token others
call_step old new s t hand left (evicts page image was clean gone none nor others) =
    evicted page image was clean gone none nor others
call_step old new s t hand left (puts page image now token none was is body others) =
    put page image now token none was is body others

pub answer_step : (old new : Parts) (s t : State) (hand left : Hand) (d : Duty) (ok : Bool) (image : List ℕ)
    → AnswerStep old new s t hand left d ok image → ImageStep old new s t hand left
answer_step old new s t hand left d ok image (loads w slot page b none nor was is others) =
    read page b none nor was is others
answer_step old new s t hand left d ok image (loses w slot page was_ok b out tokens ready) = still tokens ready
answer_step old new s t hand left d ok image (writes w slot page victim b token none tokens ready was) =
    written victim b token none tokens ready was
answer_step old new s t hand left d ok image (keeps w slot page victim b token none was is others) =
    put victim b b token none was is refl others

-- ---- from a hand that has the same images

pub same_through : (hand mid left : Hand) (page : ℕ) → SameToken hand mid page → SameToken mid left page
    → SameToken hand left page
same_through hand mid left page a b = (λ image x. b.0 image (a.0 image x), λ image x. a.1 image (b.1 image x))

others_from : (old new : Parts) (s t : State) (hand mid left : Hand) (page : ℕ) → ((q : ℕ) → SameToken hand mid q)
    → OthersSame old new s t mid left page → OthersSame old new s t hand left page
others_from old new s t hand mid left page same others =
    record {
      tokens = λ other apart. same_through hand mid left other (same other) (others.tokens other apart);
      ready = others.ready;
    }

pub answer_from : (old new : Parts) (s t : State) (hand mid left : Hand) (d : Duty) (ok : Bool) (image : List ℕ)
    → ((page : ℕ) → SameToken hand mid page) → AnswerStep old new s t mid left d ok image
    → AnswerStep old new s t hand left d ok image
answer_from old new s t hand mid left d ok image same (loads w slot page b none nor was is others) =
    loads w slot page b (λ x token. none x ((same page).0 x token)) nor was is
    (others_from old new s t hand mid left page same others)
answer_from old new s t hand mid left d ok image same (loses w slot page was_ok b out tokens ready) =
    loses w slot page was_ok b out (λ q. same_through hand mid left q (same q) (tokens q)) ready
answer_from old new s t hand mid left d ok image same (writes w slot page victim b token none tokens ready was) =
    writes w slot page victim b ((same victim).1 b token) none
    (λ other apart. same_through hand mid left other (same other) (tokens other apart)) ready was
answer_from old new s t hand mid left d ok image same (keeps w slot page victim b token none was is others) =
    keeps w slot page victim b ((same victim).1 b token) none was is
    (others_from old new s t hand mid left victim same others)
