-- What the steps of images make of the contents of pages.
use Rattle.std.proofs.Common.{◌≡◌, ◌≢◌, ◌∙◌, ℕ, Bool, true, false, Some, None, List, refl, sym, ap, subst}
use Rattle.std.proofs.Common.{Ok, Err}
use Rattle.std.specs.Prelude.{if◌then◌else◌, is_ok}
use Rattle.std.proofs.lemmas.Bool.{false≢true}
use Rattle.pp_model.specs.Pool.{State}
use Rattle.pp_model.proofs.Requests.{same, other, which}
use Rattle.pp_core.specs.Queries.{errand_of}
use Rattle.pp_device.specs.Answers.{Answer}
use Rattle.pp_device.specs.Image.{body_of}
use Rattle.pp_vault.specs.declared.tokens.Duty.{Duty}
use Rattle.pp_vault.specs.declared.stage.Hand.{Hand}
use Rattle.pp_vault.specs.declared.hands.Hands.{Hands}
use Rattle.pp_vault.specs.Parts.{Parts}
use Rattle.pp_vault.specs.Holding.{placed}
use Rattle.pp_contents.specs.Told.{told_with, told_after}
use Rattle.pp_contents.specs.Content.{ready_image, content, ContentsStay, ContentIsSet}
use Rattle.pp_contents.specs.Agreeing.{Agrees}
use Rattle.pp_contents.specs.ContentLaws.{Held, HandsBack, AnswerFollows}
use Rattle.pp_contents.proofs.ImageSteps.{TokenIn, NoToken, SameToken, SameReady, OthersSame}
use Rattle.pp_contents.proofs.TokensApart.{token_unloaded, loaded_unready}
use Rattle.pp_contents.proofs.AgreementPlaces.{back_here, back_there}
use Rattle.pp_contents.proofs.ContentPlaces.{NoneHas, IsAt, in_hand, in_frame, on_device, where_is, hand_stands}
use Rattle.pp_contents.proofs.ContentPlaces.{unready_image, has_unready, one_has, content_at}
use Rattle.pp_contents.proofs.Finding.{test_same, test_apart}
use Rattle.pp_vault.proofs.FitTests.{none_some, some_some}
use Rattle.pp_contents.proofs.StepKinds.{CallStep, stays, takes, evicts, puts, AnswerStep, loads, loses, writes, keeps}

-- What the device told of a page last, where it told of this one now.
told_here : (told : ℕ → List ℕ) (page : ℕ) (image : List ℕ) (q : ℕ) → q ≡ page → told_with told page image q ≡ image
told_here told page image q e = ap (λ b. if b then image else told q) (test_same q page e)

told_there : (told : ℕ → List ℕ) (page : ℕ) (image : List ℕ) (q : ℕ) → q ≢ page → told_with told page image q ≡ told q
told_there told page image q d = ap (λ b. if b then image else told q) (test_apart q page d)

module _ (old new : Parts) (s t : State) (hands after : Hands) (before : Held old s hands) (later : Held new t after)
    (w : ℕ) (hand left : Hand) (there : placed hands.workers w ≡ Some hand) (back : HandsBack hands w left after) where
  -- ---- the places of the workers

  pub left_there : placed after.workers w ≡ Some left
  left_there = back_here hands after w hand left there back

  others_there : (u : ℕ) → u ≢ w → placed after.workers u ≡ placed hands.workers u
  others_there = back_there hands after w hand left there back

  is_hand : (u : ℕ) (x : Hand) → u ≡ w → placed hands.workers u ≡ Some x → x ≡ hand
  is_hand u x e at = some_some x x hand (sym at ∙ ap (placed hands.workers) e ∙ there)

  pub is_left : (u : ℕ) (x : Hand) → u ≡ w → placed after.workers u ≡ Some x → left ≡ x
  is_left u x e at = some_some left left x (sym left_there ∙ ap (placed after.workers) (sym e) ∙ at)

  -- Another worker's hand is there after the call as before.
  pub was_there : (u : ℕ) (x : Hand) → u ≢ w → placed after.workers u ≡ Some x → placed hands.workers u ≡ Some x
  was_there u x apart at = sym (others_there u apart) ∙ at

  -- ---- a page whose image stays where it is

  module _ (page : ℕ) (tokens : SameToken hand left page) where
    none_still : NoneHas hands page → NoneHas after page
    none_still none u x at image token =
        elim (which u w) [
          | same e k ↦
              none w hand there image (tokens.1 image (subst (λ h. TokenIn h page image) (sym (is_left u x e at)) token))
          | other d k ↦ none u x (was_there u x d at) image token
        ]

    in_hand_still : (told : ℕ → List ℕ) (image : List ℕ) (u : ℕ) (x : Hand) → placed hands.workers u ≡ Some x
        → TokenIn x page image → IsAt new t after told page image
    in_hand_still told image u x at token =
        elim (which u w) [
          | same e k ↦
              in_hand w left left_there (tokens.0 image (subst (λ h. TokenIn h page image) (is_hand u x e at) token))
          | other d k ↦ in_hand u x (others_there u d ∙ at) token
        ]

    module _ (ready : SameReady old new s t page) (told now : ℕ → List ℕ) (same_told : now page ≡ told page) where
      still_at : (image : List ℕ) → IsAt old s hands told page image → IsAt new t after now page image
      still_at image (in_hand u x at token) = in_hand_still now image u x at token
      still_at image (in_frame e) = in_frame (ready ∙ e)
      still_at image (on_device none e is) = on_device (none_still none) (ready ∙ e) (same_told ∙ is)

      same_content : content new t after now page ≡ content old s hands told page
      same_content = content_at new t after later now page _ (still_at _ (where_is old s hands told page))

  -- ---- a page whose image moves

  -- Its image is in the frame, or with the hand, before the call.
  ready_before : (told : ℕ → List ℕ) (page : ℕ) (image : List ℕ) → ready_image old s page ≡ Some image
      → content old s hands told page ≡ body_of image
  ready_before told page image e = content_at old s hands before told page image (in_frame e)

  has_before : (told : ℕ → List ℕ) (page : ℕ) (image : List ℕ) → TokenIn hand page image
      → content old s hands told page ≡ body_of image
  has_before told page image token = content_at old s hands before told page image (in_hand w hand there token)

  -- And after it.
  ready_after : (now : ℕ → List ℕ) (page : ℕ) (image : List ℕ) → ready_image new t page ≡ Some image
      → content new t after now page ≡ body_of image
  ready_after now page image e = content_at new t after later now page image (in_frame e)

  pub has_after : (now : ℕ → List ℕ) (page : ℕ) (image : List ℕ) → TokenIn left page image
      → content new t after now page ≡ body_of image
  has_after now page image token = content_at new t after later now page image (in_hand w left left_there token)

  -- Or nobody has it: no other hand had one, and this one hasn't any more.
  none_after : (page : ℕ) → NoToken left page
      → ((u : ℕ) (x : Hand) → u ≢ w → placed hands.workers u ≡ Some x → NoToken x page) → NoneHas after page
  none_after page none nobody u x at image token =
      elim (which u w) [
        | same e k ↦ none image (subst (λ h. TokenIn h page image) (sym (is_left u x e at)) token)
        | other d k ↦ nobody u x d (was_there u x d at) image token
      ]

  told_later : (now : ℕ → List ℕ) (page : ℕ) → NoneHas after page → ready_image new t page ≡ None
      → content new t after now page ≡ body_of (now page)
  told_later now page none gone = content_at new t after later now page (now page) (on_device none gone refl)

  -- A page that was ready was with no hand; one that a hand had was with no other.
  ready_alone : (page : ℕ) (image : List ℕ) → ready_image old s page ≡ Some image → (u : ℕ) (x : Hand) → u ≢ w
      → placed hands.workers u ≡ Some x → NoToken x page
  ready_alone page image e u x d at b token = none_some (sym (has_unready old s hands before u x at page b token) ∙ e)

  had_alone : (page : ℕ) (image : List ℕ) → TokenIn hand page image → (u : ℕ) (x : Hand) → u ≢ w
      → placed hands.workers u ≡ Some x → NoToken x page
  had_alone page image token u x d at b other_token =
      d (one_has old s hands before u w x hand at there page b image other_token token)

  -- All pages but one keep their contents.
  module _ (told now : ℕ → List ℕ) (page : ℕ) (others : OthersSame old new s t hand left page)
      (same_told : (q : ℕ) → q ≢ page → now q ≡ told q) where
    other_content : (q : ℕ) → q ≢ page → content new t after now q ≡ content old s hands told q
    other_content q d = same_content q (others.tokens q d) (others.ready q d) told now (same_told q d)

    one_stays : content new t after now page ≡ content old s hands told page
        → ContentsStay (content old s hands told) (content new t after now)
    one_stays here q =
        elim (which q page) [
          | same e k ↦
              ap (content new t after now) e ∙ here ∙ ap (content old s hands told) (sym e)
          | other d k ↦ other_content q d
        ]

    pub one_is_set : (body : List ℕ) → content new t after now page ≡ body
        → ContentIsSet page body (content old s hands told) (content new t after now)
    one_is_set body here q =
        elim (which q page) [
          | same e k ↦
              ap (content new t after now) e ∙ here
              ∙ sym (ap (λ b. if b then body else content old s hands told q) (test_same q page e))
          | other d k ↦
              other_content q d
              ∙ sym (ap (λ b. if b then body else content old s hands told q) (test_apart q page d))
        ]

  -- ---- calls that ask no device

  pub calls_keep : (told : ℕ → List ℕ) → Agrees old s hands told → CallStep old new s t hand left
      → ContentsStay (content old s hands told) (content new t after told)
  calls_keep told agrees (stays tokens ready) = λ q. same_content q (tokens q) (ready q) told told refl
  calls_keep told agrees (takes page image was gone none token others) =
      one_stays told told page others (λ q d. refl)
      (has_after told page image token ∙ sym (ready_before told page image was))
  calls_keep told agrees (evicts page image was clean gone none nor others) =
      one_stays told told page others (λ q d. refl)
      (
      told_later told page (none_after page nor (ready_alone page image was)) gone
      ∙ sym (agrees.clean page image was clean) ∙ sym (ready_before told page image was)
      )
  calls_keep told agrees (puts page image now token none was is body others) =
      one_stays told told page others (λ q d. refl)
      (ready_after told page now is ∙ body ∙ sym (has_before told page image token))

  -- ---- answers of a device

  -- The page that a worker waited for is with nobody, where it wasn't loaded.
  lost_alone : (page : ℕ) (v slot : ℕ) → errand_of s v ≡ Some (slot, page, None) → NoneHas hands page
  lost_alone page v slot out u x at image token =
      token_unloaded s before.stands.core.reached u x (hand_stands old s hands before u x at) v slot page image out token

  all_same : (page : ℕ) → ((q : ℕ) → SameToken hand left q) → ((q : ℕ) → SameReady old new s t q)
      → OthersSame old new s t hand left page
  all_same page tokens ready = record { tokens = λ q d. tokens q; ready = λ q d. ready q }

  ok_err : (b : Bool) → b ≡ true → b ≡ false → ⊥
  ok_err b e f = false≢true (sym f ∙ e)

  -- A read that was done and gave no page: the device told the image, and nobody has another.
  lost_is_set : (told : ℕ → List ℕ) (v slot page : ℕ) (given : List ℕ) → errand_of s v ≡ Some (slot, page, None)
      → ((q : ℕ) → SameToken hand left q) → ((q : ℕ) → SameReady old new s t q)
      → ContentIsSet page (body_of given) (content old s hands told) (content new t after (told_with told page given))
  lost_is_set told v slot page given out tokens ready =
      one_is_set told (told_with told page given) page (all_same page tokens ready) (told_there told page given)
      (body_of given)
      (
      told_later (told_with told page given) page (none_still page (tokens page) (lost_alone page v slot out))
      (ready page ∙ unready_image old s page (loaded_unready s before.stands.core.reached v slot page out))
      ∙ ap body_of (told_here told page given page refl)
      )

  pub answers_follow : (told : ℕ → List ℕ) (d : Duty) (ok : Bool) (given : List ℕ) (answer : Answer) → is_ok answer ≡ ok
      → AnswerStep old new s t hand left d ok given
      → AnswerFollows d answer given (content old s hands told)
      (content new t after (told_after told d answer given))
  answers_follow told d ok given (Ok done) e (loads v slot page b none nor was is others) =
      one_is_set told (told_with told page b) page others (told_there told page b) (body_of b)
      (ready_after (told_with told page b) page b is)
  answers_follow told d ok given (Err why) e (loads v slot page b none nor was is others) = absurd (false≢true e)
  answers_follow told d ok given (Ok done) e (loses v slot page was_ok b out tokens ready) =
      lost_is_set told v slot page b out tokens ready
  answers_follow told d ok given (Err why) e (loses v slot page was_ok b out tokens ready) =
      λ q. same_content q (tokens q) (ready q) told told refl
  answers_follow told d ok given (Ok done) e (writes v slot page victim b token none tokens ready was) =
      one_stays told (told_with told victim b) victim
      (record { tokens = tokens; ready = λ q d. ready q }) (told_there told victim b)
      (
      told_later (told_with told victim b) victim (none_after victim none (had_alone victim b token)) (ready victim ∙ was)
      ∙ ap body_of (told_here told victim b victim refl) ∙ sym (has_before told victim b token)
      )
  answers_follow told d ok given (Err why) e (writes v slot page victim b token none tokens ready was) =
      absurd (false≢true e)
  answers_follow told d ok given (Ok done) e (keeps v slot page victim b token none was is others) =
      absurd (false≢true (sym e))
  answers_follow told d ok given (Err why) e (keeps v slot page victim b token none was is others) =
      one_stays told told victim others (λ q d. refl)
      (ready_after told victim b is ∙ sym (has_before told victim b token))
