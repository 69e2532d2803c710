-- The contents of pages, after the calls of a vault and the answers of a device.
use Rattle.std.proofs.Common.{◌≡◌, ◌∙◌, ℕ, Some, List, refl, sym, ap, subst}
use Rattle.std.specs.Prelude.{is_ok}
use Rattle.pp_model.specs.declared.moves.Move.{Move}
use Rattle.pp_model.specs.declared.reply.Reply.{Reply}
use Rattle.pp_model.specs.Pool.{State}
use Rattle.pp_model.specs.Moves.{next_of}
use Rattle.pp_device.specs.Answers.{Answer}
use Rattle.pp_vault.specs.declared.tokens.Duty.{Duty}
use Rattle.pp_vault.specs.declared.tokens.Duty.TheVariants as duty
use Rattle.pp_vault.specs.declared.tokens.Errand.{Errand}
use Rattle.pp_vault.specs.declared.stage.Stage.TheVariants.{Out, Back}
use Rattle.pp_vault.specs.declared.stage.Hand.{Hand}
use Rattle.pp_vault.specs.declared.hands.Hands.{Hands}
use Rattle.pp_vault.specs.Parts.{Parts}
use Rattle.pp_vault.specs.Events.{Tells}
use Rattle.pp_vault.specs.Holding.{placed}
use Rattle.pp_vault.specs.Hands.{StageFits, IsAway}
use Rattle.pp_contents.specs.HandMoves.{HandMoves, call_in}
use Rattle.pp_contents.specs.Told.{told_after}
use Rattle.pp_contents.specs.Content.{content, ContentsStay, victim_of, victim_by}
use Rattle.pp_contents.specs.Agreeing.{Agrees}
use Rattle.pp_contents.specs.ContentLaws.{Held, HandsBack, returned_of, AnswerFollows, GivesBackImage}
use Rattle.pp_contents.proofs.AgreementPlaces.{hand_fits}
use Rattle.pp_contents.proofs.AnswerMoves.{answer_moves}
use Rattle.pp_contents.proofs.ContentPlaces.{hand_stands}
use Rattle.pp_contents.proofs.ContentSteps.{left_there, calls_keep, answers_follow}
use Rattle.pp_contents.proofs.ImageSteps.{SameToken, ImageStep}
use Rattle.pp_contents.proofs.MovesDone.{told_done}
use Rattle.pp_contents.proofs.MovesToSteps.{call_moves}
use Rattle.pp_contents.proofs.StepKinds.{CallStep, AnswerStep, call_step, answer_step, answer_from}
use Rattle.pp_contents.proofs.TokenMoves.{token_stays}
use Rattle.pp_contents.proofs.TokensApart.{Stands, stands_back}

module _ (old new : Parts) (s : State) (hands after : Hands) (told : ℕ → List ℕ) (w : ℕ) (hand left : Hand) (m : Move)
    (reply : Reply) (before : Held old s hands) (there : placed hands.workers w ≡ Some hand)
    (back : HandsBack hands w left after) (later : Held new (next_of s m) after) (agrees : Agrees old s hands told) where
  stands_left : Stands (next_of s m) w left
  stands_left =
      hand_stands new (next_of s m) after later w left
      (left_there old new s (next_of s m) hands after before later w hand left there back)

  -- ---- a call that asks no device

  module _ (moves : HandMoves old hand new left) (said : Tells old (call_in old hand new left moves) (m, reply)) where
    step : CallStep old new s (next_of s m) hand left
    step =
        call_moves old new s w hand left m before.stands later.stands (hand_stands old s hands before w hand there)
        stands_left moves (told_done s (call_in old hand new left moves s) m reply (said s before.stands))
        (λ r e. agrees.answered w hand r there e)

    pub call_image : ImageStep old new s (next_of s m) hand left
    call_image = call_step old new s (next_of s m) hand left step

    pub call_content : ContentsStay (content old s hands told) (content new (next_of s m) after told)
    call_content = calls_keep old new s (next_of s m) hands after before later w hand left there back told agrees step

  -- ---- an errand that is carried out, and its answer

  module _ (errand : Errand) (given : List ℕ) (answer : Answer) (out : hand.stage ≡ Out errand)
      (gives : GivesBackImage errand.duty errand.image given) where
    abbrev pub carried : Hand
    carried = record hand { stage = Back (returned_of errand given answer) }

    away : IsAway old.page_bytes s w errand.duty errand.image
    away =
        subst (StageFits old.page_bytes s w) out (hand_fits old s hands w hand before there).stage

    stands_carried : Stands s w carried
    stands_carried =
        stands_back old.page_bytes s w hand errand.duty given (Back (returned_of errand given answer))
        (hand_fits old s hands w hand before there) away.worker away.out refl (λ q. refl)

    -- It has the images that the hand had before.
    same_victim : (d : Duty) (image : List ℕ) → GivesBackImage d image given → (q : ℕ)
        → victim_of q d given ≡ victim_of q d image
    same_victim (duty.Read v slot page) image is q = refl
    same_victim (duty.Write v slot page victim) image is q =
        ap (victim_of q (duty.Write v slot page victim)) is
    same_victim (duty.Flush page) image is q = refl

    same_images : (q : ℕ) → SameToken hand carried q
    same_images q =
        token_stays hand carried q (same_victim errand.duty errand.image gives q ∙ sym (ap (victim_by q) out)) refl

    module _ (moves : HandMoves old carried new left)
        (said : Tells old (call_in old carried new left moves) (m, reply)) where
      ends : AnswerStep old new s (next_of s m) carried left errand.duty (is_ok answer) given
      ends =
          answer_moves old new s w carried left m before.stands later.stands stands_carried stands_left
          (returned_of errand given answer) refl moves
          (told_done s (call_in old carried new left moves s) m reply (said s before.stands))

      pub answer_image : ImageStep old new s (next_of s m) carried left
      answer_image = answer_step old new s (next_of s m) carried left errand.duty (is_ok answer) given ends

      pub answer_content : AnswerFollows errand.duty answer given (content old s hands told)
          (content new (next_of s m) after (told_after told errand.duty answer given))
      answer_content =
          answers_follow old new s (next_of s m) hands after before later w hand left there back told errand.duty
          (is_ok answer) given answer refl
          (answer_from old new s (next_of s m) hand carried left errand.duty (is_ok answer) given same_images ends)
