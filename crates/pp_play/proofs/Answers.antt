-- How an answer of a device is told to the core.
use Rattle.std.proofs.Common.{◌≡◌, ◌∙◌, ℕ, Bool, true, false, Some, None, List, refl, sym, ap, subst}
use Rattle.std.specs.Prelude.{is_ok, is_some, unwrap_or, if◌then◌else◌}
use Rattle.std.proofs.lemmas.Bool.{false≢true}
use Rattle.pp_model.specs.declared.moves.Move.{Move}
use Rattle.pp_model.specs.declared.reply.Reply.{Reply}
use Rattle.pp_model.specs.Pool.{State}
use Rattle.pp_model.specs.Moves.{reply_of, is_possible}
use Rattle.pp_device.specs.Answers.{Answer}
use Rattle.pp_vault.specs.declared.tokens.Duty.{Duty}
use Rattle.pp_vault.specs.declared.tokens.Duty.TheVariants as duty
use Rattle.pp_vault.specs.declared.tokens.Errand.{Errand}
use Rattle.pp_vault.specs.declared.tokens.Returned.{Returned}
use Rattle.pp_vault.specs.declared.answering.Answered.TheVariants.{Flushed}
use Rattle.pp_vault.specs.declared.stage.Hand.{Hand}
use Rattle.pp_vault.specs.declared.stage.Stage.{Stage}
use Rattle.pp_vault.specs.declared.stage.Stage.TheVariants.{Idle, In, Out, Back, Leaving}
use Rattle.pp_vault.specs.declared.hands.Hands.{Hands}
use Rattle.pp_vault.specs.Parts.{Parts}
use Rattle.pp_vault.specs.StandsFor.{IsKept}
use Rattle.pp_vault.specs.Calls.{asks, stranger, told}
use Rattle.pp_vault.specs.Events.{Tells}
use Rattle.pp_vault.specs.Answers.{duty_call, answer_call, AnswerComesTo, is_read_out, is_write_out, is_flush_out}
use Rattle.pp_vault.specs.Carrying.{CarriesOut}
use Rattle.pp_contents.specs.ContentLaws.{returned_of}
use Rattle.pp_play.specs.declared.line.Line.{Line}
use Rattle.pp_play.specs.declared.line.Line.TheVariants.{Did, Refused, Wrote, Looked, NoLatch}
use Rattle.pp_play.specs.Calling.{tells_answer}
use Rattle.pp_play.specs.Following.{answer_move, errand_at}
use Rattle.pp_play.specs.Moving.{CallsWith, MovesHand, TellsAnswer, DoesWith, EndsFlush}
use Rattle.pp_play.proofs.Carried.{back_hand}
use Rattle.pp_play.proofs.Done.{told_so}

-- ---- the move of a call

-- A call that is answered is the move that it is answered with.
called_move : (s : State) (n m : Move) (r : Reply) (b : Bool)
    → told s (if b then asks n else stranger) ≡ Some (m, r) → m ≡ n
called_move s n m r true e =
    ap (λ (p : Move × Reply). p.0) (sym (told_so (is_possible s n) (n, reply_of s n) (m, r) e))
called_move s n m r false e = absurd (false≢true (ap is_some e))

duty_move : (s : State) (n : ℕ) (d : Duty) (image : List ℕ) (answer : Answer) (m : Move) (r : Reply)
    → told s (duty_call n d image (is_ok answer) s) ≡ Some (m, r) → m ≡ answer_move d image answer
duty_move s n (duty.Read w slot page) image answer m r e =
    called_move s _ m r (is_read_out n w slot page image s) e
duty_move s n (duty.Write w slot page victim) image answer m r e =
    called_move s _ m r (is_write_out n w slot page victim image s) e
duty_move s n (duty.Flush page) image answer m r e = called_move s _ m r (is_flush_out n page image s) e

-- The line of an answer that was taken.
module _ (old new : Parts) (kept : IsKept old) (returned : Returned) (line : Line) {done : Move × Reply}
    (tells : Tells old (answer_call old.page_bytes returned) done) (is : line ≡ Did done.0 done.1) where
  answer_told : done.0 ≡ answer_move returned.duty returned.image returned.answer
  answer_told =
      duty_move kept.state old.page_bytes returned.duty returned.image returned.answer done.0 done.1
      (tells kept.state kept.stands)

  pub tells_it : TellsAnswer returned line
  tells_it = subst (λ l. TellsAnswer returned l) (sym is) answer_told

  pub ends_flush : (clean : Bool) → AnswerComesTo old returned (Flushed clean) new → (hands left : Hands)
      → left ≡ hands → EndsFlush old returned hands line new left
  ends_flush clean comes hands left same =
      subst (λ l. EndsFlush old returned hands l new left) (sym is) ((clean, comes), tells, answer_told, same)

-- ---- an errand that was carried out

pub same_returned : (errand : Errand) (returned : Returned) → returned.duty ≡ errand.duty
    → returned ≡ returned_of errand returned.image returned.answer
same_returned errand returned is =
    ap (λ (d : Duty). record { duty = d; image = returned.image; answer = returned.answer }) is

pub worked : {D : Type 0} (reads : D → ℕ → List ℕ → Answer → List ℕ → D → Type 0)
    (writes : D → ℕ → List ℕ → Answer → D → Type 0) (old new : Parts) (hand left : Hand) (errand : Errand)
    (returned : Returned) (d e : D) (line : Line) → returned.duty ≡ errand.duty
    → CarriesOut reads writes errand.duty d errand.image returned.answer returned.image e
    → MovesHand old (back_hand returned hand.guards) line new left → TellsAnswer returned line
    → tells_answer line ≡ true → DoesWith reads writes (Some errand) old hand d line new left e
worked reads writes old new hand left errand returned d e (Did m r) is made moves tells answers =
    let of : m ≡ answer_move errand.duty returned.image returned.answer =
    tells ∙ ap (λ x. answer_move x returned.image returned.answer) is in (
      returned.image,
      returned.answer,
      r,
      made,
      ap (λ n. Did n r) of,
      subst (λ b. CallsWith old (back_hand b hand.guards) (answer_move errand.duty returned.image returned.answer, r) new left)
          (same_returned errand returned is)
          (subst (λ (n : Move). CallsWith old (back_hand returned hand.guards) (n, r) new left) of moves),
    )
worked reads writes old new hand left errand returned d e (Refused asked why) is made moves tells answers =
    absurd (false≢true answers)
worked reads writes old new hand left errand returned d e Wrote is made moves tells answers =
    absurd (false≢true answers)
worked reads writes old new hand left errand returned d e (Looked byte) is made moves tells answers =
    absurd (false≢true answers)
worked reads writes old new hand left errand returned d e NoLatch is made moves tells answers =
    absurd (false≢true answers)

-- A token that isn't one of an errand that is out.
pub none_at : (x : Stage) → ((errand : Errand) → x ≡ Out errand → ⊥) → errand_at x ≡ None
none_at (Idle chair) isnt = refl
none_at (In session) isnt = refl
none_at (Out errand) isnt = absurd (isnt errand refl)
none_at (Back returned) isnt = refl
none_at (Leaving leaver) isnt = refl

pub out_at : (x : Stage) (errand : Errand) → errand_at x ≡ Some errand → x ≡ Out errand
out_at (Idle chair) errand e = absurd (false≢true (ap is_some e))
out_at (In session) errand e = absurd (false≢true (ap is_some e))
out_at (Out own) errand e = ap (λ o. Out (unwrap_or o own)) e
out_at (Back returned) errand e = absurd (false≢true (ap is_some e))
out_at (Leaving leaver) errand e = absurd (false≢true (ap is_some e))
