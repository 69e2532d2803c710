-- The length of a page, and what the flusher has, through each cue.
use Rattle.std.proofs.Common.{◌≡◌, ℕ, Bool, false, Some, List, sym, ap}
use Rattle.std.specs.Option.{is_some}
use Rattle.std.proofs.lemmas.Bool.{false≢true}
use Rattle.pp_model.specs.Pool.{State}
use Rattle.pp_vault.specs.declared.answering.Answered.{Answered}
use Rattle.pp_vault.specs.declared.answering.Answered.TheVariants as answered
use Rattle.pp_vault.specs.declared.fixing.Fixed.{Fixed}
use Rattle.pp_vault.specs.declared.fixing.Fixed.TheVariants as fixed
use Rattle.pp_vault.specs.declared.guards.Guard.{Guard}
use Rattle.pp_vault.specs.declared.guards.Guard.TheVariants as guard
use Rattle.pp_vault.specs.declared.tokens.Duty.{Duty}
use Rattle.pp_vault.specs.declared.tokens.Duty.TheVariants as duty
use Rattle.pp_vault.specs.declared.tokens.Leaver.{Leaver}
use Rattle.pp_vault.specs.declared.tokens.Returned.{Returned}
use Rattle.pp_vault.specs.declared.tokens.Session.{Session}
use Rattle.pp_vault.specs.declared.stage.Hand.{Hand}
use Rattle.pp_vault.specs.declared.hands.Hands.{Hands}
use Rattle.pp_vault.specs.Parts.{Parts}
use Rattle.pp_vault.specs.Answers.{DutyEnds, AnswerComesTo}
use Rattle.pp_vault.specs.Fixes.{FixAnswers}
use Rattle.pp_vault.specs.Leaves.{GivesBack}
use Rattle.pp_contents.specs.HandMoves as done
use Rattle.pp_contents.specs.HandMoves.{HandMoves, HasFixed, HasAnswer}
use Rattle.pp_script.specs.declared.cue.Cue.{Cue}
use Rattle.pp_script.specs.declared.cue.Cue.TheVariants as cue
use Rattle.pp_play.specs.declared.line.Line.{Line}
use Rattle.pp_play.specs.declared.line.Line.TheVariants.{Did, Refused, Wrote, Looked, NoLatch}
use Rattle.pp_play.specs.Doing.{cue_worker}
use Rattle.pp_play.specs.Following.{FlusherFollows}
use Rattle.pp_play.specs.Moving.{tells_move}

-- ---- the length of a page

module _ (old new : Parts) where
  abbrev Steady : Type 0
  Steady = new.page_bytes ≡ old.page_bytes

  pub duty_steady : (x : Duty) (image : List ℕ) (ok : Bool) (out : Answered) → DutyEnds old x image ok out new → Steady
  duty_steady (duty.Read w slot page) image ok (answered.Got session guard) ends = ends.0.page_bytes
  duty_steady (duty.Read w slot page) image ok (answered.Opened session guard) ends = ends.0.page_bytes
  duty_steady (duty.Read w slot page) image ok (answered.Joined session) ends = ends.0.page_bytes
  duty_steady (duty.Read w slot page) image ok (answered.Lost leaver) ends = ends.0.page_bytes
  duty_steady (duty.Read w slot page) image ok (answered.Away errand) ends = absurd ends
  duty_steady (duty.Read w slot page) image ok (answered.Flushed clean) ends = absurd ends
  duty_steady (duty.Write w slot page victim) image ok (answered.Got session guard) ends = absurd ends
  duty_steady (duty.Write w slot page victim) image ok (answered.Opened session guard) ends = absurd ends
  duty_steady (duty.Write w slot page victim) image ok (answered.Joined session) ends = absurd ends
  duty_steady (duty.Write w slot page victim) image ok (answered.Lost leaver) ends = ends.1.page_bytes
  duty_steady (duty.Write w slot page victim) image ok (answered.Away errand) ends = ends.1.page_bytes
  duty_steady (duty.Write w slot page victim) image ok (answered.Flushed clean) ends = absurd ends
  duty_steady (duty.Flush page) image ok (answered.Got session guard) ends = absurd ends
  duty_steady (duty.Flush page) image ok (answered.Opened session guard) ends = absurd ends
  duty_steady (duty.Flush page) image ok (answered.Joined session) ends = absurd ends
  duty_steady (duty.Flush page) image ok (answered.Lost leaver) ends = absurd ends
  duty_steady (duty.Flush page) image ok (answered.Away errand) ends = absurd ends
  duty_steady (duty.Flush page) image ok (answered.Flushed clean) ends = ends.does.page_bytes

  answer_steady : (hand left : Hand) (returned : Returned) (out : Answered) → AnswerComesTo old returned out new
      → HasAnswer hand out left → Steady
  answer_steady hand left returned (answered.Got session guard) ends has = duty_steady _ _ _ _ ends
  answer_steady hand left returned (answered.Opened session guard) ends has = duty_steady _ _ _ _ ends
  answer_steady hand left returned (answered.Joined session) ends has = duty_steady _ _ _ _ ends
  answer_steady hand left returned (answered.Lost leaver) ends has = duty_steady _ _ _ _ ends
  answer_steady hand left returned (answered.Away errand) ends has = duty_steady _ _ _ _ ends
  answer_steady hand left returned (answered.Flushed clean) ends has = absurd has

  fix_steady : (hand left : Hand) (x : Session) (page : ℕ) (out : Fixed) → FixAnswers old x page out new
      → HasFixed hand out left → Steady
  fix_steady hand left x page (fixed.Got session guard) ends has = ends.0.page_bytes
  fix_steady hand left x page (fixed.Opened session guard) ends has = ends.0.page_bytes
  fix_steady hand left x page (fixed.Joined session) ends has = ends.0.page_bytes
  fix_steady hand left x page (fixed.Away errand) ends has = ends.0.page_bytes

  give_steady : (x y : Leaver) (g : Guard) → GivesBack old x g new y → Steady
  give_steady x y (guard.Pin g) gives = gives.still.does.page_bytes
  give_steady x y (guard.Read g) gives = gives.still.does.page_bytes
  give_steady x y (guard.Write g) gives = gives.still.does.page_bytes
  give_steady x y (guard.Bundle g) gives = gives.still.does.page_bytes

  pub hand_steady : (hand left : Hand) → HandMoves old hand new left → Steady
  hand_steady hand left (done.takes chair session at does stay now) = does.page_bytes
  hand_steady hand left (done.chooses session now branch at does stay is) = does.page_bytes
  hand_steady hand left (done.finishes session chair at does stay is) = does.page_bytes
  hand_steady hand left (done.ends leaver chair at does stay is) = does.page_bytes
  hand_steady hand left (done.fixes session page out at ends has) = fix_steady hand left session page out ends has
  hand_steady hand left (done.answers returned out at ends has) = answer_steady hand left returned out ends has
  hand_steady hand left (done.unfixes session now slot g at there uses is) = uses.does.page_bytes
  hand_steady hand left (done.scatters session now slot g at there uses is) = uses.does.page_bytes
  hand_steady hand left (done.latches_shared session now slot g latched at there uses is) = uses.does.page_bytes
  hand_steady hand left (done.latches_exclusive session now slot g latched at there uses is) = uses.does.page_bytes
  hand_steady hand left (done.unlatches_shared session now slot g pinned at there uses is) = uses.does.page_bytes
  hand_steady hand left (done.unlatches_exclusive session now slot g pinned at there uses is) = uses.does.page_bytes
  hand_steady hand left (done.gives_back leaver now slot g at there gives is) = give_steady leaver now g gives

-- ---- the flusher

module _ (v : Parts) (s : State) (hands left : Hands) (same : left.flushing ≡ hands.flushing) where
  -- A cue that isn't done leaves the flusher's errand.
  pub quiet_flusher : (q : Cue) (line : Line) → tells_move line ≡ false → FlusherFollows v s hands q line left
  quiet_flusher q (Did m r) not = absurd (false≢true (sym not))
  quiet_flusher (cue.Flush page) (Refused asked why) not = same
  quiet_flusher (cue.Flush page) Wrote not = same
  quiet_flusher (cue.Flush page) (Looked byte) not = same
  quiet_flusher (cue.Flush page) NoLatch not = same
  quiet_flusher cue.FlushDevice (Refused asked why) not = same
  quiet_flusher cue.FlushDevice Wrote not = same
  quiet_flusher cue.FlushDevice (Looked byte) not = same
  quiet_flusher cue.FlushDevice NoLatch not = same
  quiet_flusher q line not = same

  -- A worker's cue leaves it.
  pub worker_flusher : (q : Cue) (line : Line) (w : ℕ) → cue_worker q ≡ Some w → FlusherFollows v s hands q line left
  worker_flusher (cue.Flush page) line w of = absurd (false≢true (ap is_some of))
  worker_flusher cue.FlushDevice line w of = absurd (false≢true (ap is_some of))
  worker_flusher q line w of = same
