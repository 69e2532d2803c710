-- What a cue leaves, by its line.
use Rattle.std.proofs.Common.{◌≡◌, Bool, true, false, ap}
use Rattle.std.proofs.lemmas.Bool.{false≢true}
use Rattle.pp_model.specs.declared.moves.Move.{Move}
use Rattle.pp_model.specs.declared.reply.Reply.{Reply}
use Rattle.pp_vault.specs.declared.stage.Hand.{Hand}
use Rattle.pp_vault.specs.declared.hands.Hands.{Hands}
use Rattle.pp_vault.specs.Parts.{Parts}
use Rattle.pp_script.specs.declared.cue.Cue.{Cue}
use Rattle.pp_play.specs.declared.line.Line.{Line}
use Rattle.pp_play.specs.declared.line.Line.TheVariants.{Did, Refused, Wrote, Looked, NoLatch}
use Rattle.pp_play.specs.Doing.{LeavesHand}
use Rattle.pp_play.specs.Exact.{Leaves}

-- Whether the line tells of a move that was done.
abbrev pub is_done : Line → Bool
is_done (Did m reply) = true
is_done _ = false

pub hand_done : (old new : Parts) (hand left : Hand) (line : Line) → is_done line ≡ true
    → LeavesHand old hand line new left
hand_done old new hand left (Did m reply) e = tt
hand_done old new hand left (Refused asked why) e = absurd (false≢true e)
hand_done old new hand left Wrote e = absurd (false≢true e)
hand_done old new hand left (Looked byte) e = absurd (false≢true e)
hand_done old new hand left NoLatch e = absurd (false≢true e)

pub all_done : (old new : Parts) (hands left : Hands) (cue : Cue) (line : Line) → is_done line ≡ true
    → Leaves old hands cue line new left
all_done old new hands left cue (Did m reply) e = tt
all_done old new hands left cue (Refused asked why) e = absurd (false≢true e)
all_done old new hands left cue Wrote e = absurd (false≢true e)
all_done old new hands left cue (Looked byte) e = absurd (false≢true e)
all_done old new hands left cue NoLatch e = absurd (false≢true e)

-- The line tells what is done.
module _ (old new : Parts) (line : Line) where
  pub did_leaves : {done : Move × Reply} → line ≡ Did done.0 done.1 → (hand left : Hand)
      → LeavesHand old hand line new left
  did_leaves is hand left = hand_done old new hand left line (ap is_done is)

  pub all_did_leave : {done : Move × Reply} → line ≡ Did done.0 done.1 → (hands left : Hands) (cue : Cue)
      → Leaves old hands cue line new left
  all_did_leave is hands left cue = all_done old new hands left cue line (ap is_done is)

-- Nothing has changed.
pub same_leaves : (old new : Parts) (hand left : Hand) (line : Line) → new ≡ old → left ≡ hand
    → LeavesHand old hand line new left
same_leaves old new hand left (Did m reply) is same = tt
same_leaves old new hand left (Refused asked why) is same = (is, same)
same_leaves old new hand left Wrote is same = (is, ap (λ (h : Hand). h.stage) same)
same_leaves old new hand left (Looked byte) is same = (is, same)
same_leaves old new hand left NoLatch is same = (is, same)
