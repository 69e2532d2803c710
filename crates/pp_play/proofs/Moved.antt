-- What lines say of the hand whose tokens a call of the vault was done with.
use Rattle.std.proofs.Common.{◌≡◌, ◌∙◌, ℕ, true, Option, Some, None, List, refl, sym, ap, subst}
use Rattle.std.specs.Prelude.{slice_set}
use Rattle.std.proofs.lemmas.Bool.{false≢true}
use Rattle.pp_model.specs.declared.moves.Move.{Move}
use Rattle.pp_model.specs.declared.reply.Reply.{Reply}
use Rattle.pp_model.specs.Pool.{State}
use Rattle.pp_vault.specs.declared.refusal.Refusal.{Refusal}
use Rattle.pp_vault.specs.declared.tokens.Session.{Session}
use Rattle.pp_vault.specs.declared.guards.PinGuard.{PinGuard}
use Rattle.pp_vault.specs.declared.guards.Guard.{Guard}
use Rattle.pp_vault.specs.declared.guards.Guard.TheVariants.{Pin, Read, Write, Bundle}
use Rattle.pp_vault.specs.declared.stage.Hand.{Hand}
use Rattle.pp_vault.specs.declared.stage.Stage.{Stage}
use Rattle.pp_vault.specs.declared.stage.Stage.TheVariants.{In}
use Rattle.pp_vault.specs.Parts.{Parts}
use Rattle.pp_vault.specs.Holding.{placed, slot_by}
use Rattle.pp_contents.specs.HandMoves.{latches_shared, latches_exclusive, unlatches_shared, unlatches_exclusive}
use Rattle.pp_script.specs.declared.cue.Cue.{Cue}
use Rattle.pp_script.specs.declared.cue.Cue.TheVariants as cue
use Rattle.pp_play.specs.declared.line.Line.{Line}
use Rattle.pp_play.specs.declared.line.Line.TheVariants.{Did, Refused, Wrote, Looked, NoLatch}
use Rattle.pp_play.specs.Plays.{asks_byte, Tells}
use Rattle.pp_play.specs.Guarding.{hand_of}
use Rattle.pp_play.specs.Moving.{CallsWith, MovesHand, LatchesWith, UnlatchesWith}

-- ---- lines

-- It tells the move of the call that was done.
pub did_moves : (old new : Parts) (hand left : Hand) (line : Line) {done : Move × Reply} → line ≡ Did done.0 done.1
    → CallsWith old hand done new left → MovesHand old hand line new left
did_moves old new hand left line is calls = subst (λ l. MovesHand old hand l new left) (sym is) calls

-- A line that refuses tells of none.
pub refused_moves : (old new : Parts) (hand left : Hand) (cue : Cue) (why : Refusal) (line : Line)
    → line ≡ Refused cue why → MovesHand old hand line new left
refused_moves old new hand left cue why line is = subst (λ l. MovesHand old hand l new left) (sym is) tt

-- ---- hands

-- Which record the hand is makes no difference.
pub moves_of : (old new : Parts) (hand : Hand) (line : Line) (left : Hand) (stage : Stage) → hand.stage ≡ stage
    → MovesHand old (hand_of stage hand.guards) line new left → MovesHand old hand line new left
moves_of old new hand line left stage is h =
    subst (λ x. MovesHand old (hand_of x hand.guards) line new left) (sym is) h

-- ---- latches

module _ (old new : Parts) (x y : Session) (places : List (Option Guard)) (slot : ℕ) (done : Move × Reply) where
  abbrev Left : Guard → Type 0
  Left h =
      CallsWith old (hand_of (In x) places) done new
      (hand_of (In y) (slice_set (slice_set places slot None) slot (Some h)))

  pub latch_moves : (g : PinGuard) (h : Guard) → placed places slot ≡ Some (Pin g) → LatchesWith old x g done new y h
      → Left h
  latch_moves g (Pin h) at did = absurd did
  latch_moves g (Read h) at did = (latches_shared x y slot g h refl at did.0 refl, did.1)
  latch_moves g (Write h) at did = (latches_exclusive x y slot g h refl at did.0 refl, did.1)
  latch_moves g (Bundle h) at did = absurd did

  pub unlatch_moves : (g : Guard) (h : PinGuard) → placed places slot ≡ Some g → UnlatchesWith old x g done new y h
      → Left (Pin h)
  unlatch_moves (Pin g) h at did = absurd did
  unlatch_moves (Read g) h at did = (unlatches_shared x y slot g h refl at did.0 refl, did.1)
  unlatch_moves (Write g) h at did = (unlatches_exclusive x y slot g h refl at did.0 refl, did.1)
  unlatch_moves (Bundle g) h at did = absurd did

-- A guard is put where one was taken out.
pub put_there : (places taken now : List (Option Guard)) (slot : ℕ) (h : Guard)
    → taken ≡ slice_set places slot None → slot_by h ≡ slot → now ≡ slice_set taken (slot_by h) (Some h)
    → now ≡ slice_set (slice_set places slot None) slot (Some h)
put_there places taken now slot h gone of is =
    is ∙ ap (λ n. slice_set taken n (Some h)) of ∙ ap (λ ps. slice_set ps slot (Some h)) gone

-- ---- bytes

-- A cue that writes a byte or looks at one does no move.
pub byte_moves : (old new : Parts) (hand left : Hand) (q : Cue) (line : Line) (s t : State) → asks_byte q ≡ true
    → Tells s q line t → MovesHand old hand line new left
byte_moves old new hand left (cue.Write w slot byte) (Did m r) s t e tells = absurd tells.0
byte_moves old new hand left (cue.Look w slot) (Did m r) s t e tells = absurd tells.0
byte_moves old new hand left q (Did m r) s t e tells = absurd (false≢true e)
byte_moves old new hand left q (Refused asked why) s t e tells = tt
byte_moves old new hand left q Wrote s t e tells = tt
byte_moves old new hand left q (Looked byte) s t e tells = tt
byte_moves old new hand left q NoLatch s t e tells = tt
