-- Hands after a call: where it is refused all stays, and where it is done so do the others and the slots that it leaves.
use Rattle.std.proofs.Common.{◌≡◌, ◌≢◌, ◌∙◌, ℕ, ◌<◌, Bool, true, false, Option, Some, None, List, length, nat_eq, arith}
use Rattle.std.proofs.Common.{refl, sym, ap, subst}
use Rattle.std.specs.Prelude.{slice_set}
use Rattle.std.proofs.lemmas.Bool.Decides.{nat_tests}
use Rattle.std.proofs.lemmas.List.{length-set, get_or-set_same, get_or-set_other}
use Rattle.pp_model.specs.declared.moves.Move.{Move}
use Rattle.pp_model.specs.declared.reply.Reply.{Reply}
use Rattle.pp_model.specs.Pool.{State}
use Rattle.pp_model.specs.Moves.{reply_of}
use Rattle.pp_model.specs.WorkerParts.{worker_of}
use Rattle.pp_vault.specs.declared.refusal.Refusal.{Refusal}
use Rattle.pp_vault.specs.declared.guards.Guard.{Guard}
use Rattle.pp_vault.specs.declared.stage.Stage.{Stage}
use Rattle.pp_vault.specs.declared.stage.Hand.{Hand}
use Rattle.pp_vault.specs.Parts.{Parts}
use Rattle.pp_vault.specs.StandsFor.{StandsFor, IsKept}
use Rattle.pp_vault.specs.Calls.{Call, asks, refusal_in, refusal_of}
use Rattle.pp_vault.specs.Events.{Does}
use Rattle.pp_vault.specs.Hands.{StageFits, PlaceFits}
use Rattle.pp_vault.specs.HandLaws.{caller, FitsIn, LeavesSlot, OthersStillFit, SlotsStillFit, FlushingStillFits}
use Rattle.pp_vault.specs.Holding.{placed}
use Rattle.pp_script.specs.declared.cue.Cue.{Cue}
use Rattle.pp_play.specs.declared.line.Line.{Line}
use Rattle.pp_play.specs.declared.line.Line.TheVariants.{Did, Refused}
use Rattle.pp_play.specs.Plays.{IsMoveOf}
use Rattle.pp_play.specs.Exact.{refusal_to, IsLineOf}
use Rattle.pp_play.specs.Doing.{IsDone, LeavesOthers, HandPlays}
use Rattle.pp_play.specs.Guarding.{hand_of}
use Rattle.pp_play.proofs.Asked.{same}
use Rattle.pp_play.proofs.Others.{nothing_changed}

-- ---- refused

pub refused_plays : (old new : Parts) → new ≡ old → (w : ℕ) (hand : Hand) (cue : Cue) (why : Refusal)
    → FitsIn old w hand → ((s : State) → StandsFor old s → refusal_to s cue ≡ Some why)
    → HandPlays old w hand cue (Refused cue why) new hand
refused_plays old new unchanged w hand cue why fits refuses =
    subst (λ v. HandPlays old w hand cue (Refused cue why) v hand) (sym unchanged)
    (record { exact = refuses; leaves = (refl, refl); fit = fits; others = nothing_changed old w })

-- ---- done

-- What the vault promises of hands.
pub record StillFit : Type 0 where
  pub others : OthersStillFit
  pub slots : SlotsStillFit
  pub flushing : FlushingStillFits

-- A call that is this move of worker w.
module _ (laws : StillFit) (old new : Parts) (call : State → Call) (kept : IsKept old) (does : Does old call new) (w : ℕ) (m : Move)
    (of : worker_of m ≡ Some w) (calls : (s : State) → StandsFor old s → call s ≡ asks m) where
  by : (s : State) → StandsFor old s → caller (call s) ≡ Some w
  by s st = ap caller (calls s st) ∙ of

  apart : (v : ℕ) → v ≢ w → (s : State) → StandsFor old s → caller (call s) ≢ Some v
  apart v d s st e = d (same v w (sym e ∙ by s st))

  pub others_fit : LeavesOthers old w new
  others_fit =
      record {
        hands = λ v d hand fits. laws.others old new call kept does v (apart v d) hand fits;
        flushing = λ f fits. laws.flushing old new call kept does w by f fits;
      }

  pub allowed : (s : State) → StandsFor old s → refusal_in (reply_of s m) ≡ None
  allowed s st = subst (λ c. refusal_of s c ≡ None) (calls s st) (does.allowed s st)

  place_stays : (k : ℕ) (o : Option Guard) → ((s : State) → StandsFor old s → LeavesSlot s (asks m) w k)
      → ((s : State) → StandsFor old s → PlaceFits old.page_bytes s w k o)
      → (s : State) → StandsFor new s → PlaceFits new.page_bytes s w k o
  place_stays k o leaves fits =
      laws.slots old new call kept does w k
      (λ s st. subst (λ c. LeavesSlot s c w k) (sym (calls s st)) (leaves s st)) o fits

  module _ (stage now : Stage) (places : List (Option Guard)) (fits : FitsIn old w (hand_of stage places))
      (token : (s : State) → StandsFor new s → StageFits new.page_bytes s w now) where
    -- Every slot is left.
    pub all_fit : ((s : State) → StandsFor old s → (k : ℕ) → LeavesSlot s (asks m) w k)
        → FitsIn new w (hand_of now places)
    all_fit leaves s st =
        record {
          stage = token s st;
          places = (fits kept.state kept.stands).places;
          guards = λ k.
              place_stays k (placed places k) (λ t u. leaves t u k) (λ t u. (fits t u).guards k) s st;
        }

    -- Every slot but one is left, and this is in that one's place.
    module _ (slot : ℕ) (o : Option Guard) (low : slot < 32)
        (there : (s : State) → StandsFor new s → PlaceFits new.page_bytes s w slot o)
        (leaves : (s : State) → StandsFor old s → (k : ℕ) → k ≢ slot → LeavesSlot s (asks m) w k) where
      long : length places ≡ 32
      long = (fits kept.state kept.stands).places

      place_fits : (s : State) → StandsFor new s → (k : ℕ) (b : Bool) → nat_eq k slot ≡ b
          → PlaceFits new.page_bytes s w k (placed (slice_set places slot o) k)
      place_fits s st k true e =
          let at : k ≡ slot = grind (arith, nat_tests) in
          let within : slot < length places = omega (arith, low, long) in
          subst (λ j. PlaceFits new.page_bytes s w j (placed (slice_set places slot o) j)) (sym at)
          (subst (λ p. PlaceFits new.page_bytes s w slot p) (sym (get_or-set_same places slot o None within)) (there s st))
      place_fits s st k false e =
          let off : k ≢ slot = grind (arith, nat_tests) in
          subst (λ p. PlaceFits new.page_bytes s w k p) (sym (get_or-set_other places slot k o None off))
          (place_stays k (placed places k) (λ t u. leaves t u k off) (λ t u. (fits t u).guards k) s st)

      pub one_fits : FitsIn new w (hand_of now (slice_set places slot o))
      one_fits s st =
          record {
            stage = token s st;
            places = length-set places slot o ∙ long;
            guards = λ k. place_fits s st k (nat_eq k slot) refl;
          }

-- The line of a cue that is done: nothing refuses it.
module _ (old new : Parts) (cue : Cue) (line : Line) {done : Move × Reply} (is_done : IsDone old cue done new)
    (tells : line ≡ Did done.0 done.1) (m : Move)
    (only : (n : Move) → IsMoveOf cue n → n ≡ m)
    (refusal : (s : State) → refusal_to s cue ≡ refusal_in (reply_of s m)) where
  pub line_fits : (before after : List (Option Guard)) (s : State) → StandsFor old s
      → IsLineOf old s before after cue line
  line_fits before after s st =
      subst (λ l. IsLineOf old s before after cue l) (sym tells)
      (refusal s ∙ subst (λ n. refusal_in (reply_of s n) ≡ None) (only done.0 is_done.asked)
      (ap refusal_in (is_done.replies s st) ∙ is_done.allowed))
