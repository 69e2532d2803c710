-- What a call of a worker leaves of hands that fit.
use Rattle.std.proofs.Common.{◌≡◌, ◌∙◌, ℕ, Bool, true, false, Option, Some, None, refl, sym, ap, subst, rules}
use Rattle.std.specs.Prelude.{if◌then◌else◌, unwrap_or}
use Rattle.pp_model.specs.declared.moves.Move.{Move}
use Rattle.pp_model.specs.Pool.{State}
use Rattle.pp_model.specs.WorkerParts.{worker_of}
use Rattle.pp_vault.specs.declared.refusal.Refusal.{Refusal}
use Rattle.pp_vault.specs.declared.stage.Stage.{Stage}
use Rattle.pp_vault.specs.declared.stage.Hand.{Hand}
use Rattle.pp_vault.specs.Parts.{Parts}
use Rattle.pp_vault.specs.StandsFor.{StandsFor, IsKept}
use Rattle.pp_vault.specs.Calls.{Call, stranger, asks, refusal_of}
use Rattle.pp_vault.specs.Events.{Does}
use Rattle.pp_vault.specs.Hands.{StageFits}
use Rattle.pp_vault.specs.HandLaws.{caller, FitsIn, LeavesSlot, OthersStillFit, SlotsStillFit, FlushingStillFits}
use Rattle.pp_vault.specs.Holding.{placed}
use Rattle.pp_script.specs.declared.cue.Cue.{Cue}
use Rattle.pp_play.specs.declared.line.Line.{Line}
use Rattle.pp_play.specs.declared.line.Line.TheVariants.{Refused}
use Rattle.pp_play.specs.Exact.{refusal_to, IsLineOf}
use Rattle.pp_play.specs.Doing.{LeavesOthers, HandPlays}
use Rattle.pp_play.proofs.Leaves.{same_leaves}
use Rattle.pp_play.proofs.Others.{nothing_changed}

-- ---- a call that is refused, and a cue for which none is made

-- The line tells the refusal, and all is as it was.
pub refused_plays : (old new : Parts) → new ≡ old → (w : ℕ) (hand left : Hand) (cue : Cue) (line : Line) (why : Refusal)
    → left ≡ hand → line ≡ Refused cue why → ((s : State) → StandsFor old s → refusal_to s cue ≡ Some why)
    → FitsIn old w hand → HandPlays old w hand cue line new left
refused_plays old new unchanged w hand left cue line why same is exact fits =
    subst (λ v. HandPlays old w hand cue line v left) (sym unchanged)
    (record {
      exact = λ s st. subst (λ l. IsLineOf old s hand.guards left.guards cue l) (sym is) (exact s st);
      leaves = same_leaves old old hand left line refl same;
      fit = subst (λ h. FitsIn old w h) (sym same) fits;
      others = nothing_changed old w;
    })

-- The hand with a token that came back.
pub hand_back : (hand : Hand) (x y : Stage) → hand.stage ≡ y → x ≡ y
    → ◌≡◌ {A = Hand} (record { stage = x; guards = hand.guards }) hand
hand_back hand x y is same = ap (λ z. record { stage = z; guards = hand.guards }) (same ∙ sym is)

-- ---- a call that is done

-- A call that isn't refused is the move that it may be.
pub is_asked : (s : State) (b : Bool) (m : Move) → refusal_of s (if b then asks m else stranger) ≡ None → b ≡ true
is_asked s true m e = refl
is_asked s false m e = absurd (search rules)

pub called_by : (s : State) (b : Bool) (m : Move) (w : ℕ) → refusal_of s (if b then asks m else stranger) ≡ None
    → worker_of m ≡ Some w → caller (if b then asks m else stranger) ≡ Some w
called_by s true m w e of = of
called_by s false m w e of = absurd (search rules)

same_worker : (v w : ℕ) → ◌≡◌ {A = Option ℕ} (Some w) (Some v) → v ≡ w
same_worker v w e = ap (λ o. unwrap_or o v) (sym e)

-- What holds of hands whatever is called.
pub record Laws : Type 0 where
  pub others : OthersStillFit
  pub slots : SlotsStillFit
  pub flushing : FlushingStillFits

module _ (laws : Laws) (old new : Parts) (call : State → Call) (kept : IsKept old) (does : Does old call new)
    (w : ℕ) where
  pub others_left : ((s : State) → StandsFor old s → caller (call s) ≡ Some w) → LeavesOthers old w new
  others_left by =
      record {
        hands = λ v apart hand fits.
            laws.others old new call kept does v
            (λ s st e. apart (same_worker v w (sym (by s st) ∙ e))) hand fits;
        flushing = λ flushing fits. laws.flushing old new call kept does w by flushing fits;
      }

  -- The guards stay, and the token is another.
  pub guards_left : (hand : Hand) → FitsIn old w hand
      → ((s : State) → StandsFor old s → (slot : ℕ) → LeavesSlot s (call s) w slot) → (stage : Stage)
      → ((t : State) → StandsFor new t → StageFits new.page_bytes t w stage)
      → FitsIn new w (record { stage = stage; guards = hand.guards })
  guards_left hand fits leaves stage now t st =
      record {
        stage = now t st;
        places = (fits kept.state kept.stands).places;
        guards = λ slot.
            laws.slots old new call kept does w slot (λ s a. leaves s a slot) (placed hand.guards slot)
            (λ s a. (fits s a).guards slot) t st;
      }
