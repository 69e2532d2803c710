-- What a worker's call of the vault leaves of the hands.
use Rattle.std.proofs.Common.{◌≡◌, ◌≢◌, ◌∙◌, ℕ, ◌<◌, Bool, true, false, Option, Some, None, List, length, refl, sym, ap}
use Rattle.std.proofs.Common.{subst, arith}
use Rattle.std.specs.Prelude.{◌==◌, slice_set, if◌then◌else◌, unwrap_or, is_some}
use Rattle.std.proofs.lemmas.Bool.{false≢true}
use Rattle.std.proofs.lemmas.Bool.Decides.{nat_tests}
use Rattle.std.proofs.lemmas.List.{get_or-set_same, get_or-set_other}
use Rattle.pp_model.specs.declared.moves.Move.{Move}
use Rattle.pp_model.specs.Pool.{State}
use Rattle.pp_vault.specs.declared.guards.Guard.{Guard}
use Rattle.pp_vault.specs.Parts.{Parts}
use Rattle.pp_vault.specs.StandsFor.{StandsFor, IsKept}
use Rattle.pp_vault.specs.Calls.{Call, asks, stranger, refusal_of}
use Rattle.pp_vault.specs.Events.{Does}
use Rattle.pp_vault.specs.Hands.{PlaceFits}
use Rattle.pp_vault.specs.HandLaws.{caller, OthersStillFit, SlotsStillFit, FlushingStillFits}
use Rattle.pp_vault.specs.Holding.{placed}
use Rattle.pp_script.specs.declared.cue.Cue.{Cue}
use Rattle.pp_play.specs.declared.line.Line.{Line}
use Rattle.pp_play.specs.declared.line.Line.TheVariants.{Did}
use Rattle.pp_model.specs.declared.reply.Reply.{Reply}
use Rattle.pp_play.specs.Doing.{LeavesOthers}
use Rattle.pp_play.specs.Exact.{refusal_to, IsLineOf}

-- What a vault tells of the hands that its calls leave.
pub record StillFits : Type 0 where
  pub others : OthersStillFit
  pub slots : SlotsStillFit
  pub flushing : FlushingStillFits

pub still_fits : OthersStillFit → SlotsStillFit → FlushingStillFits → StillFits
still_fits others slots flushing = record { others = others; slots = slots; flushing = flushing }

same_worker : (v w : ℕ) → ◌≡◌ {A = Option ℕ} (Some v) (Some w) → w ≡ v
same_worker v w e = sym (ap (λ o. unwrap_or o v) e)

-- A call that isn't refused is the move that it may be.
pub asked_so : (s : State) (b : Bool) (m : Move) → refusal_of s (if b then asks m else stranger) ≡ None → b ≡ true
asked_so s true m e = refl
asked_so s false m e = absurd (false≢true (sym (ap is_some e)))

-- The hands of all others, and the flusher's token, are left by a call of worker w.
pub leaves_others : StillFits → (old new : Parts) (call : State → Call) (w : ℕ) → IsKept old → Does old call new
    → ((s : State) → StandsFor old s → caller (call s) ≡ Some w) → LeavesOthers old w new
leaves_others still old new call w kept does by =
    record {
      hands = λ v apart hand fits.
          still.others old new call kept does v (λ s st e. apart (same_worker w v (sym (by s st) ∙ e))) hand fits;
      flushing = λ flushing fits. still.flushing old new call kept does w by flushing fits;
    }

-- So they are where nothing has changed.
pub nothing_changed : (v : Parts) (w : ℕ) → LeavesOthers v w v
nothing_changed v w = record { hands = λ u apart hand fits. fits; flushing = λ flushing fits. fits }

-- ---- the places of guards

-- A place that gets a guard which fits, where the others fit.
module _ (n : ℕ) (s : State) (w : ℕ) (places : List (Option Guard)) (slot : ℕ) (guard : Option Guard)
    (low : slot < length places) (here : PlaceFits n s w slot guard)
    (there : (k : ℕ) → k ≢ slot → PlaceFits n s w k (placed places k)) where
  by_place : (k : ℕ) (b : Bool) → (k == slot) ≡ b → PlaceFits n s w k (placed (slice_set places slot guard) k)
  by_place k true e =
      let same : slot ≡ k = grind (arith, nat_tests) in
      subst (λ i. PlaceFits n s w i (placed (slice_set places slot guard) i)) same
      (subst (λ o. PlaceFits n s w slot o) (sym (get_or-set_same places slot guard None low)) here)
  by_place k false e =
      let apart : k ≢ slot = grind (arith, nat_tests) in
      subst (λ o. PlaceFits n s w k o) (sym (get_or-set_other places slot k guard None apart)) (there k apart)

  pub place_set : (k : ℕ) → PlaceFits n s w k (placed (slice_set places slot guard) k)
  place_set k = by_place k (k == slot) refl

-- ---- the line of what is done

pub did_line : (old new : Parts) (cue : Cue) (line : Line) {done : Move × Reply} → line ≡ Did done.0 done.1
    → (s : State) → (was now : List (Option Guard)) → refusal_to s cue ≡ None → IsLineOf old s was now cue line
did_line old new cue line is s was now allowed = subst (λ l. IsLineOf old s was now cue l) (sym is) allowed
