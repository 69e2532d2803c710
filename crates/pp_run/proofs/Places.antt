-- A hand that is taken out of its place and put back.
use Rattle.std.proofs.Common.{◌≡◌, ◌∙◌, ℕ, Option, None, Some, List, sym, ap}
use Rattle.std.specs.Prelude.{slice_set}
use Rattle.std.proofs.lemmas.List.{set-set, set-get_or}
use Rattle.pp_vault.specs.declared.stage.Hand.{Hand}
use Rattle.pp_vault.specs.Holding.{placed}
use Rattle.pp_vault.specs.Stages.{put_for, stage_worker}

-- Put back, the places are as they were.
back_again : {T : Type 0} (places : List (Option T)) (w : ℕ) (x : T) → placed places w ≡ Some x
    → slice_set (slice_set places w None) w (Some x) ≡ places
back_again places w x e =
    set-set places w None (Some x) ∙ (ap (λ y. slice_set places w y) (sym e) ∙ set-get_or places w None)

-- So it is where the hand is that of the place's worker.
pub as_before : (old mid new : List (Option Hand)) (w : ℕ) (hand back : Hand) → placed old w ≡ Some hand
    → stage_worker hand.stage ≡ Some w → mid ≡ slice_set old w None → back ≡ hand
    → new ≡ put_for mid back (stage_worker back.stage) → new ≡ old
as_before old mid new w hand back there of taken same put =
    put ∙ (ap (λ h. put_for mid h (stage_worker h.stage)) same ∙ (ap (put_for mid hand) of
    ∙ (ap (λ m. put_for m hand (Some w)) taken ∙ back_again old w hand there)))
