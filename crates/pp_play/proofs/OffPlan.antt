-- Cues of a worker that its plan doesn't let it play, with a hand that fits.
use Rattle.std.proofs.Common.{◌≡◌, ◌∙◌, ℕ, false, Some, None, refl, sym, ap, subst}
use Rattle.pp_plan.specs.declared.mode.Mode.{Mode}
use Rattle.pp_plan.specs.declared.action.Ask.{Ask}
use Rattle.pp_plan.specs.declared.action.Ask.TheVariants as ask
use Rattle.pp_model.specs.declared.refusals.Cause.{Cause}
use Rattle.pp_model.specs.declared.refusals.Cause.TheVariants.{NotActing, NotAsked, NotLeaving, NotHeld}
use Rattle.pp_model.specs.Pool.{State}
use Rattle.pp_model.specs.Fixing.{fix_asked, fix_slot}
use Rattle.pp_model.specs.Using.{unfix_asked, latch_asked, unlatch_asked}
use Rattle.pp_model.specs.Moves.{asked_by}
use Rattle.pp_vault.specs.declared.refusal.Refusal.TheVariants.{OffPlan}
use Rattle.pp_vault.specs.declared.tokens.Session.{Session}
use Rattle.pp_vault.specs.declared.tokens.Leaver.{Leaver}
use Rattle.pp_vault.specs.declared.stage.Hand.{Hand}
use Rattle.pp_vault.specs.declared.stage.Stage.{Stage}
use Rattle.pp_vault.specs.declared.stage.Stage.TheVariants.{Idle, In, Out, Back, Leaving}
use Rattle.pp_vault.specs.Calls.{refusal_in}
use Rattle.pp_vault.specs.Parts.{Parts}
use Rattle.pp_vault.specs.StandsFor.{StandsFor}
use Rattle.pp_vault.specs.Fits.{IsEmpty}
use Rattle.pp_vault.specs.Hands.{PlaceFits}
use Rattle.pp_vault.specs.HandLaws.{FitsIn}
use Rattle.pp_vault.specs.Holding.{placed}
use Rattle.pp_script.specs.declared.cue.Cue.{Cue}
use Rattle.pp_script.specs.declared.cue.Cue.TheVariants as cue
use Rattle.pp_play.specs.declared.line.Line.{Line}
use Rattle.pp_play.specs.declared.line.Line.TheVariants.{Refused}
use Rattle.pp_play.specs.Exact.{refusal_to}
use Rattle.pp_play.specs.Doing.{HandPlays}
use Rattle.pp_play.specs.Guarding.{hand_of}
use Rattle.pp_play.proofs.Seats.{is_session, is_leaver, is_unfix, is_latch, is_unlatch, not_acting, unfix_unasked}
use Rattle.pp_play.proofs.Seats.{latch_unasked, unlatch_unasked, not_leaving, not_held}
use Rattle.pp_play.proofs.StillFitting.{refused_plays}

-- ---- what isn't

no_session : (t : Stage) → ((x : Session) → t ≡ In x → ⊥) → is_session t ≡ false
no_session (Idle chair) isnt = refl
no_session (In session) isnt = absurd (isnt session refl)
no_session (Out errand) isnt = refl
no_session (Back returned) isnt = refl
no_session (Leaving leaver) isnt = refl

no_leaver : (t : Stage) → ((x : Leaver) → t ≡ Leaving x → ⊥) → is_leaver t ≡ false
no_leaver (Idle chair) isnt = refl
no_leaver (In session) isnt = refl
no_leaver (Out errand) isnt = refl
no_leaver (Back returned) isnt = refl
no_leaver (Leaving leaver) isnt = absurd (isnt leaver refl)

no_unfix : (a : Ask) → ((slot : ℕ) → a ≡ ask.Unfix slot → ⊥) → ((slot : ℕ) → a ≡ ask.Scatter slot → ⊥)
    → is_unfix a ≡ false
no_unfix (ask.Fix slot region) isnt other = refl
no_unfix (ask.Unfix slot) isnt other = absurd (isnt slot refl)
no_unfix (ask.Latch slot m) isnt other = refl
no_unfix (ask.Unlatch slot) isnt other = refl
no_unfix (ask.Gather of region) isnt other = refl
no_unfix (ask.Scatter of) isnt other = absurd (other of refl)
no_unfix (ask.Choose count) isnt other = refl
no_unfix ask.End isnt other = refl

no_latch : (a : Ask) → ((slot : ℕ) (m : Mode) → a ≡ ask.Latch slot m → ⊥) → is_latch a ≡ false
no_latch (ask.Fix slot region) isnt = refl
no_latch (ask.Unfix slot) isnt = refl
no_latch (ask.Latch slot m) isnt = absurd (isnt slot m refl)
no_latch (ask.Unlatch slot) isnt = refl
no_latch (ask.Gather of region) isnt = refl
no_latch (ask.Scatter of) isnt = refl
no_latch (ask.Choose count) isnt = refl
no_latch ask.End isnt = refl

no_unlatch : (a : Ask) → ((slot : ℕ) → a ≡ ask.Unlatch slot → ⊥) → is_unlatch a ≡ false
no_unlatch (ask.Fix slot region) isnt = refl
no_unlatch (ask.Unfix slot) isnt = refl
no_unlatch (ask.Latch slot m) isnt = refl
no_unlatch (ask.Unlatch slot) isnt = absurd (isnt slot refl)
no_unlatch (ask.Gather of region) isnt = refl
no_unlatch (ask.Scatter of) isnt = refl
no_unlatch (ask.Choose count) isnt = refl
no_unlatch ask.End isnt = refl

-- ---- what is refused then

module _ (v : Parts) (w : ℕ) (hand : Hand) (line : Line) where
  off_plan_plays : (cue : Cue) (why : Cause) → line ≡ Refused cue (OffPlan why) → FitsIn v w hand
      → ((s : State) → StandsFor v s → refusal_to s cue ≡ Some (OffPlan why)) → HandPlays v w hand cue line v hand
  off_plan_plays cue why is fits refuses =
      subst (λ l. HandPlays v w hand cue l v hand) (sym is) (refused_plays v v refl w hand cue (OffPlan why) fits refuses)

  module _ (isnt : (x : Session) → hand.stage ≡ In x → ⊥) (fits : FitsIn v w hand) where
    pub fix_inactive : (page : ℕ) → line ≡ Refused (cue.Fix w page) (OffPlan NotActing)
        → HandPlays v w hand (cue.Fix w page) line v hand
    fix_inactive page is =
        off_plan_plays (cue.Fix w page) NotActing is fits
        (λ s st.
        ap (λ o. refusal_in o.reply)
        (not_acting s (λ r. fix_asked s w r page (fix_slot r page (asked_by r))) v.page_bytes w hand.stage
        (fits s st).stage (no_session hand.stage isnt)))

    pub unfix_inactive : line ≡ Refused (cue.Unfix w) (OffPlan NotActing) → HandPlays v w hand (cue.Unfix w) line v hand
    unfix_inactive is =
        off_plan_plays (cue.Unfix w) NotActing is fits
        (λ s st.
        ap (λ o. refusal_in o.reply)
        (not_acting s (λ r. unfix_asked s w r (asked_by r)) v.page_bytes w hand.stage (fits s st).stage
        (no_session hand.stage isnt)))

    pub latch_inactive : line ≡ Refused (cue.Latch w) (OffPlan NotActing) → HandPlays v w hand (cue.Latch w) line v hand
    latch_inactive is =
        off_plan_plays (cue.Latch w) NotActing is fits
        (λ s st.
        ap (λ o. refusal_in o.reply)
        (not_acting s (λ r. latch_asked s w r (asked_by r)) v.page_bytes w hand.stage (fits s st).stage
        (no_session hand.stage isnt)))

    pub unlatch_inactive : line ≡ Refused (cue.Unlatch w) (OffPlan NotActing)
        → HandPlays v w hand (cue.Unlatch w) line v hand
    unlatch_inactive is =
        off_plan_plays (cue.Unlatch w) NotActing is fits
        (λ s st.
        ap (λ o. refusal_in o.reply)
        (not_acting s (λ r. unlatch_asked s w r (asked_by r)) v.page_bytes w hand.stage (fits s st).stage
        (no_session hand.stage isnt)))

  pub unwind_staying : (slot : ℕ) → ((x : Leaver) → hand.stage ≡ Leaving x → ⊥) → FitsIn v w hand
      → line ≡ Refused (cue.Unwind w slot) (OffPlan NotLeaving) → HandPlays v w hand (cue.Unwind w slot) line v hand
  unwind_staying slot isnt fits is =
      off_plan_plays (cue.Unwind w slot) NotLeaving is fits
      (λ s st.
      ap refusal_in (not_leaving s w slot v.page_bytes hand.stage (fits s st).stage (no_leaver hand.stage isnt)))

-- A worker that acts, and whose plan asks something else.
module _ (v : Parts) (w : ℕ) (hand : Hand) (line : Line) (x : Session) (a : Ask) (at : hand.stage ≡ In x)
    (reads : a ≡ x.ask) (fits : FitsIn v w hand) where
  fits_in : FitsIn v w (hand_of (In x) hand.guards)
  fits_in = subst (λ t. FitsIn v w (hand_of t hand.guards)) at fits

  pub unfix_other : ((slot : ℕ) → a ≡ ask.Unfix slot → ⊥) → ((slot : ℕ) → a ≡ ask.Scatter slot → ⊥)
      → line ≡ Refused (cue.Unfix w) (OffPlan NotAsked) → HandPlays v w hand (cue.Unfix w) line v hand
  unfix_other isnt other is =
      off_plan_plays v w hand line (cue.Unfix w) NotAsked is fits
      (λ s st.
      ap refusal_in
      (unfix_unasked s w x.ask (fits_in s st).stage.1
      (no_unfix x.ask (λ slot e. isnt slot (reads ∙ e)) (λ slot e. other slot (reads ∙ e)))))

  pub latch_other : ((slot : ℕ) (m : Mode) → a ≡ ask.Latch slot m → ⊥)
      → line ≡ Refused (cue.Latch w) (OffPlan NotAsked) → HandPlays v w hand (cue.Latch w) line v hand
  latch_other isnt is =
      off_plan_plays v w hand line (cue.Latch w) NotAsked is fits
      (λ s st.
      ap refusal_in
      (latch_unasked s w x.ask (fits_in s st).stage.1 (no_latch x.ask (λ slot m e. isnt slot m (reads ∙ e)))))

  pub unlatch_other : ((slot : ℕ) → a ≡ ask.Unlatch slot → ⊥) → line ≡ Refused (cue.Unlatch w) (OffPlan NotAsked)
      → HandPlays v w hand (cue.Unlatch w) line v hand
  unlatch_other isnt is =
      off_plan_plays v w hand line (cue.Unlatch w) NotAsked is fits
      (λ s st.
      ap refusal_in
      (unlatch_unasked s w x.ask (fits_in s st).stage.1 (no_unlatch x.ask (λ slot e. isnt slot (reads ∙ e)))))

-- A worker that leaves, and doesn't hold the slot.
pub unwind_empty : (v : Parts) (w : ℕ) (hand : Hand) (line : Line) (x : Leaver) (slot : ℕ) → hand.stage ≡ Leaving x
    → placed hand.guards slot ≡ None → FitsIn v w hand → line ≡ Refused (cue.Unwind w slot) (OffPlan NotHeld)
    → HandPlays v w hand (cue.Unwind w slot) line v hand
unwind_empty v w hand line x slot at none fits is =
    let leaves : FitsIn v w (hand_of (Leaving x) hand.guards) =
    subst (λ t. FitsIn v w (hand_of t hand.guards)) at fits in
    off_plan_plays v w hand line (cue.Unwind w slot) NotHeld is fits
    (λ s st.
    let empty : IsEmpty s w slot = subst (λ o. PlaceFits v.page_bytes s w slot o) none ((fits s st).guards slot) in
    ap refusal_in (not_held s w slot st.core.reached empty.no_page empty.no_bundle (leaves s st).stage.1))
