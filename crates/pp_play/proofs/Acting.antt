-- The cues of a worker that need no page: it takes a plan, goes on with a branch, or is done.
use Rattle.std.proofs.Common.{◌≡◌, ◌∙◌, ℕ, Option, Some, None, List, refl, sym, ap, subst}
use Rattle.pp_model.specs.declared.moves.Move.{Move}
use Rattle.pp_model.specs.declared.refusals.Cause.TheVariants.{NotIdle, NotActing}
use Rattle.pp_model.specs.declared.reply.Reply.{Reply}
use Rattle.pp_model.specs.Pool.{State}
use Rattle.pp_core.specs.Queries.{is_leaving}
use Rattle.pp_vault.specs.declared.refusal.Refusal.{Refusal}
use Rattle.pp_vault.specs.declared.refusal.Refusal.TheVariants.{OffPlan}
use Rattle.pp_vault.specs.declared.tokens.Chair.{Chair}
use Rattle.pp_vault.specs.declared.tokens.Session.{Session}
use Rattle.pp_vault.specs.declared.tokens.Leaver.{Leaver}
use Rattle.pp_vault.specs.declared.guards.Guard.{Guard}
use Rattle.pp_vault.specs.declared.stage.Hand.{Hand}
use Rattle.pp_vault.specs.declared.stage.Stage.{Stage}
use Rattle.pp_vault.specs.declared.stage.Stage.TheVariants.{Idle, In, Leaving}
use Rattle.pp_vault.specs.Parts.{Parts}
use Rattle.pp_vault.specs.StandsFor.{StandsFor, IsKept}
use Rattle.pp_vault.specs.Events.{Does, Refuses}
use Rattle.pp_vault.specs.Events as event
use Rattle.pp_vault.specs.Fits.{take_call, choose_call, finish_call, end_call, is_acting}
use Rattle.pp_vault.specs.ImageMoves.{ImagesStay}
use Rattle.pp_vault.specs.Stages.{stage_worker}
use Rattle.pp_vault.specs.Tokens.{SessionFits}
use Rattle.pp_vault.specs.HandLaws.{FitsIn}
use Rattle.pp_contents.specs.HandMoves.{takes, chooses, finishes, ends}
use Rattle.pp_script.specs.declared.cue.Cue.{Cue}
use Rattle.pp_script.specs.declared.cue.Cue.TheVariants as cue
use Rattle.pp_play.specs.declared.line.Line.TheVariants.{Did, Refused}
use Rattle.pp_play.specs.Exact.{refusal_to}
use Rattle.pp_play.specs.Guarding.{hand_of, PlaysHand}
use Rattle.pp_play.specs.Moving.{acts_by, ActsWith, RefusesStage}
use Rattle.pp_play.proofs.Asked.{same, take_done, choose_done, finish_done, end_done}
use Rattle.pp_play.proofs.Exactly.{did_exact}
use Rattle.pp_play.proofs.Fitting.{Laws, refused_plays}
use Rattle.pp_play.proofs.Seating.{take_fits, take_others, take_refused, choose_fits, choose_others, choose_refused}
use Rattle.pp_play.proofs.Seating.{finish_fits, finish_others, finish_refused, end_refused}
use Rattle.pp_play.proofs.Unfit.{take_unfit, choose_unfit, finish_unfit}

none_some : (w : ℕ) → ◌≡◌ {A = Option ℕ} None (Some w) → ⊥
none_some w e = cc

-- ---- which cue it is

module _ (w : ℕ) where
  pub is_take : (q : Cue) (v : ℕ) → q ≡ cue.Take v → acts_by q ≡ Some w → q ≡ cue.Take w
  is_take q v is acts = is ∙ ap cue.Take (same v w (sym (ap acts_by is) ∙ acts))

  pub is_choose : (q : Cue) (v branch : ℕ) → q ≡ cue.Choose v branch → acts_by q ≡ Some w → q ≡ cue.Choose w branch
  is_choose q v branch is acts = is ∙ ap (λ u. cue.Choose u branch) (same v w (sym (ap acts_by is) ∙ acts))

  -- Neither: it is the end of a plan.
  pub is_finish : (q : Cue) → ((v : ℕ) → q ≡ cue.Take v → ⊥) → ((v branch : ℕ) → q ≡ cue.Choose v branch → ⊥)
      → acts_by q ≡ Some w → q ≡ cue.Finish w
  is_finish (cue.Take v) take choose acts = absurd (take v refl)
  is_finish (cue.Choose v branch) take choose acts = absurd (choose v branch refl)
  is_finish (cue.Finish v) take choose acts = ap cue.Finish (same v w acts)
  is_finish _ take choose acts = absurd (none_some w acts)

-- ---- the calls that are done

module _ (laws : Laws) (old new : Parts) (k : IsKept old) (w : ℕ) (x : Stage) (q : Cue) (of : stage_worker x ≡ Some w)
    (did : Move × Reply) where
  pub take_acts : q ≡ cue.Take w → (chair : Chair) → x ≡ Idle chair → (y : Session)
      → Does old (take_call chair.worker) new → SessionFits new chair.worker y → ImagesStay old new
      → event.Tells old (take_call chair.worker) did → ActsWith old w x q did new (In y)
  take_acts is chair here y does fits images tells =
      let by : chair.worker ≡ w = same chair.worker w (sym (ap stage_worker here) ∙ of) in
      let now : Does old (take_call w) new = subst (λ u. Does old (take_call u) new) by does in
      let session : SessionFits new w y = subst (λ u. SessionFits new u y) by fits in
      let done = take_done old new k chair.worker w by does tells in
      subst (λ r. ActsWith old w x r did new (In y)) (sym is)
      (record {
        of = ap (λ u. Some u) session.worker;
        forth = refl;
        is_done = done;
        plays = λ guards fit.
            record {
              exact = did_exact old new (cue.Take w) (Did did.0 did.1) guards guards done refl;
              leaves = tt;
              fit = take_fits laws old new k w (hand_of x guards) fit now y session;
              others = take_others laws old new k w (hand_of x guards) fit now;
            };
        moves = λ guards. (takes chair y here does images refl, tells);
      })

  pub choose_acts : (branch : ℕ) → q ≡ cue.Choose w branch → (z : Session) → x ≡ In z → (y : Session)
      → Does old (choose_call z.worker branch) new → SessionFits new z.worker y → ImagesStay old new
      → event.Tells old (choose_call z.worker branch) did → ActsWith old w x q did new (In y)
  choose_acts branch is z here y does fits images tells =
      let by : z.worker ≡ w = same z.worker w (sym (ap stage_worker here) ∙ of) in
      let now : Does old (choose_call w branch) new = subst (λ u. Does old (choose_call u branch) new) by does in
      let session : SessionFits new w y = subst (λ u. SessionFits new u y) by fits in
      let done = choose_done old new k z.worker w by branch does tells in
      subst (λ r. ActsWith old w x r did new (In y)) (sym is)
      (record {
        of = ap (λ u. Some u) session.worker;
        forth = refl;
        is_done = done;
        plays = λ guards fit.
            record {
              exact = did_exact old new (cue.Choose w branch) (Did did.0 did.1) guards guards done refl;
              leaves = tt;
              fit = choose_fits laws old new k w (hand_of x guards) fit branch now y session;
              others = choose_others laws old new k w (hand_of x guards) fit branch now;
            };
        moves = λ guards. (chooses z y branch here does images refl, tells);
      })

  pub finish_acts : q ≡ cue.Finish w → (z : Session) → x ≡ In z → (y : Chair) → Does old (finish_call z.worker) new
      → y ≡ record { worker = z.worker } → ImagesStay old new → event.Tells old (finish_call z.worker) did
      → ActsWith old w x q did new (Idle y)
  finish_acts is z here y does chair images tells =
      let by : z.worker ≡ w = same z.worker w (sym (ap stage_worker here) ∙ of) in
      let now : Does old (finish_call w) new = subst (λ u. Does old (finish_call u) new) by does in
      let at : y.worker ≡ w = ap (λ (c : Chair). c.worker) chair ∙ by in
      let done = finish_done old new k z.worker w by does tells in
      subst (λ r. ActsWith old w x r did new (Idle y)) (sym is)
      (record {
        of = ap (λ u. Some u) at;
        forth = refl;
        is_done = done;
        plays = λ guards fit.
            record {
              exact = did_exact old new (cue.Finish w) (Did did.0 did.1) guards guards done refl;
              leaves = tt;
              fit = finish_fits laws old new k w (hand_of x guards) fit (λ s. is_acting s w) now y at;
              others = finish_others laws old new k w (hand_of x guards) fit (λ s. is_acting s w) now;
            };
        moves = λ guards. (finishes z y here does images refl, tells);
      })

  pub end_acts : q ≡ cue.Finish w → (z : Leaver) → x ≡ Leaving z → (y : Chair) → Does old (end_call z.worker) new
      → y ≡ record { worker = z.worker } → ImagesStay old new → event.Tells old (end_call z.worker) did
      → ActsWith old w x q did new (Idle y)
  end_acts is z here y does chair images tells =
      let by : z.worker ≡ w = same z.worker w (sym (ap stage_worker here) ∙ of) in
      let now : Does old (end_call w) new = subst (λ u. Does old (end_call u) new) by does in
      let at : y.worker ≡ w = ap (λ (c : Chair). c.worker) chair ∙ by in
      let done = end_done old new k z.worker w by does tells in
      subst (λ r. ActsWith old w x r did new (Idle y)) (sym is)
      (record {
        of = ap (λ u. Some u) at;
        forth = refl;
        is_done = done;
        plays = λ guards fit.
            record {
              exact = did_exact old new (cue.Finish w) (Did did.0 did.1) guards guards done refl;
              leaves = tt;
              fit = finish_fits laws old new k w (hand_of x guards) fit (λ s. is_leaving s w) now y at;
              others = finish_others laws old new k w (hand_of x guards) fit (λ s. is_leaving s w) now;
            };
        moves = λ guards. (ends z y here does images refl, tells);
      })

-- ---- the calls that are refused, and the tokens with which none is made

module _ (old : Parts) (w : ℕ) (x : Stage) (q : Cue) where
  refuses_with : (r : Cue) (why : Refusal) → q ≡ r
      → ((guards : List (Option Guard)) → FitsIn old w (hand_of x guards) → (s : State) → StandsFor old s
      → refusal_to s r ≡ Some why) → RefusesStage old w x q why
  refuses_with r why is refuses =
      subst (λ p. RefusesStage old w x p why) (sym is)
      (λ guards fit.
      refused_plays old old refl w (hand_of x guards) (hand_of x guards) r (Refused r why) why refl refl
      (refuses guards fit) fit)

  module _ (of : stage_worker x ≡ Some w) (why : Refusal) where
    pub take_refuses : q ≡ cue.Take w → (chair : Chair) → x ≡ Idle chair → Refuses old (take_call chair.worker) why
        → RefusesStage old w x q why
    take_refuses is chair here refuses =
        let by : chair.worker ≡ w = same chair.worker w (sym (ap stage_worker here) ∙ of) in
        refuses_with (cue.Take w) why is
        (λ guards fit.
        take_refused old w (hand_of x guards) fit why chair here (subst (λ u. Refuses old (take_call u) why) by refuses))

    pub choose_refuses : (branch : ℕ) → q ≡ cue.Choose w branch → (z : Session) → x ≡ In z
        → Refuses old (choose_call z.worker branch) why → RefusesStage old w x q why
    choose_refuses branch is z here refuses =
        let by : z.worker ≡ w = same z.worker w (sym (ap stage_worker here) ∙ of) in
        refuses_with (cue.Choose w branch) why is
        (λ guards fit.
        choose_refused old w (hand_of x guards) fit why branch z here
        (subst (λ u. Refuses old (choose_call u branch) why) by refuses))

    pub finish_refuses : q ≡ cue.Finish w → (z : Session) → x ≡ In z → Refuses old (finish_call z.worker) why
        → RefusesStage old w x q why
    finish_refuses is z here refuses =
        let by : z.worker ≡ w = same z.worker w (sym (ap stage_worker here) ∙ of) in
        refuses_with (cue.Finish w) why is
        (λ guards fit.
        finish_refused old w (hand_of x guards) fit why z here (subst (λ u. Refuses old (finish_call u) why) by refuses))

    pub end_refuses : q ≡ cue.Finish w → (z : Leaver) → x ≡ Leaving z → Refuses old (end_call z.worker) why
        → RefusesStage old w x q why
    end_refuses is z here refuses =
        let by : z.worker ≡ w = same z.worker w (sym (ap stage_worker here) ∙ of) in
        refuses_with (cue.Finish w) why is
        (λ guards fit.
        end_refused old w (hand_of x guards) fit why z here (subst (λ u. Refuses old (end_call u) why) by refuses))

  pub take_off : q ≡ cue.Take w → ((chair : Chair) → x ≡ Idle chair → ⊥) → RefusesStage old w x q (OffPlan NotIdle)
  take_off is isnt =
      refuses_with (cue.Take w) (OffPlan NotIdle) is
      (λ guards fit s st. take_unfit old.page_bytes s w x isnt (fit s st).stage)

  pub choose_off : (branch : ℕ) → q ≡ cue.Choose w branch → ((z : Session) → x ≡ In z → ⊥)
      → RefusesStage old w x q (OffPlan NotActing)
  choose_off branch is isnt =
      refuses_with (cue.Choose w branch) (OffPlan NotActing) is
      (λ guards fit s st. choose_unfit old.page_bytes s w x isnt (fit s st).stage branch)

  pub finish_off : q ≡ cue.Finish w → ((z : Session) → x ≡ In z → ⊥) → ((z : Leaver) → x ≡ Leaving z → ⊥)
      → RefusesStage old w x q (OffPlan NotActing)
  finish_off is session leaver =
      refuses_with (cue.Finish w) (OffPlan NotActing) is
      (λ guards fit s st. finish_unfit old.page_bytes s w x session leaver (fit s st).stage)

-- ---- the hand

-- The token came back, and all is as it was.
pub back_plays : (old new : Parts) (w : ℕ) (hand : Hand) (back : Stage) (q : Cue) (why : Refusal) → new ≡ old
    → back ≡ hand.stage → RefusesStage old w hand.stage q why
    → PlaysHand old w hand q (Refused q why) new (hand_of back hand.guards)
back_plays old new w hand back q why unchanged is refuses =
    subst (λ v. PlaysHand old w hand q (Refused q why) v (hand_of back hand.guards)) (sym unchanged)
    (subst (λ t. PlaysHand old w hand q (Refused q why) old (hand_of t hand.guards)) (sym is) (refuses hand.guards))
