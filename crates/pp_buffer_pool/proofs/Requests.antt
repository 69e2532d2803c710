-- Turns of a worker in one plan.
use Rattle.std.proofs.Common.{◌≡◌, ◌≢◌, ◌∙◌, ℕ, Bool, true, false, inl, inr, Option, Some, None, List, refl, sym, ap, subst}
use Rattle.std.proofs.Common.{arith}
use Rattle.std.specs.Prelude.{◌==◌, not, if◌then◌else◌, is_ok, IfSome}
use Rattle.std.specs.Option.{is_some}
use Rattle.std.proofs.lemmas.Bool.{false≢true}
use Rattle.std.proofs.lemmas.Bool.Decides.{nat_tests}
use Rattle.pp_settings.specs.Layout.{Geometry}
use Rattle.pp_device.specs.Answers.{Answer as DeviceAnswer}
use Rattle.pp_model.specs.declared.refusals.Delay.TheVariants as delay
use Rattle.pp_model.specs.declared.moves.Move.{Move}
use Rattle.pp_model.specs.declared.moves.Move.TheVariants as move
use Rattle.pp_model.specs.declared.reply.Reply.{Reply}
use Rattle.pp_model.specs.declared.event.Event.{Event}
use Rattle.pp_model.specs.declared.event.Event.TheVariants.{Submit, Step}
use Rattle.pp_vault.specs.declared.refusal.Refusal.{Refusal}
use Rattle.pp_vault.specs.declared.refusal.Refusal.TheVariants as refusal
use Rattle.pp_vault.specs.declared.tokens.Chair.{Chair}
use Rattle.pp_vault.specs.declared.tokens.Session.{Session}
use Rattle.pp_vault.specs.declared.tokens.Leaver.{Leaver}
use Rattle.pp_vault.specs.declared.tokens.Returned.{Returned}
use Rattle.pp_vault.specs.declared.tokens.Duty.{Duty}
use Rattle.pp_vault.specs.declared.tokens.Duty.TheVariants as duty
use Rattle.pp_vault.specs.declared.stage.Stage.{Stage}
use Rattle.pp_vault.specs.declared.stage.Stage.TheVariants as stage
use Rattle.pp_vault.specs.Duties.{duty_worker}
use Rattle.pp_vault.specs.Stages.{is_chair, stage_worker}
use Rattle.pp_pool.specs.declared.request.Request.{Request}
use Rattle.pp_pool.specs.declared.request.Request.TheVariants as request
use Rattle.pp_pool.specs.declared.response.BookAnswer.{BookAnswer}
use Rattle.pp_pool.specs.declared.response.BookAnswer.TheVariants as answer
use Rattle.pp_pool.specs.declared.response.Response.{Response}
use Rattle.pp_pool.specs.declared.site.Site as Site
use Rattle.pp_pool.specs.declared.work.Work as Work
use Rattle.pp_pool.specs.declared.turned.Turned.{Turned}
use Rattle.pp_pool.specs.declared.turned.Turned.TheVariants.{Done, NoMemory, Broken}
use Rattle.pp_pool.specs.Performing.{is_no}
use Rattle.pp_pool.specs.Replies.{Replies, TokensFit, IsMoveOf, IsEventOf, duty_move}
use Rattle.pp_pool.specs.Turns.{Asks, IsStep, IsWayOut, IsTold, Uses, stage_in, turned_by}
use Rattle.pp_buffer_pool.specs.Executing.{is_within}

-- ---- how a turn ends

not_done : (why : Refusal) → turned_by why ≢ Done
not_done (refusal.NotNow delay.NothingWaiting) e = cc
not_done (refusal.NotNow delay.NoRoom) e = cc
not_done (refusal.NotNow delay.InFlight) e = cc
not_done (refusal.NotNow delay.FlushHolds) e = cc
not_done (refusal.NotNow delay.LatchHeld) e = cc
not_done (refusal.NotNow delay.FlushBusy) e = cc
not_done (refusal.OffPlan cause) e = cc
not_done refusal.Stranger e = cc

not_no_memory : (why : Refusal) → turned_by why ≢ NoMemory
not_no_memory (refusal.NotNow delay.NothingWaiting) e = cc
not_no_memory (refusal.NotNow delay.NoRoom) e = cc
not_no_memory (refusal.NotNow delay.InFlight) e = cc
not_no_memory (refusal.NotNow delay.FlushHolds) e = cc
not_no_memory (refusal.NotNow delay.LatchHeld) e = cc
not_no_memory (refusal.NotNow delay.FlushBusy) e = cc
not_no_memory (refusal.OffPlan cause) e = cc
not_no_memory refusal.Stranger e = cc

no_memory_not_done : ◌≡◌ {A = Turned} NoMemory Done → ⊥
no_memory_not_done e = cc

no_memory_not_looked : (shown : Bool) → ◌≡◌ {A = Turned} NoMemory (if shown then Done else Broken) → ⊥
no_memory_not_looked true e = cc
no_memory_not_looked false e = cc

none_some : (w : ℕ) → ◌≡◌ {A = Option ℕ} None (Some w) → ⊥
none_some w e = cc

none_stage : (t : Stage) → ◌≡◌ {A = Option Stage} None (Some t) → ⊥
none_stage t e = cc

none_event : (e : Event) → ◌≡◌ {A = Option Event} None (Some e) → ⊥
none_event e h = cc

some_same : (v w : ℕ) → ◌≡◌ {A = Option ℕ} (Some v) (Some w) → v ≡ w
some_same v w e = cc

eq_self : (w : ℕ) → (w == w) ≡ true
eq_self w = grind (arith, nat_tests)

same_worker : (v w : ℕ) → ◌≡◌ {A = Option ℕ} (Some v) (Some w) → (v == w) ≡ true
same_worker v w e = subst (λ n. (n == w) ≡ true) (sym (some_same v w e)) (eq_self w)

-- ---- requests

-- The worker that asks; none for the flusher.
abbrev pub asker : Request → Option ℕ
asker (request.Take chair) = Some chair.worker
asker (request.Fix x page) = Some x.worker
asker (request.Join x page) = Some x.worker
asker (request.Unfix x g) = Some x.worker
asker (request.Scatter x g) = Some x.worker
asker (request.LatchShared x g) = Some x.worker
asker (request.LatchExclusive x g) = Some x.worker
asker (request.UnlatchShared x g) = Some x.worker
asker (request.UnlatchExclusive x g) = Some x.worker
asker (request.Choose x branch) = Some x.worker
asker (request.Finish x) = Some x.worker
asker (request.End x) = Some x.worker
asker (request.GiveBack x g) = Some x.worker
asker (request.Answer returned) = duty_worker returned.duty
asker (request.AnswerJoin returned) = duty_worker returned.duty
asker (request.Flush page) = None
asker (request.FlushNext number) = None

-- Whether the request ends a plan.
abbrev pub is_end : Request → Bool
is_end (request.Finish x) = true
is_end (request.End x) = true
is_end _ = false

-- Whether it takes one.
abbrev pub is_take : Request → Bool
is_take (request.Take chair) = true
is_take _ = false

-- Whether the answer is an idle worker's.
abbrev pub is_idle : BookAnswer → Bool
is_idle (answer.Idle c) = true
is_idle _ = false

-- The worker of an answer.
abbrev pub answered : BookAnswer → Option ℕ
answered (answer.Acts x) = Some x.worker
answered (answer.Idle c) = Some c.worker
answered (answer.Leaves x) = Some x.worker
answered (answer.Pinned x g) = Some x.worker
answered (answer.Opened x g) = Some x.worker
answered (answer.Joined x) = Some x.worker
answered (answer.Shared x g) = Some x.worker
answered (answer.Exclusive x g) = Some x.worker
answered (answer.Away errand) = duty_worker errand.duty
answered (answer.Flushed clean) = None
answered (answer.No back why) = None

-- ---- the worker of a request

step_asker : (layout : Geometry) (x : Session) (asked : Request) → IsStep layout x asked → asker asked ≡ Some x.worker
step_asker layout x (request.Take chair) h = absurd h
step_asker layout x (request.Fix y page) h = ap (λ (z : Session). Some z.worker) h.0
step_asker layout x (request.Join y page) h = ap (λ (z : Session). Some z.worker) h.0
step_asker layout x (request.Unfix y g) h = ap (λ (z : Session). Some z.worker) h.0
step_asker layout x (request.Scatter y g) h = ap (λ (z : Session). Some z.worker) h.0
step_asker layout x (request.LatchShared y g) h = ap (λ (z : Session). Some z.worker) h.0
step_asker layout x (request.LatchExclusive y g) h = ap (λ (z : Session). Some z.worker) h.0
step_asker layout x (request.UnlatchShared y g) h = ap (λ (z : Session). Some z.worker) h.0
step_asker layout x (request.UnlatchExclusive y g) h = ap (λ (z : Session). Some z.worker) h.0
step_asker layout x (request.Choose y branch) h = ap (λ (z : Session). Some z.worker) h.0
step_asker layout x (request.Finish y) h = ap (λ (z : Session). Some z.worker) h.0
step_asker layout x (request.End y) h = absurd h
step_asker layout x (request.GiveBack y g) h = absurd h
step_asker layout x (request.Answer returned) h = absurd h
step_asker layout x (request.AnswerJoin returned) h = absurd h
step_asker layout x (request.Flush page) h = absurd h
step_asker layout x (request.FlushNext number) h = absurd h

way_asker : (x : Leaver) (asked : Request) → IsWayOut x asked → asker asked ≡ Some x.worker
way_asker x (request.Take chair) h = absurd h
way_asker x (request.Fix y page) h = absurd h
way_asker x (request.Join y page) h = absurd h
way_asker x (request.Unfix y g) h = absurd h
way_asker x (request.Scatter y g) h = absurd h
way_asker x (request.LatchShared y g) h = absurd h
way_asker x (request.LatchExclusive y g) h = absurd h
way_asker x (request.UnlatchShared y g) h = absurd h
way_asker x (request.UnlatchExclusive y g) h = absurd h
way_asker x (request.Choose y branch) h = absurd h
way_asker x (request.Finish y) h = absurd h
way_asker x (request.End y) h = ap (λ (z : Leaver). Some z.worker) h
way_asker x (request.GiveBack y g) h = ap (λ (z : Leaver). Some z.worker) h
way_asker x (request.Answer returned) h = absurd h
way_asker x (request.AnswerJoin returned) h = absurd h
way_asker x (request.Flush page) h = absurd h
way_asker x (request.FlushNext number) h = absurd h

told_asker : (returned : Returned) (asked : Request) → IsTold returned asked → asker asked ≡ duty_worker returned.duty
told_asker returned asked (inl h) = ap asker h
told_asker returned asked (inr h) = ap asker h

step_no_take : (layout : Geometry) (x : Session) (asked : Request) → IsStep layout x asked → is_take asked ≡ false
step_no_take layout x (request.Take chair) h = absurd h
step_no_take layout x (request.Fix y page) h = refl
step_no_take layout x (request.Join y page) h = refl
step_no_take layout x (request.Unfix y g) h = refl
step_no_take layout x (request.Scatter y g) h = refl
step_no_take layout x (request.LatchShared y g) h = refl
step_no_take layout x (request.LatchExclusive y g) h = refl
step_no_take layout x (request.UnlatchShared y g) h = refl
step_no_take layout x (request.UnlatchExclusive y g) h = refl
step_no_take layout x (request.Choose y branch) h = refl
step_no_take layout x (request.Finish y) h = refl
step_no_take layout x (request.End y) h = refl
step_no_take layout x (request.GiveBack y g) h = refl
step_no_take layout x (request.Answer returned) h = refl
step_no_take layout x (request.AnswerJoin returned) h = refl
step_no_take layout x (request.Flush page) h = refl
step_no_take layout x (request.FlushNext number) h = refl

way_no_take : (x : Leaver) (asked : Request) → IsWayOut x asked → is_take asked ≡ false
way_no_take x (request.Take chair) h = absurd h
way_no_take x (request.Fix y page) h = refl
way_no_take x (request.Join y page) h = refl
way_no_take x (request.Unfix y g) h = refl
way_no_take x (request.Scatter y g) h = refl
way_no_take x (request.LatchShared y g) h = refl
way_no_take x (request.LatchExclusive y g) h = refl
way_no_take x (request.UnlatchShared y g) h = refl
way_no_take x (request.UnlatchExclusive y g) h = refl
way_no_take x (request.Choose y branch) h = refl
way_no_take x (request.Finish y) h = refl
way_no_take x (request.End y) h = refl
way_no_take x (request.GiveBack y g) h = refl
way_no_take x (request.Answer returned) h = refl
way_no_take x (request.AnswerJoin returned) h = refl
way_no_take x (request.Flush page) h = refl
way_no_take x (request.FlushNext number) h = refl

told_no_take : (returned : Returned) (asked : Request) → IsTold returned asked → is_take asked ≡ false
told_no_take returned asked (inl h) = ap is_take h
told_no_take returned asked (inr h) = ap is_take h

module _ {D : Type 0} (reads : D → ℕ → List ℕ → DeviceAnswer → List ℕ → D → Type 0)
    (writes : D → ℕ → List ℕ → DeviceAnswer → D → Type 0) (calls failures : D → ℕ) (layout : Geometry) where
  pub asker_is : (s : Stage) (old : D) (asked : Request) (new : D) → Asks reads writes calls failures layout s old asked new
      → asker asked ≡ stage_worker s
  asker_is (stage.Idle chair) old asked new h = ap asker h.0
  asker_is (stage.In x) old asked new h = step_asker layout x asked h.0
  asker_is (stage.Out errand) old asked new h = told_asker h.returned asked h.sent ∙ ap duty_worker h.duty
  asker_is (stage.Back returned) old asked new h = told_asker returned asked h.0
  asker_is (stage.Leaving x) old asked new h = way_asker x asked h.0

  pub no_take : (s : Stage) (old : D) (asked : Request) (new : D) → is_chair s ≡ false
      → Asks reads writes calls failures layout s old asked new → is_take asked ≡ false
  no_take (stage.Idle chair) old asked new busy h = absurd (false≢true (sym busy))
  no_take (stage.In x) old asked new busy h = step_no_take layout x asked h.0
  no_take (stage.Out errand) old asked new busy h = told_no_take h.returned asked h.sent
  no_take (stage.Back returned) old asked new busy h = told_no_take returned asked h.0
  no_take (stage.Leaving x) old asked new busy h = way_no_take x asked h.0

  pub take_is : (s : Stage) (chair : Chair) (old : D) (asked : Request) (new : D) → s ≡ stage.Idle chair
      → Asks reads writes calls failures layout s old asked new → asked ≡ request.Take chair
  take_is s chair old asked new is h =
      (subst (λ (t : Stage). Asks reads writes calls failures layout t old asked new) is h).0

-- ---- the event of a request

duty_within : (w : ℕ) (d : Duty) (image : List ℕ) (ok : Bool) (out : Reply) → duty_worker d ≡ Some w
    → is_within w (Step (duty_move d image ok) out) ≡ true
duty_within w (duty.Read v slot page) image ok out is = same_worker v w is
duty_within w (duty.Write v slot page victim) image ok out is = same_worker v w is
duty_within w (duty.Flush page) image ok out is = absurd (none_some w is)

pub within_of : (w : ℕ) (asked : Request) (did : Move) (out : Reply) → (is_take asked ≡ true → ⊥) → is_end asked ≡ false
    → asker asked ≡ Some w → IsMoveOf asked did → is_within w (Step did out) ≡ true
within_of w (request.Take chair) did out take end is of = absurd (take refl)
within_of w (request.Fix x page) did out take end is of = subst (λ m. is_within w (Step m out) ≡ true) (sym of) (same_worker x.worker w is)
within_of w (request.Join x page) did out take end is of = subst (λ m. is_within w (Step m out) ≡ true) (sym of) (same_worker x.worker w is)
within_of w (request.Unfix x g) did out take end is of = subst (λ m. is_within w (Step m out) ≡ true) (sym of) (same_worker x.worker w is)
within_of w (request.Scatter x g) did out take end is of = subst (λ m. is_within w (Step m out) ≡ true) (sym of) (same_worker x.worker w is)
within_of w (request.LatchShared x g) did out take end is of = subst (λ m. is_within w (Step m out) ≡ true) (sym of) (same_worker x.worker w is)
within_of w (request.LatchExclusive x g) did out take end is of = subst (λ m. is_within w (Step m out) ≡ true) (sym of) (same_worker x.worker w is)
within_of w (request.UnlatchShared x g) did out take end is of = subst (λ m. is_within w (Step m out) ≡ true) (sym of) (same_worker x.worker w is)
within_of w (request.UnlatchExclusive x g) did out take end is of = subst (λ m. is_within w (Step m out) ≡ true) (sym of) (same_worker x.worker w is)
within_of w (request.Choose x branch) did out take end is of = subst (λ m. is_within w (Step m out) ≡ true) (sym of) (same_worker x.worker w is)
within_of w (request.Finish x) did out take end is of = absurd (false≢true (sym end))
within_of w (request.End x) did out take end is of = absurd (false≢true (sym end))
within_of w (request.GiveBack x g) did out take end is of = subst (λ m. is_within w (Step m out) ≡ true) (sym of) (same_worker x.worker w is)
within_of w (request.Answer returned) did out take end is of =
    subst (λ m. is_within w (Step m out) ≡ true) (sym of) (duty_within w returned.duty returned.image (is_ok returned.answer) out is)
within_of w (request.AnswerJoin returned) did out take end is of =
    subst (λ m. is_within w (Step m out) ≡ true) (sym of) (duty_within w returned.duty returned.image (is_ok returned.answer) out is)
within_of w (request.Flush page) did out take end is of = absurd (none_some w is)
within_of w (request.FlushNext number) did out take end is of = absurd (none_some w is)

pub finish_of : (w : ℕ) (asked : Request) (did : Move) → is_end asked ≡ true → asker asked ≡ Some w → IsMoveOf asked did
    → did ≡ move.Finish w
finish_of w (request.Take chair) did end is of = absurd (false≢true end)
finish_of w (request.Fix x page) did end is of = absurd (false≢true end)
finish_of w (request.Join x page) did end is of = absurd (false≢true end)
finish_of w (request.Unfix x g) did end is of = absurd (false≢true end)
finish_of w (request.Scatter x g) did end is of = absurd (false≢true end)
finish_of w (request.LatchShared x g) did end is of = absurd (false≢true end)
finish_of w (request.LatchExclusive x g) did end is of = absurd (false≢true end)
finish_of w (request.UnlatchShared x g) did end is of = absurd (false≢true end)
finish_of w (request.UnlatchExclusive x g) did end is of = absurd (false≢true end)
finish_of w (request.Choose x branch) did end is of = absurd (false≢true end)
finish_of w (request.Finish x) did end is of = of ∙ ap move.Finish (some_same x.worker w is)
finish_of w (request.End x) did end is of = of ∙ ap move.Finish (some_same x.worker w is)
finish_of w (request.GiveBack x g) did end is of = absurd (false≢true end)
finish_of w (request.Answer returned) did end is of = absurd (false≢true end)
finish_of w (request.AnswerJoin returned) did end is of = absurd (false≢true end)
finish_of w (request.Flush page) did end is of = absurd (false≢true end)
finish_of w (request.FlushNext number) did end is of = absurd (false≢true end)

-- A request that was done has an event, of its move.
pub record Does (asked : Request) (event : Option Event) : Type 0 where
  pub did : Move
  pub out : Reply
  pub is : event ≡ Some (Step did out)
  pub of : IsMoveOf asked did

does_at : (asked : Request) (e : Event) → IsEventOf asked e → Does asked (Some e)
does_at asked (Submit plan) h = absurd h
does_at asked (Step did out) h = record { did = did; out = out; is = refl; of = h }

does_by : (asked : Request) (event : Option Event) → is_some event ≡ true → IfSome event (IsEventOf asked) → Does asked event
does_by asked None some h = absurd (false≢true some)
does_by asked (Some e) some h = does_at asked e h

pub does : (asked : Request) (response : Response) → Replies asked response → is_no response.answer ≡ false
    → Does asked response.event
does asked response fits went = does_by asked response.event (fits.done ∙ ap not went) fits.event

-- ---- the tokens after it

stage_chair : (s t : Stage) (b : Bool) → ◌≡◌ {A = Option Stage} (Some s) (Some t) → is_chair s ≡ b → is_chair t ≡ b
stage_chair s t b e h = let same : s ≡ t = cc in subst (λ (x : Stage). is_chair x ≡ b) same h

stage_of : (s t : Stage) → ◌≡◌ {A = Option Stage} (Some s) (Some t) → stage_worker t ≡ stage_worker s
stage_of s t e = let same : s ≡ t = cc in ap stage_worker (sym same)

module _ {S W : Type 0} (s : Site.Ghosts S) (k : Work.Ghosts W) (site : S) (room : ℕ) (old left : W) where
  pub done_is_yes : (out after : BookAnswer) → Uses s k site room old out Done after left → is_no out ≡ false
  done_is_yes (answer.Acts x) after h = refl
  done_is_yes (answer.Idle c) after h = refl
  done_is_yes (answer.Leaves x) after h = refl
  done_is_yes (answer.Pinned x g) after h = refl
  done_is_yes (answer.Opened x g) after h = refl
  done_is_yes (answer.Joined x) after h = refl
  done_is_yes (answer.Shared x g) after h = refl
  done_is_yes (answer.Exclusive x g) after h = refl
  done_is_yes (answer.Away errand) after h = refl
  done_is_yes (answer.Flushed clean) after h = refl
  done_is_yes (answer.No back why) after h = absurd (not_done why (sym h.0))

  pub never_no_memory : (out after : BookAnswer) → Uses s k site room old out NoMemory after left → ⊥
  never_no_memory (answer.Acts x) after h = no_memory_not_done h.0
  never_no_memory (answer.Idle c) after h = no_memory_not_done h.0
  never_no_memory (answer.Leaves x) after h = no_memory_not_done h.0
  never_no_memory (answer.Pinned x g) after h = no_memory_not_done h.0
  never_no_memory (answer.Opened x g) after h = no_memory_not_done h.0
  never_no_memory (answer.Joined x) after h = no_memory_not_done h.0
  never_no_memory (answer.Shared x g) after h = no_memory_not_looked _ h.0.turned_is
  never_no_memory (answer.Exclusive x g) after h = no_memory_not_done h.1
  never_no_memory (answer.Away errand) after h = no_memory_not_done h.0
  never_no_memory (answer.Flushed clean) after h = no_memory_not_done h.0
  never_no_memory (answer.No back why) after h = not_no_memory why (sym h.0)

  module _ (turned : Turned) where
    pub chair_is : (out after : BookAnswer) (t : Stage) → is_no out ≡ false → Uses s k site room old out turned after left
        → stage_in after ≡ Some t → is_chair t ≡ is_idle out
    chair_is (answer.Acts x) after t went h is = stage_chair (stage.In x) t false (sym (ap stage_in h.1) ∙ is) refl
    chair_is (answer.Idle c) after t went h is = stage_chair (stage.Idle c) t true (sym (ap stage_in h.1) ∙ is) refl
    chair_is (answer.Leaves x) after t went h is = stage_chair (stage.Leaving x) t false (sym (ap stage_in h.1) ∙ is) refl
    chair_is (answer.Pinned x g) after t went h is = stage_chair (stage.In x) t false (sym (ap stage_in h.1) ∙ is) refl
    chair_is (answer.Opened x g) after t went h is = stage_chair (stage.In x) t false (sym (ap stage_in h.1) ∙ is) refl
    chair_is (answer.Joined x) after t went h is = stage_chair (stage.In x) t false (sym (ap stage_in h.1) ∙ is) refl
    chair_is (answer.Shared x g) after t went h is = stage_chair (stage.In x) t false (sym (ap stage_in h.1) ∙ is) refl
    chair_is (answer.Exclusive x g) after t went h is = stage_chair (stage.In x) t false (sym (ap stage_in h.0.stays) ∙ is) refl
    chair_is (answer.Away errand) after t went h is = stage_chair (stage.Out errand) t false (sym (ap stage_in h.1) ∙ is) refl
    chair_is (answer.Flushed clean) after t went h is = absurd (none_stage t (sym (ap stage_in h.1) ∙ is))
    chair_is (answer.No back why) after t went h is = absurd (false≢true (sym went))

    pub worker_is : (out after : BookAnswer) (t : Stage) → is_no out ≡ false → Uses s k site room old out turned after left
        → stage_in after ≡ Some t → stage_worker t ≡ answered out
    worker_is (answer.Acts x) after t went h is = stage_of (stage.In x) t (sym (ap stage_in h.1) ∙ is)
    worker_is (answer.Idle c) after t went h is = stage_of (stage.Idle c) t (sym (ap stage_in h.1) ∙ is)
    worker_is (answer.Leaves x) after t went h is = stage_of (stage.Leaving x) t (sym (ap stage_in h.1) ∙ is)
    worker_is (answer.Pinned x g) after t went h is = stage_of (stage.In x) t (sym (ap stage_in h.1) ∙ is)
    worker_is (answer.Opened x g) after t went h is = stage_of (stage.In x) t (sym (ap stage_in h.1) ∙ is)
    worker_is (answer.Joined x) after t went h is = stage_of (stage.In x) t (sym (ap stage_in h.1) ∙ is)
    worker_is (answer.Shared x g) after t went h is = stage_of (stage.In x) t (sym (ap stage_in h.1) ∙ is)
    worker_is (answer.Exclusive x g) after t went h is = stage_of (stage.In x) t (sym (ap stage_in h.0.stays) ∙ is)
    worker_is (answer.Away errand) after t went h is = stage_of (stage.Out errand) t (sym (ap stage_in h.1) ∙ is)
    worker_is (answer.Flushed clean) after t went h is = absurd (none_stage t (sym (ap stage_in h.1) ∙ is))
    worker_is (answer.No back why) after t went h is = absurd (false≢true (sym went))

pub tokens_of : (asked : Request) (out : BookAnswer) → is_no out ≡ false → TokensFit asked out → answered out ≡ asker asked
tokens_of (request.Take chair) (answer.Acts x) went f = ap Some f
tokens_of (request.Fix y page) (answer.Acts x) went f = absurd f
tokens_of (request.Join y page) (answer.Acts x) went f = absurd f
tokens_of (request.Unfix y h) (answer.Acts x) went f = ap Some f
tokens_of (request.Scatter y h) (answer.Acts x) went f = ap Some f
tokens_of (request.LatchShared y h) (answer.Acts x) went f = absurd f
tokens_of (request.LatchExclusive y h) (answer.Acts x) went f = absurd f
tokens_of (request.UnlatchShared y h) (answer.Acts x) went f = absurd f
tokens_of (request.UnlatchExclusive y h) (answer.Acts x) went f = absurd f
tokens_of (request.Choose y branch) (answer.Acts x) went f = ap Some f
tokens_of (request.Finish y) (answer.Acts x) went f = absurd f
tokens_of (request.End y) (answer.Acts x) went f = absurd f
tokens_of (request.GiveBack y h) (answer.Acts x) went f = absurd f
tokens_of (request.Answer returned) (answer.Acts x) went f = absurd f
tokens_of (request.AnswerJoin returned) (answer.Acts x) went f = absurd f
tokens_of (request.Flush page) (answer.Acts x) went f = absurd f
tokens_of (request.FlushNext number) (answer.Acts x) went f = absurd f
tokens_of (request.Take chair) (answer.Idle c) went f = absurd f
tokens_of (request.Fix y page) (answer.Idle c) went f = absurd f
tokens_of (request.Join y page) (answer.Idle c) went f = absurd f
tokens_of (request.Unfix y h) (answer.Idle c) went f = absurd f
tokens_of (request.Scatter y h) (answer.Idle c) went f = absurd f
tokens_of (request.LatchShared y h) (answer.Idle c) went f = absurd f
tokens_of (request.LatchExclusive y h) (answer.Idle c) went f = absurd f
tokens_of (request.UnlatchShared y h) (answer.Idle c) went f = absurd f
tokens_of (request.UnlatchExclusive y h) (answer.Idle c) went f = absurd f
tokens_of (request.Choose y branch) (answer.Idle c) went f = absurd f
tokens_of (request.Finish y) (answer.Idle c) went f = ap Some f
tokens_of (request.End y) (answer.Idle c) went f = ap Some f
tokens_of (request.GiveBack y h) (answer.Idle c) went f = absurd f
tokens_of (request.Answer returned) (answer.Idle c) went f = absurd f
tokens_of (request.AnswerJoin returned) (answer.Idle c) went f = absurd f
tokens_of (request.Flush page) (answer.Idle c) went f = absurd f
tokens_of (request.FlushNext number) (answer.Idle c) went f = absurd f
tokens_of (request.Take chair) (answer.Leaves x) went f = absurd f
tokens_of (request.Fix y page) (answer.Leaves x) went f = absurd f
tokens_of (request.Join y page) (answer.Leaves x) went f = absurd f
tokens_of (request.Unfix y h) (answer.Leaves x) went f = absurd f
tokens_of (request.Scatter y h) (answer.Leaves x) went f = absurd f
tokens_of (request.LatchShared y h) (answer.Leaves x) went f = absurd f
tokens_of (request.LatchExclusive y h) (answer.Leaves x) went f = absurd f
tokens_of (request.UnlatchShared y h) (answer.Leaves x) went f = absurd f
tokens_of (request.UnlatchExclusive y h) (answer.Leaves x) went f = absurd f
tokens_of (request.Choose y branch) (answer.Leaves x) went f = absurd f
tokens_of (request.Finish y) (answer.Leaves x) went f = absurd f
tokens_of (request.End y) (answer.Leaves x) went f = absurd f
tokens_of (request.GiveBack y h) (answer.Leaves x) went f = ap (λ (z : Leaver). Some z.worker) f
tokens_of (request.Answer returned) (answer.Leaves x) went f = sym f
tokens_of (request.AnswerJoin returned) (answer.Leaves x) went f = sym f
tokens_of (request.Flush page) (answer.Leaves x) went f = absurd f
tokens_of (request.FlushNext number) (answer.Leaves x) went f = absurd f
tokens_of (request.Take chair) (answer.Pinned x g) went f = absurd f
tokens_of (request.Fix y page) (answer.Pinned x g) went f = ap Some f.0
tokens_of (request.Join y page) (answer.Pinned x g) went f = absurd f
tokens_of (request.Unfix y h) (answer.Pinned x g) went f = absurd f
tokens_of (request.Scatter y h) (answer.Pinned x g) went f = absurd f
tokens_of (request.LatchShared y h) (answer.Pinned x g) went f = absurd f
tokens_of (request.LatchExclusive y h) (answer.Pinned x g) went f = absurd f
tokens_of (request.UnlatchShared y h) (answer.Pinned x g) went f = ap Some f.0
tokens_of (request.UnlatchExclusive y h) (answer.Pinned x g) went f = ap Some f.0
tokens_of (request.Choose y branch) (answer.Pinned x g) went f = absurd f
tokens_of (request.Finish y) (answer.Pinned x g) went f = absurd f
tokens_of (request.End y) (answer.Pinned x g) went f = absurd f
tokens_of (request.GiveBack y h) (answer.Pinned x g) went f = absurd f
tokens_of (request.Answer returned) (answer.Pinned x g) went f = sym f.0
tokens_of (request.AnswerJoin returned) (answer.Pinned x g) went f = absurd f
tokens_of (request.Flush page) (answer.Pinned x g) went f = absurd f
tokens_of (request.FlushNext number) (answer.Pinned x g) went f = absurd f
tokens_of (request.Take chair) (answer.Opened x g) went f = absurd f
tokens_of (request.Fix y page) (answer.Opened x g) went f = ap Some f.0
tokens_of (request.Join y page) (answer.Opened x g) went f = absurd f
tokens_of (request.Unfix y h) (answer.Opened x g) went f = absurd f
tokens_of (request.Scatter y h) (answer.Opened x g) went f = absurd f
tokens_of (request.LatchShared y h) (answer.Opened x g) went f = absurd f
tokens_of (request.LatchExclusive y h) (answer.Opened x g) went f = absurd f
tokens_of (request.UnlatchShared y h) (answer.Opened x g) went f = absurd f
tokens_of (request.UnlatchExclusive y h) (answer.Opened x g) went f = absurd f
tokens_of (request.Choose y branch) (answer.Opened x g) went f = absurd f
tokens_of (request.Finish y) (answer.Opened x g) went f = absurd f
tokens_of (request.End y) (answer.Opened x g) went f = absurd f
tokens_of (request.GiveBack y h) (answer.Opened x g) went f = absurd f
tokens_of (request.Answer returned) (answer.Opened x g) went f = sym f.0
tokens_of (request.AnswerJoin returned) (answer.Opened x g) went f = absurd f
tokens_of (request.Flush page) (answer.Opened x g) went f = absurd f
tokens_of (request.FlushNext number) (answer.Opened x g) went f = absurd f
tokens_of (request.Take chair) (answer.Joined x) went f = absurd f
tokens_of (request.Fix y page) (answer.Joined x) went f = ap Some f
tokens_of (request.Join y page) (answer.Joined x) went f = ap Some f
tokens_of (request.Unfix y h) (answer.Joined x) went f = absurd f
tokens_of (request.Scatter y h) (answer.Joined x) went f = absurd f
tokens_of (request.LatchShared y h) (answer.Joined x) went f = absurd f
tokens_of (request.LatchExclusive y h) (answer.Joined x) went f = absurd f
tokens_of (request.UnlatchShared y h) (answer.Joined x) went f = absurd f
tokens_of (request.UnlatchExclusive y h) (answer.Joined x) went f = absurd f
tokens_of (request.Choose y branch) (answer.Joined x) went f = absurd f
tokens_of (request.Finish y) (answer.Joined x) went f = absurd f
tokens_of (request.End y) (answer.Joined x) went f = absurd f
tokens_of (request.GiveBack y h) (answer.Joined x) went f = absurd f
tokens_of (request.Answer returned) (answer.Joined x) went f = sym f
tokens_of (request.AnswerJoin returned) (answer.Joined x) went f = sym f
tokens_of (request.Flush page) (answer.Joined x) went f = absurd f
tokens_of (request.FlushNext number) (answer.Joined x) went f = absurd f
tokens_of (request.Take chair) (answer.Shared x g) went f = absurd f
tokens_of (request.Fix y page) (answer.Shared x g) went f = absurd f
tokens_of (request.Join y page) (answer.Shared x g) went f = absurd f
tokens_of (request.Unfix y h) (answer.Shared x g) went f = absurd f
tokens_of (request.Scatter y h) (answer.Shared x g) went f = absurd f
tokens_of (request.LatchShared y h) (answer.Shared x g) went f = ap Some f.0
tokens_of (request.LatchExclusive y h) (answer.Shared x g) went f = absurd f
tokens_of (request.UnlatchShared y h) (answer.Shared x g) went f = absurd f
tokens_of (request.UnlatchExclusive y h) (answer.Shared x g) went f = absurd f
tokens_of (request.Choose y branch) (answer.Shared x g) went f = absurd f
tokens_of (request.Finish y) (answer.Shared x g) went f = absurd f
tokens_of (request.End y) (answer.Shared x g) went f = absurd f
tokens_of (request.GiveBack y h) (answer.Shared x g) went f = absurd f
tokens_of (request.Answer returned) (answer.Shared x g) went f = absurd f
tokens_of (request.AnswerJoin returned) (answer.Shared x g) went f = absurd f
tokens_of (request.Flush page) (answer.Shared x g) went f = absurd f
tokens_of (request.FlushNext number) (answer.Shared x g) went f = absurd f
tokens_of (request.Take chair) (answer.Exclusive x g) went f = absurd f
tokens_of (request.Fix y page) (answer.Exclusive x g) went f = absurd f
tokens_of (request.Join y page) (answer.Exclusive x g) went f = absurd f
tokens_of (request.Unfix y h) (answer.Exclusive x g) went f = absurd f
tokens_of (request.Scatter y h) (answer.Exclusive x g) went f = absurd f
tokens_of (request.LatchShared y h) (answer.Exclusive x g) went f = absurd f
tokens_of (request.LatchExclusive y h) (answer.Exclusive x g) went f = ap Some f.0
tokens_of (request.UnlatchShared y h) (answer.Exclusive x g) went f = absurd f
tokens_of (request.UnlatchExclusive y h) (answer.Exclusive x g) went f = absurd f
tokens_of (request.Choose y branch) (answer.Exclusive x g) went f = absurd f
tokens_of (request.Finish y) (answer.Exclusive x g) went f = absurd f
tokens_of (request.End y) (answer.Exclusive x g) went f = absurd f
tokens_of (request.GiveBack y h) (answer.Exclusive x g) went f = absurd f
tokens_of (request.Answer returned) (answer.Exclusive x g) went f = absurd f
tokens_of (request.AnswerJoin returned) (answer.Exclusive x g) went f = absurd f
tokens_of (request.Flush page) (answer.Exclusive x g) went f = absurd f
tokens_of (request.FlushNext number) (answer.Exclusive x g) went f = absurd f
tokens_of (request.Take chair) (answer.Away errand) went f = absurd f
tokens_of (request.Fix y page) (answer.Away errand) went f = f
tokens_of (request.Join y page) (answer.Away errand) went f = f
tokens_of (request.Unfix y h) (answer.Away errand) went f = absurd f
tokens_of (request.Scatter y h) (answer.Away errand) went f = absurd f
tokens_of (request.LatchShared y h) (answer.Away errand) went f = absurd f
tokens_of (request.LatchExclusive y h) (answer.Away errand) went f = absurd f
tokens_of (request.UnlatchShared y h) (answer.Away errand) went f = absurd f
tokens_of (request.UnlatchExclusive y h) (answer.Away errand) went f = absurd f
tokens_of (request.Choose y branch) (answer.Away errand) went f = absurd f
tokens_of (request.Finish y) (answer.Away errand) went f = absurd f
tokens_of (request.End y) (answer.Away errand) went f = absurd f
tokens_of (request.GiveBack y h) (answer.Away errand) went f = absurd f
tokens_of (request.Answer returned) (answer.Away errand) went f = f
tokens_of (request.AnswerJoin returned) (answer.Away errand) went f = f
tokens_of (request.Flush page) (answer.Away errand) went f = f
tokens_of (request.FlushNext number) (answer.Away errand) went f = f
tokens_of (request.Take chair) (answer.Flushed clean) went f = absurd f
tokens_of (request.Fix y page) (answer.Flushed clean) went f = absurd f
tokens_of (request.Join y page) (answer.Flushed clean) went f = absurd f
tokens_of (request.Unfix y h) (answer.Flushed clean) went f = absurd f
tokens_of (request.Scatter y h) (answer.Flushed clean) went f = absurd f
tokens_of (request.LatchShared y h) (answer.Flushed clean) went f = absurd f
tokens_of (request.LatchExclusive y h) (answer.Flushed clean) went f = absurd f
tokens_of (request.UnlatchShared y h) (answer.Flushed clean) went f = absurd f
tokens_of (request.UnlatchExclusive y h) (answer.Flushed clean) went f = absurd f
tokens_of (request.Choose y branch) (answer.Flushed clean) went f = absurd f
tokens_of (request.Finish y) (answer.Flushed clean) went f = absurd f
tokens_of (request.End y) (answer.Flushed clean) went f = absurd f
tokens_of (request.GiveBack y h) (answer.Flushed clean) went f = absurd f
tokens_of (request.Answer returned) (answer.Flushed clean) went f = sym f
tokens_of (request.AnswerJoin returned) (answer.Flushed clean) went f = absurd f
tokens_of (request.Flush page) (answer.Flushed clean) went f = absurd f
tokens_of (request.FlushNext number) (answer.Flushed clean) went f = absurd f
tokens_of asked (answer.No back why) went f = absurd (false≢true (sym went))

pub end_idles : (asked : Request) (out : BookAnswer) → is_no out ≡ false → TokensFit asked out → is_idle out ≡ is_end asked
end_idles (request.Take chair) (answer.Acts x) went f = refl
end_idles (request.Fix y page) (answer.Acts x) went f = absurd f
end_idles (request.Join y page) (answer.Acts x) went f = absurd f
end_idles (request.Unfix y h) (answer.Acts x) went f = refl
end_idles (request.Scatter y h) (answer.Acts x) went f = refl
end_idles (request.LatchShared y h) (answer.Acts x) went f = absurd f
end_idles (request.LatchExclusive y h) (answer.Acts x) went f = absurd f
end_idles (request.UnlatchShared y h) (answer.Acts x) went f = absurd f
end_idles (request.UnlatchExclusive y h) (answer.Acts x) went f = absurd f
end_idles (request.Choose y branch) (answer.Acts x) went f = refl
end_idles (request.Finish y) (answer.Acts x) went f = absurd f
end_idles (request.End y) (answer.Acts x) went f = absurd f
end_idles (request.GiveBack y h) (answer.Acts x) went f = absurd f
end_idles (request.Answer returned) (answer.Acts x) went f = absurd f
end_idles (request.AnswerJoin returned) (answer.Acts x) went f = absurd f
end_idles (request.Flush page) (answer.Acts x) went f = absurd f
end_idles (request.FlushNext number) (answer.Acts x) went f = absurd f
end_idles (request.Take chair) (answer.Idle c) went f = absurd f
end_idles (request.Fix y page) (answer.Idle c) went f = absurd f
end_idles (request.Join y page) (answer.Idle c) went f = absurd f
end_idles (request.Unfix y h) (answer.Idle c) went f = absurd f
end_idles (request.Scatter y h) (answer.Idle c) went f = absurd f
end_idles (request.LatchShared y h) (answer.Idle c) went f = absurd f
end_idles (request.LatchExclusive y h) (answer.Idle c) went f = absurd f
end_idles (request.UnlatchShared y h) (answer.Idle c) went f = absurd f
end_idles (request.UnlatchExclusive y h) (answer.Idle c) went f = absurd f
end_idles (request.Choose y branch) (answer.Idle c) went f = absurd f
end_idles (request.Finish y) (answer.Idle c) went f = refl
end_idles (request.End y) (answer.Idle c) went f = refl
end_idles (request.GiveBack y h) (answer.Idle c) went f = absurd f
end_idles (request.Answer returned) (answer.Idle c) went f = absurd f
end_idles (request.AnswerJoin returned) (answer.Idle c) went f = absurd f
end_idles (request.Flush page) (answer.Idle c) went f = absurd f
end_idles (request.FlushNext number) (answer.Idle c) went f = absurd f
end_idles (request.Take chair) (answer.Leaves x) went f = absurd f
end_idles (request.Fix y page) (answer.Leaves x) went f = absurd f
end_idles (request.Join y page) (answer.Leaves x) went f = absurd f
end_idles (request.Unfix y h) (answer.Leaves x) went f = absurd f
end_idles (request.Scatter y h) (answer.Leaves x) went f = absurd f
end_idles (request.LatchShared y h) (answer.Leaves x) went f = absurd f
end_idles (request.LatchExclusive y h) (answer.Leaves x) went f = absurd f
end_idles (request.UnlatchShared y h) (answer.Leaves x) went f = absurd f
end_idles (request.UnlatchExclusive y h) (answer.Leaves x) went f = absurd f
end_idles (request.Choose y branch) (answer.Leaves x) went f = absurd f
end_idles (request.Finish y) (answer.Leaves x) went f = absurd f
end_idles (request.End y) (answer.Leaves x) went f = absurd f
end_idles (request.GiveBack y h) (answer.Leaves x) went f = refl
end_idles (request.Answer returned) (answer.Leaves x) went f = refl
end_idles (request.AnswerJoin returned) (answer.Leaves x) went f = refl
end_idles (request.Flush page) (answer.Leaves x) went f = absurd f
end_idles (request.FlushNext number) (answer.Leaves x) went f = absurd f
end_idles (request.Take chair) (answer.Pinned x g) went f = absurd f
end_idles (request.Fix y page) (answer.Pinned x g) went f = refl
end_idles (request.Join y page) (answer.Pinned x g) went f = absurd f
end_idles (request.Unfix y h) (answer.Pinned x g) went f = absurd f
end_idles (request.Scatter y h) (answer.Pinned x g) went f = absurd f
end_idles (request.LatchShared y h) (answer.Pinned x g) went f = absurd f
end_idles (request.LatchExclusive y h) (answer.Pinned x g) went f = absurd f
end_idles (request.UnlatchShared y h) (answer.Pinned x g) went f = refl
end_idles (request.UnlatchExclusive y h) (answer.Pinned x g) went f = refl
end_idles (request.Choose y branch) (answer.Pinned x g) went f = absurd f
end_idles (request.Finish y) (answer.Pinned x g) went f = absurd f
end_idles (request.End y) (answer.Pinned x g) went f = absurd f
end_idles (request.GiveBack y h) (answer.Pinned x g) went f = absurd f
end_idles (request.Answer returned) (answer.Pinned x g) went f = refl
end_idles (request.AnswerJoin returned) (answer.Pinned x g) went f = absurd f
end_idles (request.Flush page) (answer.Pinned x g) went f = absurd f
end_idles (request.FlushNext number) (answer.Pinned x g) went f = absurd f
end_idles (request.Take chair) (answer.Opened x g) went f = absurd f
end_idles (request.Fix y page) (answer.Opened x g) went f = refl
end_idles (request.Join y page) (answer.Opened x g) went f = absurd f
end_idles (request.Unfix y h) (answer.Opened x g) went f = absurd f
end_idles (request.Scatter y h) (answer.Opened x g) went f = absurd f
end_idles (request.LatchShared y h) (answer.Opened x g) went f = absurd f
end_idles (request.LatchExclusive y h) (answer.Opened x g) went f = absurd f
end_idles (request.UnlatchShared y h) (answer.Opened x g) went f = absurd f
end_idles (request.UnlatchExclusive y h) (answer.Opened x g) went f = absurd f
end_idles (request.Choose y branch) (answer.Opened x g) went f = absurd f
end_idles (request.Finish y) (answer.Opened x g) went f = absurd f
end_idles (request.End y) (answer.Opened x g) went f = absurd f
end_idles (request.GiveBack y h) (answer.Opened x g) went f = absurd f
end_idles (request.Answer returned) (answer.Opened x g) went f = refl
end_idles (request.AnswerJoin returned) (answer.Opened x g) went f = absurd f
end_idles (request.Flush page) (answer.Opened x g) went f = absurd f
end_idles (request.FlushNext number) (answer.Opened x g) went f = absurd f
end_idles (request.Take chair) (answer.Joined x) went f = absurd f
end_idles (request.Fix y page) (answer.Joined x) went f = refl
end_idles (request.Join y page) (answer.Joined x) went f = refl
end_idles (request.Unfix y h) (answer.Joined x) went f = absurd f
end_idles (request.Scatter y h) (answer.Joined x) went f = absurd f
end_idles (request.LatchShared y h) (answer.Joined x) went f = absurd f
end_idles (request.LatchExclusive y h) (answer.Joined x) went f = absurd f
end_idles (request.UnlatchShared y h) (answer.Joined x) went f = absurd f
end_idles (request.UnlatchExclusive y h) (answer.Joined x) went f = absurd f
end_idles (request.Choose y branch) (answer.Joined x) went f = absurd f
end_idles (request.Finish y) (answer.Joined x) went f = absurd f
end_idles (request.End y) (answer.Joined x) went f = absurd f
end_idles (request.GiveBack y h) (answer.Joined x) went f = absurd f
end_idles (request.Answer returned) (answer.Joined x) went f = refl
end_idles (request.AnswerJoin returned) (answer.Joined x) went f = refl
end_idles (request.Flush page) (answer.Joined x) went f = absurd f
end_idles (request.FlushNext number) (answer.Joined x) went f = absurd f
end_idles (request.Take chair) (answer.Shared x g) went f = absurd f
end_idles (request.Fix y page) (answer.Shared x g) went f = absurd f
end_idles (request.Join y page) (answer.Shared x g) went f = absurd f
end_idles (request.Unfix y h) (answer.Shared x g) went f = absurd f
end_idles (request.Scatter y h) (answer.Shared x g) went f = absurd f
end_idles (request.LatchShared y h) (answer.Shared x g) went f = refl
end_idles (request.LatchExclusive y h) (answer.Shared x g) went f = absurd f
end_idles (request.UnlatchShared y h) (answer.Shared x g) went f = absurd f
end_idles (request.UnlatchExclusive y h) (answer.Shared x g) went f = absurd f
end_idles (request.Choose y branch) (answer.Shared x g) went f = absurd f
end_idles (request.Finish y) (answer.Shared x g) went f = absurd f
end_idles (request.End y) (answer.Shared x g) went f = absurd f
end_idles (request.GiveBack y h) (answer.Shared x g) went f = absurd f
end_idles (request.Answer returned) (answer.Shared x g) went f = absurd f
end_idles (request.AnswerJoin returned) (answer.Shared x g) went f = absurd f
end_idles (request.Flush page) (answer.Shared x g) went f = absurd f
end_idles (request.FlushNext number) (answer.Shared x g) went f = absurd f
end_idles (request.Take chair) (answer.Exclusive x g) went f = absurd f
end_idles (request.Fix y page) (answer.Exclusive x g) went f = absurd f
end_idles (request.Join y page) (answer.Exclusive x g) went f = absurd f
end_idles (request.Unfix y h) (answer.Exclusive x g) went f = absurd f
end_idles (request.Scatter y h) (answer.Exclusive x g) went f = absurd f
end_idles (request.LatchShared y h) (answer.Exclusive x g) went f = absurd f
end_idles (request.LatchExclusive y h) (answer.Exclusive x g) went f = refl
end_idles (request.UnlatchShared y h) (answer.Exclusive x g) went f = absurd f
end_idles (request.UnlatchExclusive y h) (answer.Exclusive x g) went f = absurd f
end_idles (request.Choose y branch) (answer.Exclusive x g) went f = absurd f
end_idles (request.Finish y) (answer.Exclusive x g) went f = absurd f
end_idles (request.End y) (answer.Exclusive x g) went f = absurd f
end_idles (request.GiveBack y h) (answer.Exclusive x g) went f = absurd f
end_idles (request.Answer returned) (answer.Exclusive x g) went f = absurd f
end_idles (request.AnswerJoin returned) (answer.Exclusive x g) went f = absurd f
end_idles (request.Flush page) (answer.Exclusive x g) went f = absurd f
end_idles (request.FlushNext number) (answer.Exclusive x g) went f = absurd f
end_idles (request.Take chair) (answer.Away errand) went f = absurd f
end_idles (request.Fix y page) (answer.Away errand) went f = refl
end_idles (request.Join y page) (answer.Away errand) went f = refl
end_idles (request.Unfix y h) (answer.Away errand) went f = absurd f
end_idles (request.Scatter y h) (answer.Away errand) went f = absurd f
end_idles (request.LatchShared y h) (answer.Away errand) went f = absurd f
end_idles (request.LatchExclusive y h) (answer.Away errand) went f = absurd f
end_idles (request.UnlatchShared y h) (answer.Away errand) went f = absurd f
end_idles (request.UnlatchExclusive y h) (answer.Away errand) went f = absurd f
end_idles (request.Choose y branch) (answer.Away errand) went f = absurd f
end_idles (request.Finish y) (answer.Away errand) went f = absurd f
end_idles (request.End y) (answer.Away errand) went f = absurd f
end_idles (request.GiveBack y h) (answer.Away errand) went f = absurd f
end_idles (request.Answer returned) (answer.Away errand) went f = refl
end_idles (request.AnswerJoin returned) (answer.Away errand) went f = refl
end_idles (request.Flush page) (answer.Away errand) went f = refl
end_idles (request.FlushNext number) (answer.Away errand) went f = refl
end_idles (request.Take chair) (answer.Flushed clean) went f = absurd f
end_idles (request.Fix y page) (answer.Flushed clean) went f = absurd f
end_idles (request.Join y page) (answer.Flushed clean) went f = absurd f
end_idles (request.Unfix y h) (answer.Flushed clean) went f = absurd f
end_idles (request.Scatter y h) (answer.Flushed clean) went f = absurd f
end_idles (request.LatchShared y h) (answer.Flushed clean) went f = absurd f
end_idles (request.LatchExclusive y h) (answer.Flushed clean) went f = absurd f
end_idles (request.UnlatchShared y h) (answer.Flushed clean) went f = absurd f
end_idles (request.UnlatchExclusive y h) (answer.Flushed clean) went f = absurd f
end_idles (request.Choose y branch) (answer.Flushed clean) went f = absurd f
end_idles (request.Finish y) (answer.Flushed clean) went f = absurd f
end_idles (request.End y) (answer.Flushed clean) went f = absurd f
end_idles (request.GiveBack y h) (answer.Flushed clean) went f = absurd f
end_idles (request.Answer returned) (answer.Flushed clean) went f = refl
end_idles (request.AnswerJoin returned) (answer.Flushed clean) went f = absurd f
end_idles (request.Flush page) (answer.Flushed clean) went f = absurd f
end_idles (request.FlushNext number) (answer.Flushed clean) went f = absurd f
end_idles asked (answer.No back why) went f = absurd (false≢true (sym went))
