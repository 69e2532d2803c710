-- A turn of the flusher calls its device as often as it counts.
use Rattle.std.proofs.Common.{◌≡◌, ◌≢◌, ◌∙◌, ◌+◌, inl, inr, ℕ, true, false, Option, Some, None, List, refl, sym}
use Rattle.std.proofs.Common.{ap, subst, arith}
use Rattle.std.specs.Prelude.{is_ok}
use Rattle.std.specs.Option.{is_some}
use Rattle.std.proofs.lemmas.Bool.{false≢true}
use Rattle.pp_model.specs.declared.event.Event.{Event}
use Rattle.pp_model.specs.declared.event.Event.TheVariants.{Submit, Step}
use Rattle.pp_model.specs.declared.moves.Move.{Move}
use Rattle.pp_model.specs.declared.moves.Move.TheVariants as move
use Rattle.pp_model.specs.declared.refusals.Cause.TheVariants as cause
use Rattle.pp_device.specs.Answers.{Answer as DeviceAnswer}
use Rattle.pp_vault.specs.declared.refusal.Refusal.{Refusal}
use Rattle.pp_vault.specs.declared.refusal.Refusal.TheVariants as refusal
use Rattle.pp_vault.specs.declared.hands.Flushing.{Flushing}
use Rattle.pp_vault.specs.declared.hands.Flushing.TheVariants as flushing
use Rattle.pp_vault.specs.Duties.{duty_worker}
use Rattle.pp_pool.specs.declared.request.Request.{Request}
use Rattle.pp_pool.specs.declared.request.Request.TheVariants as request
use Rattle.pp_pool.specs.declared.response.BookAnswer.{BookAnswer}
use Rattle.pp_pool.specs.declared.response.BookAnswer.TheVariants as answer
use Rattle.pp_pool.specs.declared.response.Response.{Response}
use Rattle.pp_pool.specs.declared.turned.Turned.TheVariants.{Done, Ended}
use Rattle.pp_pool.specs.declared.flusher.Flusher.{Flusher}
use Rattle.pp_pool.specs.Performing.{is_no}
use Rattle.pp_pool.specs.Replies.{IsMoveOf}
use Rattle.pp_pool.specs.Flushings.{IsFlush, AsksFlush, ends_in, failures_in, flushing_after, flush_turned_by, flush_turned}
use Rattle.pp_pool.specs.FlushTurns.{FlushTurns, FlushTurnIs}
use Rattle.pp_run.specs.Calling.{ended_flushes_of, failed_flushes_of}
use Rattle.pp_run.specs.Counted.{HoldsNoAnswer}
use Rattle.pp_run.specs.Ends.{FlushesBy}
use Rattle.pp_run.specs.Shared.{IsGiven}
use Rattle.pp_run.proofs.Told.{Tells, told, untold, Ends, answer_ends}

-- ---- how a turn ends

not_done : (why : Refusal) → flush_turned_by why ≢ Done
not_done (refusal.NotNow delay) e = cc
not_done (refusal.OffPlan cause.NotDirty) e = cc
not_done (refusal.OffPlan cause.NoFlushLeft) e = cc
not_done (refusal.OffPlan cause.NoWorker) e = cc
not_done (refusal.OffPlan cause.NotIdle) e = cc
not_done (refusal.OffPlan cause.NotActing) e = cc
not_done (refusal.OffPlan cause.NotAsked) e = cc
not_done (refusal.OffPlan cause.NoErrand) e = cc
not_done (refusal.OffPlan cause.NotLeaving) e = cc
not_done (refusal.OffPlan cause.NotHeld) e = cc
not_done (refusal.OffPlan cause.NotEnded) e = cc
not_done refusal.Stranger e = cc

done_is_yes : (out : BookAnswer) → Done ≡ flush_turned out → is_no out ≡ false
done_is_yes (answer.Acts x) h = refl
done_is_yes (answer.Idle x) h = refl
done_is_yes (answer.Leaves x) h = refl
done_is_yes (answer.Pinned x g) h = refl
done_is_yes (answer.Opened x g) h = refl
done_is_yes (answer.Joined x) h = refl
done_is_yes (answer.Shared x g) h = refl
done_is_yes (answer.Exclusive x g) h = refl
done_is_yes (answer.Away errand) h = refl
done_is_yes (answer.Flushed clean) h = refl
done_is_yes (answer.No back why) h = absurd (not_done why (sym h))

ended_is_no : (out : BookAnswer) → Ended ≡ flush_turned out → is_no out ≡ true
ended_is_no (answer.Acts x) h = absurd cc
ended_is_no (answer.Idle x) h = absurd cc
ended_is_no (answer.Leaves x) h = absurd cc
ended_is_no (answer.Pinned x g) h = absurd cc
ended_is_no (answer.Opened x g) h = absurd cc
ended_is_no (answer.Joined x) h = absurd cc
ended_is_no (answer.Shared x g) h = absurd cc
ended_is_no (answer.Exclusive x g) h = absurd cc
ended_is_no (answer.Away errand) h = absurd cc
ended_is_no (answer.Flushed clean) h = absurd cc
ended_is_no (answer.No back why) h = refl

-- What is in hand after a turn that was done has no answer of a device.
untold_after : (out : BookAnswer) → is_no out ≡ false → HoldsNoAnswer (flushing_after out)
untold_after (answer.Acts x) h = tt
untold_after (answer.Idle x) h = tt
untold_after (answer.Leaves x) h = tt
untold_after (answer.Pinned x g) h = tt
untold_after (answer.Opened x g) h = tt
untold_after (answer.Joined x) h = tt
untold_after (answer.Shared x g) h = tt
untold_after (answer.Exclusive x g) h = tt
untold_after (answer.Away errand) h = tt
untold_after (answer.Flushed clean) h = tt
untold_after (answer.No back why) h = absurd (false≢true (sym h))

-- ---- what an event tells

ends_at : (e : Event) → ends_in (Some e) ≡ Rattle.pp_run.specs.Calling.at_event ended_flushes_of e
ends_at (Submit plan) = refl
ends_at (Step (move.Take w) reply) = refl
ends_at (Step (move.Fix w page) reply) = refl
ends_at (Step (move.WriteDone w ok) reply) = refl
ends_at (Step (move.ReadDone w came) reply) = refl
ends_at (Step (move.Unfix w) reply) = refl
ends_at (Step (move.Latch w) reply) = refl
ends_at (Step (move.Unlatch w) reply) = refl
ends_at (Step (move.Choose w branch) reply) = refl
ends_at (Step (move.Unwind w slot) reply) = refl
ends_at (Step (move.Finish w) reply) = refl
ends_at (Step (move.FlushBegin page) reply) = refl
ends_at (Step (move.FlushDone ok) reply) = refl

failures_at : (e : Event) → failures_in (Some e) ≡ Rattle.pp_run.specs.Calling.at_event failed_flushes_of e
failures_at (Submit plan) = refl
failures_at (Step (move.Take w) reply) = refl
failures_at (Step (move.Fix w page) reply) = refl
failures_at (Step (move.WriteDone w ok) reply) = refl
failures_at (Step (move.ReadDone w came) reply) = refl
failures_at (Step (move.Unfix w) reply) = refl
failures_at (Step (move.Latch w) reply) = refl
failures_at (Step (move.Unlatch w) reply) = refl
failures_at (Step (move.Choose w branch) reply) = refl
failures_at (Step (move.Unwind w slot) reply) = refl
failures_at (Step (move.Finish w) reply) = refl
failures_at (Step (move.FlushBegin page) reply) = refl
failures_at (Step (move.FlushDone ok) reply) = refl

begin_ends : (page : ℕ) (did : Move) → did ≡ move.FlushBegin page → Ends did 0 0
begin_ends page did is = record { ended = ap ended_flushes_of is; failed_ends = ap failed_flushes_of is }

-- ---- the counts

module _ {D : Type 0} (reads : D → ℕ → List ℕ → DeviceAnswer → List ℕ → D → Type 0)
    (writes : D → ℕ → List ℕ → DeviceAnswer → D → Type 0) (calls failures : D → ℕ) where
  record Flushing-calls (old : D) (did : Move) (new : D) : Type 0 where
    pub called : calls new ≡ calls old + ended_flushes_of did
    pub failed : failures new ≡ failures old + failed_flushes_of did

  asked_ends : (hand : Option Flushing) (from : ℕ) (old : D) (asked : Request) (new : D) (event : Option Event)
      → IsFlush hand → HoldsNoAnswer hand → AsksFlush reads writes calls failures hand from old asked new
      → (t : Tells asked event) → Flushing-calls old t.did new
  asked_ends None from old asked new event flush untold asks t =
      let is = subst (λ r. IsMoveOf r t.did) asks.0 t.of in
      let c = begin_ends is.0 t.did is.1 in
      let a = ap calls asks.1 in let b = ap failures asks.1 in let n = c.ended in let m = c.failed_ends in
      record { called = omega (arith, a, n); failed = omega (arith, b, m) }
  asked_ends (Some (flushing.Out errand)) from old asked new event flush untold asks t =
      let is = subst (λ r. IsMoveOf r t.did) asks.sent t.of in
      let c = answer_ends asks.returned.duty asks.returned.image (is_ok asks.returned.answer) t.did
      (ap duty_worker asks.duty ∙ flush) is in
      let a = asks.called in let b = asks.failed in let n = c.ended in let m = c.failed_ends in
      record { called = omega (arith, a, n); failed = omega (arith, b, m) }
  asked_ends (Some (flushing.Back returned)) from old asked new event flush untold asks t = absurd untold

  -- A flusher with nothing in hand after a refusal has called no device.
  none_called : (hand : Option Flushing) (from : ℕ) (old : D) (asked : Request) (new : D) (out : BookAnswer)
      → AsksFlush reads writes calls failures hand from old asked new → HoldsNoAnswer hand → is_no out ≡ true
      → Rattle.pp_pool.specs.Replies.TokensFit asked out → flushing_after out ≡ None → new ≡ old
  none_called None from old asked new out asks untold back fit none = asks.1
  none_called (Some (flushing.Out errand)) from old asked new (answer.No r why) asks untold back fit none =
      let is : r ≡ request.Answer asks.returned = fit ∙ asks.sent in
      let h : ◌≡◌ {A = Option Flushing} (Some (flushing.Back asks.returned)) None
      = ap (λ q. flushing_after (answer.No q why)) (sym is) ∙ none in absurd cc
  none_called (Some (flushing.Out errand)) from old asked new (answer.Acts x) asks untold back fit none = absurd (false≢true back)
  none_called (Some (flushing.Out errand)) from old asked new (answer.Idle x) asks untold back fit none = absurd (false≢true back)
  none_called (Some (flushing.Out errand)) from old asked new (answer.Leaves x) asks untold back fit none = absurd (false≢true back)
  none_called (Some (flushing.Out errand)) from old asked new (answer.Pinned x g) asks untold back fit none = absurd (false≢true back)
  none_called (Some (flushing.Out errand)) from old asked new (answer.Opened x g) asks untold back fit none = absurd (false≢true back)
  none_called (Some (flushing.Out errand)) from old asked new (answer.Joined x) asks untold back fit none = absurd (false≢true back)
  none_called (Some (flushing.Out errand)) from old asked new (answer.Shared x g) asks untold back fit none = absurd (false≢true back)
  none_called (Some (flushing.Out errand)) from old asked new (answer.Exclusive x g) asks untold back fit none = absurd (false≢true back)
  none_called (Some (flushing.Out errand)) from old asked new (answer.Away e) asks untold back fit none = absurd (false≢true back)
  none_called (Some (flushing.Out errand)) from old asked new (answer.Flushed clean) asks untold back fit none = absurd (false≢true back)
  none_called (Some (flushing.Back returned)) from old asked new out asks untold back fit none = absurd untold

empty_hand : (f : Option Flushing) → is_some f ≡ false → f ≡ None
empty_hand None h = refl
empty_hand (Some f) h = absurd (false≢true (sym h))

-- ---- a turn

pub record FlushKept {S D : Type 0} (calls failures : D → ℕ) (old new : Flusher S D) : Type 0 where
  pub counts : FlushesBy calls failures old.device old.ended old.failed new.device new.ended new.failed
  pub untold : HoldsNoAnswer new.flushing

-- Where a site gives what a desk gave, whatever the desk.
module _ {S B D : Type 0} (desk : B → Request → Response → B → Type 0) (reads : D → ℕ → List ℕ → DeviceAnswer → List ℕ → D → Type 0)
    (writes : D → ℕ → List ℕ → DeviceAnswer → D → Type 0) (calls failures : D → ℕ) (old new : Flusher S D) where
  abbrev Given : S → Request → Response → S → Type 0
  Given s asked response t = IsGiven desk asked response

  turns_kept : (t : FlushTurns Given reads writes calls failures old Done new) → IsFlush old.flushing
      → HoldsNoAnswer old.flushing → FlushKept calls failures old new
  turns_kept t flush unsaid =
      let went = done_is_yes t.response.answer t.turned_is in
      let tells = told t.asked t.response t.given.0 went in
      let c = asked_ends reads writes calls failures old.flushing old.from old.device t.asked new.device t.response.event
      flush unsaid t.asks tells in
      let n : new.ended ≡ old.ended + ends_in (Some tells.e) = t.ended ∙ ap (λ e. old.ended + ends_in e) tells.is_event in
      let m : new.failed ≡ old.failed + failures_in (Some tells.e) = t.failed ∙ ap (λ e. old.failed + failures_in e) tells.is_event in
      let p : ends_in (Some tells.e) ≡ ended_flushes_of tells.did = ends_at tells.e ∙ tells.step ended_flushes_of in
      let q : failures_in (Some tells.e) ≡ failed_flushes_of tells.did = failures_at tells.e ∙ tells.step failed_flushes_of in
      let a = c.called in let b = c.failed in
      record {
        counts = record { called = omega (arith, n, a, p); failed = omega (arith, m, b, q) };
        untold = subst (λ f. HoldsNoAnswer f) (sym t.flushing) (untold_after t.response.answer went);
      }

  pub done_kept : FlushTurnIs Given reads writes calls failures old Done new → IsFlush old.flushing
      → HoldsNoAnswer old.flushing → FlushKept calls failures old new
  done_kept (inl t) flush unsaid = turns_kept t flush unsaid
  done_kept (inr full) flush unsaid = let h = full.broken in absurd cc

  turns_ended : (t : FlushTurns Given reads writes calls failures old Ended new) → HoldsNoAnswer old.flushing
      → is_some new.flushing ≡ false
      → FlushesBy calls failures old.device old.ended old.failed new.device new.ended new.failed
  turns_ended t unsaid none =
      let back = ended_is_no t.response.answer t.turned_is in
      let event = untold t.asked t.response t.given.0 back in
      let empty = empty_hand new.flushing none in
      let device = none_called reads writes calls failures old.flushing old.from old.device t.asked new.device
      t.response.answer t.asks unsaid back t.given.0.tokens (sym t.flushing ∙ empty) in
      let n : new.ended ≡ old.ended + 0 = t.ended ∙ ap (λ e. old.ended + ends_in e) event in
      let m : new.failed ≡ old.failed + 0 = t.failed ∙ ap (λ e. old.failed + failures_in e) event in
      let a = ap calls device in let b = ap failures device in
      record { called = omega (arith, a, n); failed = omega (arith, b, m) }

  pub ended_counts : FlushTurnIs Given reads writes calls failures old Ended new → HoldsNoAnswer old.flushing
      → is_some new.flushing ≡ false
      → FlushesBy calls failures old.device old.ended old.failed new.device new.ended new.failed
  ended_counts (inl t) unsaid none = turns_ended t unsaid none
  ended_counts (inr full) unsaid none = let h = full.broken in absurd cc

pub flushes_join : {D : Type 0} (calls failures : D → ℕ) (d e f : D) (a x b y c z : ℕ)
    → FlushesBy calls failures d a x e b y → FlushesBy calls failures e b y f c z
    → FlushesBy calls failures d a x f c z
flushes_join calls failures d e f a x b y c z h k =
    record { called = omega (arith, h.called, k.called); failed = omega (arith, h.failed, k.failed) }
