-- A turn of a worker calls its device as often as its event tells.
use Rattle.std.proofs.Common.{◌≡◌, ◌≢◌, ◌∙◌, ◌+◌, ◌++◌, inl, inr, ℕ, Bool, true, false, Option, Some, None, List, [], ◌∷◌}
use Rattle.std.proofs.Common.{refl, sym, ap, subst, arith}
use Rattle.std.specs.Prelude.{is_ok, if◌then◌else◌}
use Rattle.std.proofs.lemmas.Bool.{false≢true}
use Rattle.pp_settings.specs.Layout.{Geometry}
use Rattle.pp_model.specs.declared.moves.Move.{Move}
use Rattle.pp_model.specs.declared.event.Event.{Event}
use Rattle.pp_device.specs.declared.device.Device as Device
use Rattle.pp_device.specs.Answers.{Answer as DeviceAnswer}
use Rattle.pp_vault.specs.declared.refusal.Refusal.{Refusal}
use Rattle.pp_vault.specs.declared.refusal.Refusal.TheVariants as refusal
use Rattle.pp_model.specs.declared.refusals.Delay.TheVariants as delay
use Rattle.pp_vault.specs.declared.tokens.Returned.{Returned}
use Rattle.pp_vault.specs.declared.stage.Stage.{Stage}
use Rattle.pp_vault.specs.declared.stage.Stage.TheVariants as stage
use Rattle.pp_vault.specs.Duties.{duty_worker}
use Rattle.pp_vault.specs.Stages.{is_chair}
use Rattle.pp_pool.specs.declared.request.Request.{Request}
use Rattle.pp_pool.specs.declared.request.Request.TheVariants as request
use Rattle.pp_pool.specs.declared.response.BookAnswer.{BookAnswer}
use Rattle.pp_pool.specs.declared.response.BookAnswer.TheVariants as answer
use Rattle.pp_pool.specs.declared.site.Site as Site
use Rattle.pp_pool.specs.declared.work.Work as Work
use Rattle.pp_pool.specs.declared.turned.Turned.{Turned}
use Rattle.pp_pool.specs.declared.turned.Turned.TheVariants.{Done, Ended, NoMemory, Broken}
use Rattle.pp_pool.specs.declared.worker.Worker.{Worker}
use Rattle.pp_pool.specs.Requests.{events_in}
use Rattle.pp_pool.specs.Performing.{is_no}
use Rattle.pp_pool.specs.Replies.{TokensFit, IsMoveOf, duty_move}
use Rattle.pp_pool.specs.Turns.{Asks, IsStep, IsWayOut, IsTold, Uses, turned_by, stage_asked, stage_in, Turns}
use Rattle.pp_pool.specs.Turns.{TurnIs, TurnsOver}
use Rattle.pp_run.specs.Calling.{calls_of, failed_calls_of, total}
use Rattle.pp_run.specs.Counted.{IsAtWork}
use Rattle.pp_run.specs.Ends.{CountsBy}
use Rattle.pp_run.proofs.Totals.{total_append}
use Rattle.pp_run.proofs.Told.{Tells, told, untold, Calls, take_calls, step_calls, way_out_calls, answer_calls}

-- ---- how a turn ends

not_done : (why : Refusal) → turned_by why ≢ Done
not_done (refusal.NotNow delay.NothingWaiting) e = cc
not_done (refusal.NotNow delay.NoRoom) e = cc
not_done (refusal.NotNow delay.InFlight) e = cc
not_done (refusal.NotNow delay.FlushHolds) e = cc
not_done (refusal.NotNow delay.LatchHeld) e = cc
not_done (refusal.NotNow delay.FlushBusy) e = cc
not_done (refusal.OffPlan cause) e = cc
not_done refusal.Stranger e = cc

not_no_memory : (why : Refusal) → turned_by why ≢ NoMemory
not_no_memory (refusal.NotNow delay.NothingWaiting) e = cc
not_no_memory (refusal.NotNow delay.NoRoom) e = cc
not_no_memory (refusal.NotNow delay.InFlight) e = cc
not_no_memory (refusal.NotNow delay.FlushHolds) e = cc
not_no_memory (refusal.NotNow delay.LatchHeld) e = cc
not_no_memory (refusal.NotNow delay.FlushBusy) e = cc
not_no_memory (refusal.OffPlan cause) e = cc
not_no_memory refusal.Stranger e = cc

ended_not_done : ◌≡◌ {A = Turned} Ended Done → ⊥
ended_not_done e = cc

ended_not_looked : (shown : Bool) → ◌≡◌ {A = Turned} Ended (if shown then Done else Broken) → ⊥
ended_not_looked true e = cc
ended_not_looked false e = cc

no_memory_not_done : ◌≡◌ {A = Turned} NoMemory Done → ⊥
no_memory_not_done e = cc

no_memory_not_looked : (shown : Bool) → ◌≡◌ {A = Turned} NoMemory (if shown then Done else Broken) → ⊥
no_memory_not_looked true e = cc
no_memory_not_looked false e = cc

module _ {S W : Type 0} (s : Site.Ghosts S) (k : Work.Ghosts W) (site : S) (room : ℕ) (old left : W) where
  -- A turn that is done was no refusal.
  done_is_yes : (out after : BookAnswer) → Uses s k site room old out Done after left → is_no out ≡ false
  done_is_yes (answer.Acts x) after h = refl
  done_is_yes (answer.Idle x) after h = refl
  done_is_yes (answer.Leaves x) after h = refl
  done_is_yes (answer.Pinned x g) after h = refl
  done_is_yes (answer.Opened x g) after h = refl
  done_is_yes (answer.Joined x) after h = refl
  done_is_yes (answer.Shared x g) after h = refl
  done_is_yes (answer.Exclusive x g) after h = refl
  done_is_yes (answer.Away errand) after h = refl
  done_is_yes (answer.Flushed clean) after h = refl
  done_is_yes (answer.No back why) after h = absurd (not_done why (sym h.0))

  -- A turn that has ended was a refusal.
  ended_is_no : (out after : BookAnswer) → Uses s k site room old out Ended after left → is_no out ≡ true
  ended_is_no (answer.Acts x) after h = absurd (ended_not_done h.0)
  ended_is_no (answer.Idle x) after h = absurd (ended_not_done h.0)
  ended_is_no (answer.Leaves x) after h = absurd (ended_not_done h.0)
  ended_is_no (answer.Pinned x g) after h = absurd (ended_not_done h.0)
  ended_is_no (answer.Opened x g) after h = absurd (ended_not_done h.0)
  ended_is_no (answer.Joined x) after h = absurd (ended_not_done h.0)
  ended_is_no (answer.Away errand) after h = absurd (ended_not_done h.0)
  ended_is_no (answer.Flushed clean) after h = absurd (ended_not_done h.0)
  ended_is_no (answer.Shared x g) after h = absurd (ended_not_looked _ h.0.turned_is)
  ended_is_no (answer.Exclusive x g) after h = absurd (ended_not_done h.1)
  ended_is_no (answer.No back why) after h = refl

  -- No turn that asked has run out of memory.
  never_no_memory : (out after : BookAnswer) → Uses s k site room old out NoMemory after left → ⊥
  never_no_memory (answer.Acts x) after h = no_memory_not_done h.0
  never_no_memory (answer.Idle x) after h = no_memory_not_done h.0
  never_no_memory (answer.Leaves x) after h = no_memory_not_done h.0
  never_no_memory (answer.Pinned x g) after h = no_memory_not_done h.0
  never_no_memory (answer.Opened x g) after h = no_memory_not_done h.0
  never_no_memory (answer.Joined x) after h = no_memory_not_done h.0
  never_no_memory (answer.Away errand) after h = no_memory_not_done h.0
  never_no_memory (answer.Flushed clean) after h = no_memory_not_done h.0
  never_no_memory (answer.Shared x g) after h = no_memory_not_looked _ h.0.turned_is
  never_no_memory (answer.Exclusive x g) after h = no_memory_not_done h.1
  never_no_memory (answer.No back why) after h = not_no_memory why (sym h.0)

-- ---- the stage after a turn that was done

-- Where the request sends a device's answer, it is a worker's.
abbrev IsOfWorker : Request → Type 0
IsOfWorker (request.Answer returned) = duty_worker returned.duty ≢ None
IsOfWorker (request.AnswerJoin returned) = duty_worker returned.duty ≢ None
IsOfWorker (request.Flush page) = ⊥
IsOfWorker (request.FlushNext number) = ⊥
IsOfWorker _ = Unit {0}

step_of_worker : (layout : Geometry) (x : _) (asked : Request) → IsStep layout x asked → IsOfWorker asked
step_of_worker layout x (request.Take chair) h = tt
step_of_worker layout x (request.Fix y page) h = tt
step_of_worker layout x (request.Join y page) h = tt
step_of_worker layout x (request.Unfix y g) h = tt
step_of_worker layout x (request.Scatter y g) h = tt
step_of_worker layout x (request.LatchShared y g) h = tt
step_of_worker layout x (request.LatchExclusive y g) h = tt
step_of_worker layout x (request.UnlatchShared y g) h = tt
step_of_worker layout x (request.UnlatchExclusive y g) h = tt
step_of_worker layout x (request.Choose y branch) h = tt
step_of_worker layout x (request.Finish y) h = tt
step_of_worker layout x (request.End y) h = tt
step_of_worker layout x (request.GiveBack y g) h = tt
step_of_worker layout x (request.Answer returned) h = absurd h
step_of_worker layout x (request.AnswerJoin returned) h = absurd h
step_of_worker layout x (request.Flush page) h = absurd h
step_of_worker layout x (request.FlushNext number) h = absurd h

way_of_worker : (x : _) (asked : Request) → IsWayOut x asked → IsOfWorker asked
way_of_worker x (request.Take chair) h = tt
way_of_worker x (request.Fix y page) h = tt
way_of_worker x (request.Join y page) h = tt
way_of_worker x (request.Unfix y g) h = tt
way_of_worker x (request.Scatter y g) h = tt
way_of_worker x (request.LatchShared y g) h = tt
way_of_worker x (request.LatchExclusive y g) h = tt
way_of_worker x (request.UnlatchShared y g) h = tt
way_of_worker x (request.UnlatchExclusive y g) h = tt
way_of_worker x (request.Choose y branch) h = tt
way_of_worker x (request.Finish y) h = tt
way_of_worker x (request.End y) h = tt
way_of_worker x (request.GiveBack y g) h = tt
way_of_worker x (request.Answer returned) h = absurd h
way_of_worker x (request.AnswerJoin returned) h = absurd h
way_of_worker x (request.Flush page) h = absurd h
way_of_worker x (request.FlushNext number) h = absurd h

-- What is sent of a device is a worker's where the device worked for one; it is of the answer's move; and where it comes back,
-- that is in hand again.
told_of_worker : (returned : Returned) (asked : Request) → IsTold returned asked → duty_worker returned.duty ≢ None
    → IsOfWorker asked
told_of_worker returned asked (inl answer) of = subst (λ r. IsOfWorker r) (sym answer) of
told_of_worker returned asked (inr join) of = subst (λ r. IsOfWorker r) (sym join) of

told_move : (returned : Returned) (asked : Request) (did : Move) → IsTold returned asked → IsMoveOf asked did
    → did ≡ duty_move returned.duty returned.image (is_ok returned.answer)
told_move returned asked did (inl answer) of = subst (λ r. IsMoveOf r did) answer of
told_move returned asked did (inr join) of = subst (λ r. IsMoveOf r did) join of

told_stage : (returned : Returned) (asked : Request) → IsTold returned asked
    → stage_asked asked ≡ Some (stage.Back returned)
told_stage returned asked (inl answer) = ap stage_asked answer
told_stage returned asked (inr join) = ap stage_asked join

some_not_none : (w : ℕ) (o : Option ℕ) → o ≡ Some w → o ≢ None
some_not_none w o is none = let h : ◌≡◌ {A = Option ℕ} None (Some w) = sym none ∙ is in absurd cc

away_of_worker : (asked : Request) (errand : _) → IsOfWorker asked → TokensFit asked (answer.Away errand)
    → duty_worker errand.duty ≢ None
away_of_worker (request.Fix x page) errand of fit = some_not_none x.worker _ fit
away_of_worker (request.Join x page) errand of fit = some_not_none x.worker _ fit
away_of_worker (request.Answer returned) errand of fit = λ none. of (sym fit ∙ none)
away_of_worker (request.AnswerJoin returned) errand of fit = λ none. of (sym fit ∙ none)
away_of_worker (request.Flush page) errand of fit = absurd of
away_of_worker (request.FlushNext number) errand of fit = absurd of
away_of_worker (request.Take chair) errand of fit = absurd fit
away_of_worker (request.Unfix x g) errand of fit = absurd fit
away_of_worker (request.Scatter x g) errand of fit = absurd fit
away_of_worker (request.LatchShared x g) errand of fit = absurd fit
away_of_worker (request.LatchExclusive x g) errand of fit = absurd fit
away_of_worker (request.UnlatchShared x g) errand of fit = absurd fit
away_of_worker (request.UnlatchExclusive x g) errand of fit = absurd fit
away_of_worker (request.Choose x branch) errand of fit = absurd fit
away_of_worker (request.Finish x) errand of fit = absurd fit
away_of_worker (request.End x) errand of fit = absurd fit
away_of_worker (request.GiveBack x g) errand of fit = absurd fit

at_work : (s t : Stage) → ◌≡◌ {A = Option Stage} (Some s) (Some t) → IsAtWork s → IsAtWork t
at_work s t e h = let same : s ≡ t = cc in subst (λ x. IsAtWork x) same h

still_at_work : {S W : Type 0} (own : Site.Ghosts S) (k : Work.Ghosts W) (site : S) (room : ℕ) (old left : W) (turned : Turned)
    (asked : Request) (out after : BookAnswer) (s : Stage) → IsOfWorker asked → TokensFit asked out
    → is_no out ≡ false → Uses own k site room old out turned after left → stage_in after ≡ Some s → IsAtWork s
still_at_work own k site room old left turned asked (answer.Acts x) after s of fit went works is =
    at_work (stage.In x) s (sym (ap stage_in works.1) ∙ is) tt
still_at_work own k site room old left turned asked (answer.Idle x) after s of fit went works is =
    at_work (stage.Idle x) s (sym (ap stage_in works.1) ∙ is) tt
still_at_work own k site room old left turned asked (answer.Leaves x) after s of fit went works is =
    at_work (stage.Leaving x) s (sym (ap stage_in works.1) ∙ is) tt
still_at_work own k site room old left turned asked (answer.Pinned x g) after s of fit went works is =
    at_work (stage.In x) s (sym (ap stage_in works.1) ∙ is) tt
still_at_work own k site room old left turned asked (answer.Opened x g) after s of fit went works is =
    at_work (stage.In x) s (sym (ap stage_in works.1) ∙ is) tt
still_at_work own k site room old left turned asked (answer.Joined x) after s of fit went works is =
    at_work (stage.In x) s (sym (ap stage_in works.1) ∙ is) tt
still_at_work own k site room old left turned asked (answer.Shared x g) after s of fit went works is =
    at_work (stage.In x) s (sym (ap stage_in works.1) ∙ is) tt
still_at_work own k site room old left turned asked (answer.Exclusive x g) after s of fit went works is =
    at_work (stage.In x) s (sym (ap stage_in works.0.stays) ∙ is) tt
still_at_work own k site room old left turned asked (answer.Away errand) after s of fit went works is =
    at_work (stage.Out errand) s (sym (ap stage_in works.1) ∙ is) (away_of_worker asked errand of fit)
still_at_work own k site room old left turned asked (answer.Flushed clean) after s of fit went works is =
    let h : ◌≡◌ {A = Option Stage} None (Some s) = sym (ap stage_in works.1) ∙ is in absurd cc
still_at_work own k site room old left turned asked (answer.No back why) after s of fit went works is = absurd (false≢true (sym went))

-- ---- the counts

module _ {D : Type 0} (reads : D → ℕ → List ℕ → DeviceAnswer → List ℕ → D → Type 0)
    (writes : D → ℕ → List ℕ → DeviceAnswer → D → Type 0) (calls failures : D → ℕ) (layout : Geometry) where
  -- What asking does to the device, beside the event that tells of it.
  record Calling (old : D) (asked : Request) (did : _) (new : D) : Type 0 where
    pub called : calls new ≡ calls old + calls_of did
    pub failed : failures new ≡ failures old + failed_calls_of did

  quiet : (old new : D) (asked : Request) (did : _) → new ≡ old → Calls did 0 0 → Calling old asked did new
  quiet old new asked did same c = let a = ap calls same in let b = ap failures same in
      let n = c.called in let m = c.failed in
      record { called = omega (arith, a, n); failed = omega (arith, b, m) }

  asked_calls : (s : Stage) (old : D) (asked : Request) (new : D) (event : Option Event)
      → IsAtWork s → Asks reads writes calls failures layout s old asked new → (t : Tells asked event)
      → Calling old asked t.did new
  asked_calls (stage.Idle chair) old asked new event work asks t =
      quiet old new asked t.did asks.1 (take_calls chair.worker t.did (subst (λ r. Rattle.pp_pool.specs.Replies.IsMoveOf r t.did) asks.0 t.of))
  asked_calls (stage.In x) old asked new event work asks t =
      quiet old new asked t.did asks.1 (step_calls layout x asked t.did asks.0 t.of)
  asked_calls (stage.Leaving x) old asked new event work asks t =
      quiet old new asked t.did asks.1 (way_out_calls x asked t.did asks.0 t.of)
  asked_calls (stage.Back returned) old asked new event work asks t = absurd work
  asked_calls (stage.Out errand) old asked new event work asks t =
      let is = told_move asks.returned asked t.did asks.sent t.of in
      let c = answer_calls asks.returned.duty asks.returned.image (is_ok asks.returned.answer) t.did
      (λ none. work (sym (ap duty_worker asks.duty) ∙ none)) is in
      let a = asks.called in let b = asks.failed in let n = c.called in let m = c.failed in
      record { called = omega (arith, a, n); failed = omega (arith, b, m) }

  asked_of_worker : (s : Stage) (old : D) (asked : Request) (new : D) → IsAtWork s
      → Asks reads writes calls failures layout s old asked new → IsOfWorker asked
  asked_of_worker (stage.Idle chair) old asked new work asks = subst (λ r. IsOfWorker r) (sym asks.0) tt
  asked_of_worker (stage.In x) old asked new work asks = step_of_worker layout x asked asks.0
  asked_of_worker (stage.Leaving x) old asked new work asks = way_of_worker x asked asks.0
  asked_of_worker (stage.Back returned) old asked new work asks = absurd work
  asked_of_worker (stage.Out errand) old asked new work asks =
      told_of_worker asks.returned asked asks.sent (λ none. work (sym (ap duty_worker asks.duty) ∙ none))

  -- A worker whose request came back as that of a chair has called no device.
  chair_calls_none : (s : Stage) (old : D) (asked : Request) (new : D) (t : Stage) → is_chair t ≡ true
      → stage_asked asked ≡ Some t → Asks reads writes calls failures layout s old asked new → new ≡ old
  chair_calls_none (stage.Idle chair) old asked new t chair_t is asks = asks.1
  chair_calls_none (stage.In x) old asked new t chair_t is asks = asks.1
  chair_calls_none (stage.Leaving x) old asked new t chair_t is asks = asks.1
  chair_calls_none (stage.Back returned) old asked new t chair_t is asks = asks.1
  chair_calls_none (stage.Out errand) old asked new t chair_t is asks =
      let h : ◌≡◌ {A = Option Stage} (Some (stage.Back asks.returned)) (Some t) = sym (told_stage asks.returned asked asks.sent) ∙ is in
      let e : stage.Back asks.returned ≡ t = cc in absurd (false≢true (ap is_chair e ∙ chair_t))

-- ---- a turn

pub record Kept {S D : Type 0} (calls failures : D → ℕ) (old new : Worker S D) : Type 0 where
  pub counts : CountsBy calls failures old.device old.log.items new.device new.log.items
  pub work : IsAtWork new.hand.stage

module _ {S D W : Type 0} (s : Site.Ghosts S) (d : Device.Ghosts D) (k : Work.Ghosts W) (old new : Worker S D)
    (before left : W) where
  turns_kept : (made : Turns s d k old before Done new left) → IsAtWork old.hand.stage
      → Kept d.calls d.failures old new
  turns_kept made work =
      let t = made.makes in
      let went = done_is_yes s k new.site _ t.between t.used t.response.answer t.after t.uses in
      let tells = told t.asked t.response t.fits went in
      let c = asked_calls d.read_gives d.write_leaves d.calls d.failures old.layout old.hand.stage old.device t.asked new.device
      t.response.event work t.asks tells in
      let log : new.log.items ≡ old.log.items ++ events_in (Some tells.e) = t.log ∙ ap (λ e. old.log.items ++ events_in e) tells.is_event in
      let n : total calls_of new.log.items ≡ total calls_of old.log.items + total calls_of (events_in (Some tells.e))
      = ap (total calls_of) log ∙ total_append calls_of old.log.items (events_in (Some tells.e)) in
      let m : total failed_calls_of new.log.items ≡ total failed_calls_of old.log.items + total failed_calls_of (events_in (Some tells.e))
      = ap (total failed_calls_of) log ∙ total_append failed_calls_of old.log.items (events_in (Some tells.e)) in
      let a = c.called in let b = c.failed in let p = tells.step calls_of in let q = tells.step failed_calls_of in
      record {
        counts = record { called = omega (arith, n, a, p); failed = omega (arith, m, b, q) };
        work = still_at_work s k new.site _ t.between t.used Done t.asked t.response.answer t.after new.hand.stage
            (asked_of_worker d.read_gives d.write_leaves d.calls d.failures old.layout old.hand.stage old.device t.asked new.device work t.asks)
            t.fits.tokens went t.uses t.stage;
      }

  pub done_kept : TurnIs s d k old before Done new left → IsAtWork old.hand.stage
      → Kept d.calls d.failures old new
  done_kept (inl (inl t)) work = turns_kept t work
  done_kept (inl (inr t)) work = let broken = t.broken in absurd cc
  done_kept (inr w) work = absurd w.may

  same_counts : new.device ≡ old.device → new.log.items ≡ old.log.items
      → CountsBy d.calls d.failures old.device old.log.items new.device new.log.items
  same_counts device log =
      let a = ap d.calls device in let b = ap d.failures device in
      let n = ap (total calls_of) log in let m = ap (total failed_calls_of) log in
      record { called = omega (arith, a, n); failed = omega (arith, b, m) }

  pub no_memory_counts : TurnIs s d k old before NoMemory new left
      → CountsBy d.calls d.failures old.device old.log.items new.device new.log.items
  no_memory_counts (inl (inr t)) = let broken = t.broken in absurd cc
  no_memory_counts (inl (inl made)) =
      let t = made.makes in absurd (never_no_memory s k new.site _ t.between t.used t.response.answer t.after t.uses)
  no_memory_counts (inr w) = same_counts w.device w.log

  back_stage : (site : S) (room : ℕ) (work used : W) (turned : Turned) (asked : Request) (out after : BookAnswer) (t : Stage)
      → is_no out ≡ true → TokensFit asked out → Uses s k site room work out turned after used
      → stage_in after ≡ Some t → stage_asked asked ≡ Some t
  back_stage site room work used turned asked (answer.No r why) after t is_back fit uses is =
      sym (ap stage_asked fit) ∙ (sym (ap stage_in uses.1) ∙ is)
  back_stage site room work used turned asked (answer.Acts x) after t is_back fit uses is = absurd (false≢true is_back)
  back_stage site room work used turned asked (answer.Idle x) after t is_back fit uses is = absurd (false≢true is_back)
  back_stage site room work used turned asked (answer.Leaves x) after t is_back fit uses is = absurd (false≢true is_back)
  back_stage site room work used turned asked (answer.Pinned x g) after t is_back fit uses is = absurd (false≢true is_back)
  back_stage site room work used turned asked (answer.Opened x g) after t is_back fit uses is = absurd (false≢true is_back)
  back_stage site room work used turned asked (answer.Joined x) after t is_back fit uses is = absurd (false≢true is_back)
  back_stage site room work used turned asked (answer.Shared x g) after t is_back fit uses is = absurd (false≢true is_back)
  back_stage site room work used turned asked (answer.Exclusive x g) after t is_back fit uses is = absurd (false≢true is_back)
  back_stage site room work used turned asked (answer.Away errand) after t is_back fit uses is = absurd (false≢true is_back)
  back_stage site room work used turned asked (answer.Flushed clean) after t is_back fit uses is = absurd (false≢true is_back)

  turns_ended : (made : Turns s d k old before Ended new left) → is_chair new.hand.stage ≡ true
      → CountsBy d.calls d.failures old.device old.log.items new.device new.log.items
  turns_ended made chair =
      let t = made.makes in
      let is_back = ended_is_no s k new.site _ t.between t.used t.response.answer t.after t.uses in
      let none = untold t.asked t.response t.fits is_back in
      let back = back_stage new.site _ t.between t.used Ended t.asked t.response.answer t.after new.hand.stage is_back t.fits.tokens t.uses t.stage in
      let device = chair_calls_none d.read_gives d.write_leaves d.calls d.failures old.layout old.hand.stage old.device t.asked new.device
      new.hand.stage chair back t.asks in
      let log : new.log.items ≡ old.log.items ++ [] = t.log ∙ ap (λ e. old.log.items ++ events_in e) none in
      let n : total calls_of new.log.items ≡ total calls_of old.log.items + 0 = ap (total calls_of) log ∙ total_append calls_of old.log.items [] in
      let m : total failed_calls_of new.log.items ≡ total failed_calls_of old.log.items + 0 = ap (total failed_calls_of) log ∙ total_append failed_calls_of old.log.items [] in
      let a = ap d.calls device in let b = ap d.failures device in
      record { called = omega (arith, a, n); failed = omega (arith, b, m) }

  pub ended_counts : TurnIs s d k old before Ended new left → is_chair new.hand.stage ≡ true
      → CountsBy d.calls d.failures old.device old.log.items new.device new.log.items
  ended_counts (inl (inl t)) chair = turns_ended t chair
  ended_counts (inl (inr t)) chair = let broken = t.broken in absurd cc
  ended_counts (inr w) chair = absurd w.may

pub chair_at_work : (s : Stage) → is_chair s ≡ true → IsAtWork s
chair_at_work (stage.Idle chair) h = tt
chair_at_work (stage.In x) h = absurd (false≢true h)
chair_at_work (stage.Out x) h = absurd (false≢true h)
chair_at_work (stage.Back x) h = absurd (false≢true h)
chair_at_work (stage.Leaving x) h = absurd (false≢true h)

pub counts_join : {D : Type 0} (calls failures : D → ℕ) (d e f : D) (a b c : List Event)
    → CountsBy calls failures d a e b → CountsBy calls failures e b f c → CountsBy calls failures d a f c
counts_join calls failures d e f a b c x y =
    record { called = omega (arith, x.called, y.called); failed = omega (arith, x.failed, y.failed) }

-- ---- turns one behind another

module _ {S D W : Type 0} (s : Site.Ghosts S) (d : Device.Ghosts D) (k : Work.Ghosts W) where
  pub over_kept : (old : Worker S D) (before : W) (over : List (Worker S D × W)) (new : Worker S D) (left : W)
      → TurnsOver s d k old before over Done new left → IsAtWork old.hand.stage → Kept d.calls d.failures old new
  over_kept old before [] new left t work = done_kept s d k old new before left t work
  over_kept old before (mid ∷ rest) new left t work =
      let first = done_kept s d k old mid.0 before mid.1 t.0 work in
      let others = over_kept mid.0 mid.1 rest new left t.1 first.work in
      record {
        counts =
            counts_join d.calls d.failures old.device mid.0.device new.device old.log.items mid.0.log.items new.log.items
            first.counts others.counts;
        work = others.work;
      }

  -- What holds of the counts after the last turn, if that ends so, holds after all of them.
  over_counts : (turned : Turned) (new : Worker S D) (left : W)
      → ((old : Worker S D) (before : W) → TurnIs s d k old before turned new left
      → CountsBy d.calls d.failures old.device old.log.items new.device new.log.items)
      → (old : Worker S D) (before : W) (over : List (Worker S D × W)) → TurnsOver s d k old before over turned new left
      → IsAtWork old.hand.stage → CountsBy d.calls d.failures old.device old.log.items new.device new.log.items
  over_counts turned new left last old before [] t work = last old before t
  over_counts turned new left last old before (mid ∷ rest) t work =
      let first = done_kept s d k old mid.0 before mid.1 t.0 work in
      counts_join d.calls d.failures old.device mid.0.device new.device old.log.items mid.0.log.items new.log.items first.counts
      (over_counts turned new left last mid.0 mid.1 rest t.1 first.work)

  pub over_no_memory : (old : Worker S D) (before : W) (over : List (Worker S D × W)) (new : Worker S D) (left : W)
      → TurnsOver s d k old before over NoMemory new left → IsAtWork old.hand.stage
      → CountsBy d.calls d.failures old.device old.log.items new.device new.log.items
  over_no_memory old before over new left =
      over_counts NoMemory new left (λ x w. no_memory_counts s d k x new w left) old before over

  pub over_ended : (old : Worker S D) (before : W) (over : List (Worker S D × W)) (new : Worker S D) (left : W)
      → TurnsOver s d k old before over Ended new left → is_chair new.hand.stage ≡ true → IsAtWork old.hand.stage
      → CountsBy d.calls d.failures old.device old.log.items new.device new.log.items
  over_ended old before over new left t chair =
      over_counts Ended new left (λ x w u. ended_counts s d k x new w left u chair) old before over t
