-- A worker's tokens stay that worker's over a turn, and an errand keeps the place of its slot.
use Rattle.std.proofs.Common.{◌≡◌, ◌∙◌, ℕ, Bool, true, false, Option, Some, None, List, refl, sym, ap, subst, inl, inr}
use Rattle.std.specs.Prelude.{◌||◌, IfSome, IsSome}
use Rattle.std.proofs.lemmas.Bool.{false≢true}
use Rattle.pp_settings.specs.Layout.{Geometry}
use Rattle.pp_device.specs.Answers.{Answer as DeviceAnswer}
use Rattle.pp_vault.specs.declared.tokens.Session.{Session}
use Rattle.pp_vault.specs.declared.tokens.Leaver.{Leaver}
use Rattle.pp_vault.specs.declared.tokens.Errand.{Errand}
use Rattle.pp_vault.specs.declared.tokens.Returned.{Returned}
use Rattle.pp_vault.specs.declared.guards.Guard.{Guard}
use Rattle.pp_vault.specs.declared.stage.Stage.{Stage}
use Rattle.pp_vault.specs.declared.stage.Stage.TheVariants as stage
use Rattle.pp_vault.specs.Stages.{stage_worker}
use Rattle.pp_vault.specs.Duties.{duty_worker, duty_slot}
use Rattle.pp_vault.specs.Fits.{fix_slot}
use Rattle.pp_vault.specs.Holding.{slot_by, placed, is_free, has_bundle}
use Rattle.pp_pool.specs.declared.request.Request.{Request}
use Rattle.pp_pool.specs.declared.request.Request.TheVariants as request
use Rattle.pp_pool.specs.declared.response.BookAnswer.{BookAnswer}
use Rattle.pp_pool.specs.declared.response.BookAnswer.TheVariants as answer
use Rattle.pp_pool.specs.declared.response.Response.{Response}
use Rattle.pp_pool.specs.Replies.{TokensFit, slot_for, SlotFits, Replies}
use Rattle.pp_pool.specs.declared.turned.Turned.{Turned}
use Rattle.pp_pool.specs.declared.site.Site as Site
use Rattle.pp_pool.specs.declared.work.Work as Work
use Rattle.pp_pool.specs.Turns.{stage_asked, stage_in, Uses, IsStep, IsWayOut, Asks, guard_asked, guard_in, places_with}
use Rattle.pp_pool.specs.Turns.{FindsPlace, IsWorkers, Prepares, IsTold, HasBundle, has_place, keeps_place}
use Rattle.pp_pool.proofs.Turning.{used_stage}

-- The worker of a request; none where it is the flusher's.
abbrev worker_asked : Request → Option ℕ
worker_asked (request.Take chair) = Some chair.worker
worker_asked (request.Fix x page) = Some x.worker
worker_asked (request.Join x page) = Some x.worker
worker_asked (request.Unfix x g) = Some x.worker
worker_asked (request.Scatter x g) = Some x.worker
worker_asked (request.LatchShared x g) = Some x.worker
worker_asked (request.LatchExclusive x g) = Some x.worker
worker_asked (request.UnlatchShared x g) = Some x.worker
worker_asked (request.UnlatchExclusive x g) = Some x.worker
worker_asked (request.Choose x branch) = Some x.worker
worker_asked (request.Finish x) = Some x.worker
worker_asked (request.End x) = Some x.worker
worker_asked (request.GiveBack x g) = Some x.worker
worker_asked (request.Answer returned) = duty_worker returned.duty
worker_asked (request.AnswerJoin returned) = duty_worker returned.duty
worker_asked (request.Flush page) = None
worker_asked (request.FlushNext number) = None

-- ---- the request is of the hand's worker

of_session : (x y : Session) → y ≡ x → Some y.worker ≡ Some x.worker
of_session x y same = ap (λ (z : Session). Some z.worker) same

of_leaver : (x y : Leaver) → y ≡ x → Some y.worker ≡ Some x.worker
of_leaver x y same = ap (λ (z : Leaver). Some z.worker) same

of_step : (layout : Geometry) (x : Session) (asked : Request) → IsStep layout x asked → worker_asked asked ≡ Some x.worker
of_step layout x (request.Fix y page) step = of_session x y step.0
of_step layout x (request.Join y page) step = of_session x y step.0
of_step layout x (request.Unfix y g) step = of_session x y step.0
of_step layout x (request.Scatter y g) step = of_session x y step.0
of_step layout x (request.LatchShared y g) step = of_session x y step.0
of_step layout x (request.LatchExclusive y g) step = of_session x y step.0
of_step layout x (request.UnlatchShared y g) step = of_session x y step.0
of_step layout x (request.UnlatchExclusive y g) step = of_session x y step.0
of_step layout x (request.Choose y branch) step = of_session x y step.0
of_step layout x (request.Finish y) step = of_session x y step.0
of_step layout x (request.Take chair) step = absurd step
of_step layout x (request.End y) step = absurd step
of_step layout x (request.GiveBack y g) step = absurd step
of_step layout x (request.Answer returned) step = absurd step
of_step layout x (request.AnswerJoin returned) step = absurd step
of_step layout x (request.Flush page) step = absurd step
of_step layout x (request.FlushNext number) step = absurd step

of_way_out : (x : Leaver) (asked : Request) → IsWayOut x asked → worker_asked asked ≡ Some x.worker
of_way_out x (request.GiveBack y g) out = of_leaver x y out
of_way_out x (request.End y) out = of_leaver x y out
of_way_out x (request.Take chair) out = absurd out
of_way_out x (request.Fix y page) out = absurd out
of_way_out x (request.Join y page) out = absurd out
of_way_out x (request.Unfix y g) out = absurd out
of_way_out x (request.Scatter y g) out = absurd out
of_way_out x (request.LatchShared y g) out = absurd out
of_way_out x (request.LatchExclusive y g) out = absurd out
of_way_out x (request.UnlatchShared y g) out = absurd out
of_way_out x (request.UnlatchExclusive y g) out = absurd out
of_way_out x (request.Choose y branch) out = absurd out
of_way_out x (request.Finish y) out = absurd out
of_way_out x (request.Answer returned) out = absurd out
of_way_out x (request.AnswerJoin returned) out = absurd out
of_way_out x (request.Flush page) out = absurd out
of_way_out x (request.FlushNext number) out = absurd out

told_worker : (returned : Returned) (asked : Request) → IsTold returned asked → worker_asked asked ≡ duty_worker returned.duty
told_worker returned asked (inl answer) = ap worker_asked answer
told_worker returned asked (inr join) = ap worker_asked join

of_stage : {D : Type 0} (reads : D → ℕ → List ℕ → DeviceAnswer → List ℕ → D → Type 0)
    (writes : D → ℕ → List ℕ → DeviceAnswer → D → Type 0) (calls failures : D → ℕ) (layout : Geometry) (at : Stage)
    (old : D) (asked : Request) (new : D) → Asks reads writes calls failures layout at old asked new
    → worker_asked asked ≡ stage_worker at
of_stage reads writes calls failures layout (stage.Idle chair) old asked new asks = ap worker_asked asks.0
of_stage reads writes calls failures layout (stage.In x) old asked new asks = of_step layout x asked asks.0
of_stage reads writes calls failures layout (stage.Out errand) old asked new asks =
    told_worker asks.returned asked asks.sent ∙ ap duty_worker asks.duty
of_stage reads writes calls failures layout (stage.Back returned) old asked new asks = told_worker returned asked asks.0
of_stage reads writes calls failures layout (stage.Leaving x) old asked new asks = of_way_out x asked asks.0

-- ---- the answer is of the request's worker

-- The stage, if there is one, is of this worker.
abbrev IsOf : Option ℕ → Option Stage → Type 0
IsOf w at = IfSome at (λ s. stage_worker s ≡ w)

of_back : (asked : Request) → IsOf (worker_asked asked) (stage_asked asked)
of_back (request.Take chair) = refl
of_back (request.Fix x page) = refl
of_back (request.Join x page) = refl
of_back (request.Unfix x g) = refl
of_back (request.Scatter x g) = refl
of_back (request.LatchShared x g) = refl
of_back (request.LatchExclusive x g) = refl
of_back (request.UnlatchShared x g) = refl
of_back (request.UnlatchExclusive x g) = refl
of_back (request.Choose x branch) = refl
of_back (request.Finish x) = refl
of_back (request.End x) = refl
of_back (request.GiveBack x g) = refl
of_back (request.Answer returned) = refl
of_back (request.AnswerJoin returned) = refl
of_back (request.Flush page) = tt
of_back (request.FlushNext number) = tt

of_answer : (asked : Request) (out : BookAnswer) → TokensFit asked out → IsOf (worker_asked asked) (stage_in out)
of_answer asked (answer.No back why) fit = subst (λ r. IsOf (worker_asked r) (stage_asked back)) fit (of_back back)
of_answer (request.Take chair) (answer.Acts y) fit = ap Some fit
of_answer (request.Fix x page) (answer.Pinned y h) fit = ap Some fit.0
of_answer (request.Fix x page) (answer.Opened y h) fit = ap Some fit.0
of_answer (request.Fix x page) (answer.Joined y) fit = ap Some fit
of_answer (request.Fix x page) (answer.Away errand) fit = fit
of_answer (request.Join x page) (answer.Joined y) fit = ap Some fit
of_answer (request.Join x page) (answer.Away errand) fit = fit
of_answer (request.Unfix x g) (answer.Acts y) fit = ap Some fit
of_answer (request.Scatter x g) (answer.Acts y) fit = ap Some fit
of_answer (request.LatchShared x g) (answer.Shared y h) fit = ap Some fit.0
of_answer (request.LatchExclusive x g) (answer.Exclusive y h) fit = ap Some fit.0
of_answer (request.UnlatchShared x g) (answer.Pinned y h) fit = ap Some fit.0
of_answer (request.UnlatchExclusive x g) (answer.Pinned y h) fit = ap Some fit.0
of_answer (request.Choose x branch) (answer.Acts y) fit = ap Some fit
of_answer (request.Finish x) (answer.Idle chair) fit = ap Some fit
of_answer (request.End x) (answer.Idle chair) fit = ap Some fit
of_answer (request.GiveBack x g) (answer.Leaves y) fit = of_leaver x y fit
of_answer (request.Answer returned) (answer.Pinned y h) fit = sym fit.0
of_answer (request.Answer returned) (answer.Opened y h) fit = sym fit.0
of_answer (request.Answer returned) (answer.Joined y) fit = sym fit
of_answer (request.Answer returned) (answer.Away errand) fit = fit
of_answer (request.Answer returned) (answer.Leaves y) fit = sym fit
of_answer (request.Answer returned) (answer.Flushed clean) fit = tt
of_answer (request.AnswerJoin returned) (answer.Joined y) fit = sym fit
of_answer (request.AnswerJoin returned) (answer.Away errand) fit = fit
of_answer (request.AnswerJoin returned) (answer.Leaves y) fit = sym fit
of_answer (request.Flush page) (answer.Away errand) fit = fit
of_answer (request.FlushNext number) (answer.Away errand) fit = fit
of_answer asked out fit = absurd fit

-- ---- a turn

pub keeps_worker : {S D W : Type 0} (s : Site.Ghosts S) (k : Work.Ghosts W)
    (reads : D → ℕ → List ℕ → DeviceAnswer → List ℕ → D → Type 0)
    (writes : D → ℕ → List ℕ → DeviceAnswer → D → Type 0) (calls failures : D → ℕ) (layout : Geometry)
    (before after : Stage) (old : D) (asked : Request) (new : D) (response : Response) (site : S) (room : ℕ) (work : W)
    (turned : Turned) (used : BookAnswer) (left : W)
    → Asks reads writes calls failures layout before old asked new → Replies asked response
    → Uses s k site room work response.answer turned used left → stage_in used ≡ Some after
    → stage_worker after ≡ stage_worker before
keeps_worker s k reads writes calls failures layout before after old asked new response site room work turned used left asks
    replies uses there =
    subst (IsOf (worker_asked asked)) (sym (used_stage s k site room work turned left response.answer used uses) ∙ there)
    (of_answer asked response.answer replies.tokens)
    ∙ of_stage reads writes calls failures layout before old asked new asks

-- ---- an errand's place stays

either_left : (free bundle : Bool) → free ≡ true → (free || bundle) ≡ true
either_left true bundle e = refl
either_left false bundle e = absurd (false≢true e)

either_right : (free bundle : Bool) → bundle ≡ true → (free || bundle) ≡ true
either_right true bundle e = refl
either_right false bundle e = e

-- For a slot whose place is free a page may come, and for one whose place has a bundle's guard.
where_free : (places : List (Option Guard)) (o : Option ℕ) → IsSome o → IfSome o (λ slot. is_free places slot ≡ true)
    → has_place places o ≡ true
where_free places (Some slot) some free = either_left (is_free places slot) (has_bundle (placed places slot)) free
where_free places None some free = absurd (false≢true some)

where_bundle : (places : List (Option Guard)) (o : Option ℕ) → IsSome o → IfSome o (HasBundle places)
    → has_place places o ≡ true
where_bundle places (Some slot) some there = either_right (is_free places slot) (has_bundle (placed places slot)) there
where_bundle places None some there = absurd (false≢true some)

-- So it may for the slot of a request that finds its place.
place_found : (places : List (Option Guard)) (asked : Request) → IsSome (slot_for asked) → FindsPlace places asked
    → has_place places (slot_for asked) ≡ true
place_found places (request.Join x page) some finds = where_bundle places (Some (fix_slot x.ask)) refl finds
place_found places (request.AnswerJoin returned) some finds = where_bundle places (duty_slot returned.duty) some finds
place_found places (request.Fix x page) some finds = where_free places (Some (fix_slot x.ask)) refl finds
place_found places (request.Unfix x g) some finds = where_free places (Some g.slot) refl finds
place_found places (request.Scatter x g) some finds = where_free places (Some g.slot) refl finds
place_found places (request.LatchShared x g) some finds = where_free places (Some g.slot) refl finds
place_found places (request.LatchExclusive x g) some finds = where_free places (Some g.slot) refl finds
place_found places (request.UnlatchShared x g) some finds = where_free places (Some g.slot) refl finds
place_found places (request.UnlatchExclusive x g) some finds = where_free places (Some g.slot) refl finds
place_found places (request.GiveBack x g) some finds = where_free places (Some (slot_by g)) refl finds
place_found places (request.Answer returned) some finds = where_free places (duty_slot returned.duty) some finds
place_found places (request.Take chair) some finds = absurd (false≢true some)
place_found places (request.Choose x branch) some finds = absurd (false≢true some)
place_found places (request.Finish x) some finds = absurd (false≢true some)
place_found places (request.End x) some finds = absurd (false≢true some)
place_found places (request.Flush page) some finds = absurd (false≢true some)
place_found places (request.FlushNext number) some finds = absurd (false≢true some)

-- What is known of a stage that comes.
abbrev KeepsIn : List (Option Guard) → Option Stage → Type 0
KeepsIn places o = IfSome o (λ at. keeps_place places at ≡ true)

-- A request that comes back keeps its place.
back_keeps : (rest : List (Option Guard)) (asked : Request) → FindsPlace rest asked → IsWorkers asked
    → KeepsIn (places_with rest (guard_asked asked)) (stage_asked asked)
back_keeps rest (request.Answer returned) free workers = place_found rest (request.Answer returned) workers free
back_keeps rest (request.AnswerJoin returned) free workers = place_found rest (request.AnswerJoin returned) workers free
back_keeps rest (request.Take chair) free workers = refl
back_keeps rest (request.Fix x page) free workers = refl
back_keeps rest (request.Join x page) free workers = refl
back_keeps rest (request.Unfix x g) free workers = refl
back_keeps rest (request.Scatter x g) free workers = refl
back_keeps rest (request.LatchShared x g) free workers = refl
back_keeps rest (request.LatchExclusive x g) free workers = refl
back_keeps rest (request.UnlatchShared x g) free workers = refl
back_keeps rest (request.UnlatchExclusive x g) free workers = refl
back_keeps rest (request.Choose x branch) free workers = refl
back_keeps rest (request.Finish x) free workers = refl
back_keeps rest (request.End x) free workers = refl
back_keeps rest (request.GiveBack x g) free workers = refl
back_keeps rest (request.Flush page) free workers = tt
back_keeps rest (request.FlushNext number) free workers = tt

-- A worker's request to which an errand comes is for a slot.
away_slot : (asked : Request) (errand : Errand) → IsWorkers asked → TokensFit asked (answer.Away errand)
    → IsSome (slot_for asked)
away_slot (request.Fix x page) errand workers fit = refl
away_slot (request.Join x page) errand workers fit = refl
away_slot (request.Answer returned) errand workers fit = workers
away_slot (request.AnswerJoin returned) errand workers fit = workers
away_slot (request.Flush page) errand workers fit = absurd workers
away_slot (request.FlushNext number) errand workers fit = absurd workers
away_slot (request.Take chair) errand workers fit = absurd fit
away_slot (request.Unfix x g) errand workers fit = absurd fit
away_slot (request.Scatter x g) errand workers fit = absurd fit
away_slot (request.LatchShared x g) errand workers fit = absurd fit
away_slot (request.LatchExclusive x g) errand workers fit = absurd fit
away_slot (request.UnlatchShared x g) errand workers fit = absurd fit
away_slot (request.UnlatchExclusive x g) errand workers fit = absurd fit
away_slot (request.Choose x branch) errand workers fit = absurd fit
away_slot (request.Finish x) errand workers fit = absurd fit
away_slot (request.End x) errand workers fit = absurd fit
away_slot (request.GiveBack x g) errand workers fit = absurd fit

module _ {S W : Type 0} (s : Site.Ghosts S) (k : Work.Ghosts W) (site : S) (room : ℕ) (old : W) (turned : Turned)
    (new : W) (places rest : List (Option Guard)) (asked : Request) (p : Prepares places asked rest) where
  answer_keeps : (out after : BookAnswer) → TokensFit asked out → SlotFits asked out
      → Uses s k site room old out turned after new → KeepsIn (places_with rest (guard_in after)) (stage_in out)
  answer_keeps (answer.Away errand) after fit slot uses =
      subst (λ o. has_place (places_with rest (guard_in o)) (duty_slot errand.duty) ≡ true) (sym uses.1)
      (ap (has_place rest) slot ∙ place_found rest asked (away_slot asked errand p.workers fit) p.finds)
  answer_keeps (answer.No back why) after fit slot uses =
      subst (λ o. KeepsIn (places_with rest (guard_in o)) (stage_asked back)) (sym uses.1)
      (subst (λ r. KeepsIn (places_with rest (guard_asked r)) (stage_asked r)) (sym fit)
      (back_keeps rest asked p.finds p.workers))
  answer_keeps (answer.Acts x) after fit slot uses = refl
  answer_keeps (answer.Idle chair) after fit slot uses = refl
  answer_keeps (answer.Leaves x) after fit slot uses = refl
  answer_keeps (answer.Pinned x g) after fit slot uses = refl
  answer_keeps (answer.Opened x g) after fit slot uses = refl
  answer_keeps (answer.Joined x) after fit slot uses = refl
  answer_keeps (answer.Shared x g) after fit slot uses = refl
  answer_keeps (answer.Exclusive x g) after fit slot uses = refl
  answer_keeps (answer.Flushed clean) after fit slot uses = tt

  -- So the hand after a request keeps it.
  pub keeps_after : (out after : BookAnswer) (at : Stage) (guards : List (Option Guard)) → TokensFit asked out
      → SlotFits asked out → Uses s k site room old out turned after new → stage_in after ≡ Some at
      → guards ≡ places_with rest (guard_in after) → keeps_place guards at ≡ true
  keeps_after out after at guards fit slot uses there are =
      ap (λ ps. keeps_place ps at) are
      ∙ subst (KeepsIn (places_with rest (guard_in after)))
      (sym (used_stage s k site room old turned new out after uses) ∙ there) (answer_keeps out after fit slot uses)
