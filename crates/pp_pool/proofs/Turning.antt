-- What a worker has in hand after an answer that fits its request.
use Rattle.std.proofs.Common.{◌≡◌, ◌∙◌, ◌++◌, ◌<◌, ◌≤◌, length, ℕ, Bool, true, false, inl, inr, arith, Option, Some, None, List, refl, sym, ap, subst}
use Rattle.std.specs.Prelude.{MatchOption, ◌⊎◌, IfSome, IsSome, IfOk, Result, Ok, Err, slice_get, if◌then◌else◌}
use Rattle.std.proofs.lemmas.Bool.{false≢true, true_from_ne_false}
use Rattle.pp_vault.specs.declared.tokens.Session.{Session}
use Rattle.pp_vault.specs.declared.guards.PinGuard.{PinGuard}
use Rattle.pp_vault.specs.declared.guards.ReadGuard.{ReadGuard}
use Rattle.pp_vault.specs.declared.guards.WriteGuard.{WriteGuard}
use Rattle.pp_vault.specs.declared.guards.BundleGuard.{BundleGuard}
use Rattle.pp_vault.specs.declared.guards.Guard.{Guard}
use Rattle.pp_vault.specs.Holding.{slot_by, is_free}
use Rattle.pp_vault.specs.Lending.{with_body}
use Rattle.pp_vault.specs.Stages.{is_chair}
use Rattle.pp_device.specs.Image.{body_of}
use Rattle.pp_vault.specs.declared.stage.Stage.{Stage}
use Rattle.pp_vault.specs.declared.stage.Stage.TheVariants as stage
use Rattle.pp_vault.specs.declared.stage.Hand.{Hand}
use Rattle.pp_vault.specs.Duties.{duty_slot, duty_worker}
use Rattle.pp_vault.specs.declared.tokens.Duty.{Duty}
use Rattle.pp_vault.specs.declared.tokens.Duty.TheVariants as duty
use Rattle.pp_pool.specs.declared.request.Request.{Request}
use Rattle.pp_pool.specs.declared.request.Request.TheVariants as request
use Rattle.pp_pool.specs.declared.response.BookAnswer.{BookAnswer}
use Rattle.pp_pool.specs.declared.response.BookAnswer.TheVariants as answer
use Rattle.pp_pool.specs.Replies.{TokensFit}
use Rattle.pp_pool.specs.declared.response.Response.{Response}
use Rattle.pp_pool.specs.declared.turned.Turned.{Turned}
use Rattle.pp_pool.specs.declared.turned.Turned.TheVariants.{Done, NotNow, Ended, NoMemory, Broken}
use Rattle.pp_pool.specs.declared.worker.Worker.{Worker}
use Rattle.pp_pool.specs.declared.site.Site as Site
use Rattle.pp_pool.specs.declared.work.Work as Work
use Rattle.pp_device.specs.declared.device.Device as Device
use Rattle.pp_pool.specs.Replies.{Replies}
use Rattle.pp_settings.specs.Layout.{Geometry}
use Rattle.pp_settings.specs.declared.extent.Extent.{Extent}
use Rattle.pp_plan.specs.declared.action.Ask.{Ask}
use Rattle.pp_plan.specs.declared.action.Ask.TheVariants as ask
use Rattle.pp_core.specs.Fixing.{wanted}
use Rattle.pp_pool.specs.Turns.{guard_asked, guard_in, stage_asked, stage_in, FindsPlace, LeavesInOrder, IsOwn, IsWorkers, IsLong}
use Rattle.pp_pool.specs.Turns.{Asks, Consults, Prepares, places_without, places_with, Uses, MayWait, TurnIs, can_ask, can_ask_at}
use Rattle.pp_pool.specs.Turns.{Makes, MakesRequest, MakesOne, logged_events, has_errand, keeps_place, KeepsPlace}
use Rattle.pp_pool.specs.Turns.{ReworksIf, Reworks, Tells, page_called, end_of, with_guards, kind_of}
use Rattle.pp_pool.specs.Lent.{off_next}
use Rattle.pp_pool.specs.declared.work.Kind.{Kind}
use Rattle.pp_pool.specs.declared.work.Kind.TheVariants as kind
use Rattle.pp_pool.specs.Turns.{room_of, IsStep, IsWayOut, AsksSlot}

-- ---- the stage

-- A duty with a slot is a worker's.
no_flush : (d : Duty) → IsSome (duty_slot d) → duty_worker d ≡ None → ⊥
no_flush (duty.Read w slot page) some e = cc
no_flush (duty.Write w slot page victim) some e = cc
no_flush (duty.Flush page) some e = absurd (false≢true some)

stage_back : (asked : Request) → IsWorkers asked → IsSome (stage_asked asked)
stage_back (request.Take chair) h = refl
stage_back (request.Fix x page) h = refl
stage_back (request.Join x page) h = refl
stage_back (request.Unfix x g) h = refl
stage_back (request.Scatter x g) h = refl
stage_back (request.LatchShared x g) h = refl
stage_back (request.LatchExclusive x g) h = refl
stage_back (request.UnlatchShared x g) h = refl
stage_back (request.UnlatchExclusive x g) h = refl
stage_back (request.Choose x branch) h = refl
stage_back (request.Finish x) h = refl
stage_back (request.End x) h = refl
stage_back (request.GiveBack x g) h = refl
stage_back (request.Answer returned) h = refl
stage_back (request.AnswerJoin returned) h = refl
stage_back (request.Flush page) h = absurd h
stage_back (request.FlushNext number) h = absurd h

not_flushed : (asked : Request) (clean : Bool) → IsWorkers asked → TokensFit asked (answer.Flushed clean) → ⊥
not_flushed (request.Take chair) clean h fit = fit
not_flushed (request.Fix x page) clean h fit = fit
not_flushed (request.Join x page) clean h fit = fit
not_flushed (request.Unfix x g) clean h fit = fit
not_flushed (request.Scatter x g) clean h fit = fit
not_flushed (request.LatchShared x g) clean h fit = fit
not_flushed (request.LatchExclusive x g) clean h fit = fit
not_flushed (request.UnlatchShared x g) clean h fit = fit
not_flushed (request.UnlatchExclusive x g) clean h fit = fit
not_flushed (request.Choose x branch) clean h fit = fit
not_flushed (request.Finish x) clean h fit = fit
not_flushed (request.End x) clean h fit = fit
not_flushed (request.GiveBack x g) clean h fit = fit
not_flushed (request.Answer returned) clean h fit = no_flush returned.duty h fit
not_flushed (request.AnswerJoin returned) clean h fit = fit
not_flushed (request.Flush page) clean h fit = fit
not_flushed (request.FlushNext number) clean h fit = fit

pub stage_there : (asked : Request) (out : BookAnswer) → IsWorkers asked → TokensFit asked out → IsSome (stage_in out)
stage_there asked (answer.Acts x) h fit = refl
stage_there asked (answer.Idle chair) h fit = refl
stage_there asked (answer.Leaves x) h fit = refl
stage_there asked (answer.Pinned x g) h fit = refl
stage_there asked (answer.Opened x g) h fit = refl
stage_there asked (answer.Joined x) h fit = refl
stage_there asked (answer.Shared x g) h fit = refl
stage_there asked (answer.Exclusive x g) h fit = refl
stage_there asked (answer.Away errand) h fit = refl
stage_there asked (answer.Flushed clean) h fit = absurd (not_flushed asked clean h fit)
stage_there asked (answer.No back why) h fit =
    subst (λ r. IsSome (stage_asked r)) (sym fit) (stage_back asked h)

-- ---- the guard

-- The guard that came finds its place free.
abbrev IsPlaced : List (Option Guard) → Option Guard → Type 0
IsPlaced places o = IfSome o (λ g. is_free places (slot_by g) ≡ true)

guard_back : (places : List (Option Guard)) (asked : Request) → FindsPlace places asked
    → IsPlaced places (guard_asked asked)
guard_back places (request.Take chair) free = tt
guard_back places (request.Fix x page) free = tt
guard_back places (request.Join x page) free = tt
guard_back places (request.Unfix x g) free = free
guard_back places (request.Scatter x g) free = free
guard_back places (request.LatchShared x g) free = free
guard_back places (request.LatchExclusive x g) free = free
guard_back places (request.UnlatchShared x g) free = free
guard_back places (request.UnlatchExclusive x g) free = free
guard_back places (request.Choose x branch) free = tt
guard_back places (request.Finish x) free = tt
guard_back places (request.End x) free = tt
guard_back places (request.GiveBack x g) free = free
guard_back places (request.Answer returned) free = tt
guard_back places (request.AnswerJoin returned) free = tt
guard_back places (request.Flush page) free = tt
guard_back places (request.FlushNext number) free = tt

pin_placed : (places : List (Option Guard)) (asked : Request) (y : Session) (h : PinGuard) → FindsPlace places asked
    → TokensFit asked (answer.Pinned y h) → is_free places h.slot ≡ true
pin_placed places (request.Take chair) y h free fit = absurd fit
pin_placed places (request.Fix x page) y h free fit = ap (is_free places) fit.3 ∙ free
pin_placed places (request.Join x page) y h free fit = absurd fit
pin_placed places (request.Unfix x g) y h free fit = absurd fit
pin_placed places (request.Scatter x g) y h free fit = absurd fit
pin_placed places (request.LatchShared x g) y h free fit = absurd fit
pin_placed places (request.LatchExclusive x g) y h free fit = absurd fit
pin_placed places (request.UnlatchShared x g) y h free fit = ap (is_free places) fit.1 ∙ free
pin_placed places (request.UnlatchExclusive x g) y h free fit = ap (is_free places) fit.1 ∙ free
pin_placed places (request.Choose x branch) y h free fit = absurd fit
pin_placed places (request.Finish x) y h free fit = absurd fit
pin_placed places (request.End x) y h free fit = absurd fit
pin_placed places (request.GiveBack x g) y h free fit = absurd fit
pin_placed places (request.Answer returned) y h free fit =
    subst (λ o. IfSome o (λ n. is_free places n ≡ true)) fit.1 free
pin_placed places (request.AnswerJoin returned) y h free fit = absurd fit
pin_placed places (request.Flush page) y h free fit = absurd fit
pin_placed places (request.FlushNext number) y h free fit = absurd fit

shared_placed : (places : List (Option Guard)) (asked : Request) (y : Session) (h : ReadGuard) → FindsPlace places asked
    → TokensFit asked (answer.Shared y h) → is_free places h.slot ≡ true
shared_placed places (request.Take chair) y h free fit = absurd fit
shared_placed places (request.Fix x page) y h free fit = absurd fit
shared_placed places (request.Join x page) y h free fit = absurd fit
shared_placed places (request.Unfix x g) y h free fit = absurd fit
shared_placed places (request.Scatter x g) y h free fit = absurd fit
shared_placed places (request.LatchShared x g) y h free fit = ap (is_free places) fit.1 ∙ free
shared_placed places (request.LatchExclusive x g) y h free fit = absurd fit
shared_placed places (request.UnlatchShared x g) y h free fit = absurd fit
shared_placed places (request.UnlatchExclusive x g) y h free fit = absurd fit
shared_placed places (request.Choose x branch) y h free fit = absurd fit
shared_placed places (request.Finish x) y h free fit = absurd fit
shared_placed places (request.End x) y h free fit = absurd fit
shared_placed places (request.GiveBack x g) y h free fit = absurd fit
shared_placed places (request.Answer returned) y h free fit = absurd fit
shared_placed places (request.AnswerJoin returned) y h free fit = absurd fit
shared_placed places (request.Flush page) y h free fit = absurd fit
shared_placed places (request.FlushNext number) y h free fit = absurd fit

exclusive_placed : (places : List (Option Guard)) (asked : Request) (y : Session) (h : WriteGuard) → FindsPlace places asked
    → TokensFit asked (answer.Exclusive y h) → is_free places h.slot ≡ true
exclusive_placed places (request.Take chair) y h free fit = absurd fit
exclusive_placed places (request.Fix x page) y h free fit = absurd fit
exclusive_placed places (request.Join x page) y h free fit = absurd fit
exclusive_placed places (request.Unfix x g) y h free fit = absurd fit
exclusive_placed places (request.Scatter x g) y h free fit = absurd fit
exclusive_placed places (request.LatchShared x g) y h free fit = absurd fit
exclusive_placed places (request.LatchExclusive x g) y h free fit = ap (is_free places) fit.1 ∙ free
exclusive_placed places (request.UnlatchShared x g) y h free fit = absurd fit
exclusive_placed places (request.UnlatchExclusive x g) y h free fit = absurd fit
exclusive_placed places (request.Choose x branch) y h free fit = absurd fit
exclusive_placed places (request.Finish x) y h free fit = absurd fit
exclusive_placed places (request.End x) y h free fit = absurd fit
exclusive_placed places (request.GiveBack x g) y h free fit = absurd fit
exclusive_placed places (request.Answer returned) y h free fit = absurd fit
exclusive_placed places (request.AnswerJoin returned) y h free fit = absurd fit
exclusive_placed places (request.Flush page) y h free fit = absurd fit
exclusive_placed places (request.FlushNext number) y h free fit = absurd fit

bundle_placed : (places : List (Option Guard)) (asked : Request) (y : Session) (h : BundleGuard) → FindsPlace places asked
    → TokensFit asked (answer.Opened y h) → is_free places h.slot ≡ true
bundle_placed places (request.Take chair) y h free fit = absurd fit
bundle_placed places (request.Fix x page) y h free fit = ap (is_free places) fit.2 ∙ free
bundle_placed places (request.Join x page) y h free fit = absurd fit
bundle_placed places (request.Unfix x g) y h free fit = absurd fit
bundle_placed places (request.Scatter x g) y h free fit = absurd fit
bundle_placed places (request.LatchShared x g) y h free fit = absurd fit
bundle_placed places (request.LatchExclusive x g) y h free fit = absurd fit
bundle_placed places (request.UnlatchShared x g) y h free fit = absurd fit
bundle_placed places (request.UnlatchExclusive x g) y h free fit = absurd fit
bundle_placed places (request.Choose x branch) y h free fit = absurd fit
bundle_placed places (request.Finish x) y h free fit = absurd fit
bundle_placed places (request.End x) y h free fit = absurd fit
bundle_placed places (request.GiveBack x g) y h free fit = absurd fit
bundle_placed places (request.Answer returned) y h free fit =
    subst (λ o. IfSome o (λ n. is_free places n ≡ true)) fit.1 free
bundle_placed places (request.AnswerJoin returned) y h free fit = absurd fit
bundle_placed places (request.Flush page) y h free fit = absurd fit
bundle_placed places (request.FlushNext number) y h free fit = absurd fit

pub guard_placed : (places : List (Option Guard)) (asked : Request) (out : BookAnswer) → FindsPlace places asked
    → TokensFit asked out → IsPlaced places (guard_in out)
guard_placed places asked (answer.Acts x) free fit = tt
guard_placed places asked (answer.Idle chair) free fit = tt
guard_placed places asked (answer.Leaves x) free fit = tt
guard_placed places asked (answer.Pinned x g) free fit = pin_placed places asked x g free fit
guard_placed places asked (answer.Opened x g) free fit = bundle_placed places asked x g free fit
guard_placed places asked (answer.Joined x) free fit = tt
guard_placed places asked (answer.Shared x g) free fit = shared_placed places asked x g free fit
guard_placed places asked (answer.Exclusive x g) free fit = exclusive_placed places asked x g free fit
guard_placed places asked (answer.Away errand) free fit = tt
guard_placed places asked (answer.Flushed clean) free fit = tt
guard_placed places asked (answer.No back why) free fit =
    subst (λ r. IsPlaced places (guard_asked r)) (sym fit) (guard_back places asked free)

-- ---- what the work leaves

-- A guard of a latch X that came has its image.
exclusive_long : (asked : Request) (y : Session) (h : WriteGuard) → TokensFit asked (answer.Exclusive y h)
    → 64 ≤ length h.image
exclusive_long (request.LatchExclusive x g) y h fit = fit.3
exclusive_long (request.Take chair) y h fit = absurd fit
exclusive_long (request.Fix x page) y h fit = absurd fit
exclusive_long (request.Join x page) y h fit = absurd fit
exclusive_long (request.Unfix x g) y h fit = absurd fit
exclusive_long (request.Scatter x g) y h fit = absurd fit
exclusive_long (request.LatchShared x g) y h fit = absurd fit
exclusive_long (request.UnlatchShared x g) y h fit = absurd fit
exclusive_long (request.UnlatchExclusive x g) y h fit = absurd fit
exclusive_long (request.Choose x branch) y h fit = absurd fit
exclusive_long (request.Finish x) y h fit = absurd fit
exclusive_long (request.End x) y h fit = absurd fit
exclusive_long (request.GiveBack x g) y h fit = absurd fit
exclusive_long (request.Answer returned) y h fit = absurd fit
exclusive_long (request.AnswerJoin returned) y h fit = absurd fit
exclusive_long (request.Flush page) y h fit = absurd fit
exclusive_long (request.FlushNext number) y h fit = absurd fit

pub long_by : (asked : Request) (out : BookAnswer) → TokensFit asked out → IsLong out
long_by asked (answer.Exclusive x g) fit = exclusive_long asked x g fit
long_by asked (answer.Acts x) fit = tt
long_by asked (answer.Idle chair) fit = tt
long_by asked (answer.Leaves x) fit = tt
long_by asked (answer.Pinned x g) fit = tt
long_by asked (answer.Opened x g) fit = tt
long_by asked (answer.Joined x) fit = tt
long_by asked (answer.Shared x g) fit = tt
long_by asked (answer.Away errand) fit = tt
long_by asked (answer.Flushed clean) fit = tt
long_by asked (answer.No back why) fit = tt

-- What an answer is once the work has used it.
module _ {S W : Type 0} (s : Site.Ghosts S) (k : Work.Ghosts W) (site : S) (room : ℕ) (old : W) (turned : Turned)
    (new : W) where
  -- Its stage is what it was.
  pub used_stage : (before after : BookAnswer) → Uses s k site room old before turned after new
      → stage_in after ≡ stage_in before
  used_stage (answer.Exclusive x g) after h = ap stage_in h.0.stays
  used_stage (answer.Shared x g) after h = ap stage_in h.1
  used_stage (answer.Acts x) after h = ap stage_in h.1
  used_stage (answer.Idle chair) after h = ap stage_in h.1
  used_stage (answer.Leaves x) after h = ap stage_in h.1
  used_stage (answer.Pinned x g) after h = ap stage_in h.1
  used_stage (answer.Opened x g) after h = ap stage_in h.1
  used_stage (answer.Joined x) after h = ap stage_in h.1
  used_stage (answer.Away errand) after h = ap stage_in h.1
  used_stage (answer.Flushed clean) after h = ap stage_in h.1
  used_stage (answer.No back why) after h = ap stage_in h.1

  -- So its guard finds its place, as before.
  pub used_placed : (places : List (Option Guard)) (before after : BookAnswer)
      → Uses s k site room old before turned after new → IsPlaced places (guard_in before) → IsPlaced places (guard_in after)
  used_placed places (answer.Exclusive x g) after h free =
      subst (λ o. IsPlaced places (guard_in o)) (sym h.0.stays) free
  used_placed places (answer.Shared x g) after h free = subst (λ o. IsPlaced places (guard_in o)) (sym h.1) free
  used_placed places (answer.Acts x) after h free = subst (λ o. IsPlaced places (guard_in o)) (sym h.1) free
  used_placed places (answer.Idle chair) after h free = subst (λ o. IsPlaced places (guard_in o)) (sym h.1) free
  used_placed places (answer.Leaves x) after h free = subst (λ o. IsPlaced places (guard_in o)) (sym h.1) free
  used_placed places (answer.Pinned x g) after h free = subst (λ o. IsPlaced places (guard_in o)) (sym h.1) free
  used_placed places (answer.Opened x g) after h free = subst (λ o. IsPlaced places (guard_in o)) (sym h.1) free
  used_placed places (answer.Joined x) after h free = subst (λ o. IsPlaced places (guard_in o)) (sym h.1) free
  used_placed places (answer.Away errand) after h free = subst (λ o. IsPlaced places (guard_in o)) (sym h.1) free
  used_placed places (answer.Flushed clean) after h free = subst (λ o. IsPlaced places (guard_in o)) (sym h.1) free
  used_placed places (answer.No back why) after h free = subst (λ o. IsPlaced places (guard_in o)) (sym h.1) free

-- What the work leaves of a page is in the guard.
pub changed : {S W : Type 0} (s : Site.Ghosts S) (k : Work.Ghosts W) (site : S) (room : ℕ) (old new : W) (before : BookAnswer)
    (x : Session) (g : WriteGuard) (page : ℕ) (lent body : List ℕ) → before ≡ answer.Exclusive x g → page ≡ g.page
    → lent ≡ body_of g.image → length body ≡ length lent → k.change_leaves old page lent body new
    → Uses s k site room old before Done (answer.Exclusive x (record g { image = with_body g.image body })) new
changed s k site room old new before x g page lent body is of front long left =
    subst (λ a. Uses s k site room old a Done (answer.Exclusive x (record g { image = with_body g.image body })) new) (sym is) (
      record {
        body = body;
        left =
            subst (λ p. k.change_leaves old p (body_of g.image) body new) of
            (subst (λ bytes. k.change_leaves old page bytes body new) front left);
        long = long ∙ ap length front;
        stays = refl;
      },
      refl,
    )

-- ---- a turn

pub stage_after : {S W : Type 0} (s : Site.Ghosts S) (k : Work.Ghosts W) (site : S) (room : ℕ) (old : W) (turned : Turned)
    (new : W) (asked : Request) (out after : BookAnswer) → IsWorkers asked → TokensFit asked out
    → Uses s k site room old out turned after new → IsSome (stage_in after)
stage_after s k site room old turned new asked out after h fit uses =
    subst IsSome (sym (used_stage s k site room old turned new out after uses)) (stage_there asked out h fit)

pub placed_after : {S W : Type 0} (s : Site.Ghosts S) (k : Work.Ghosts W) (site : S) (room : ℕ) (old : W) (turned : Turned)
    (new : W) (rest : List (Option Guard)) (asked : Request) (out after : BookAnswer) → FindsPlace rest asked
    → TokensFit asked out → Uses s k site room old out turned after new
    → IfSome (guard_in after) (λ g. is_free rest (slot_by g) ≡ true)
placed_after s k site room old turned new rest asked out after finds fit uses =
    used_placed s k site room old turned new rest out after uses (guard_placed rest asked out finds fit)

-- A work that isn't lent the pages leaves all as it was.
still_by : {W : Type 0} (k : Work.Ghosts W) (work : W) (places : List (Option Guard)) (o : Option ℕ)
    → MatchOption o ((work ≡ work) × (places ≡ places))
    (λ off. Reworks k off work places places work ⊎ ((work ≡ work) × (places ≡ places)))
still_by k work places None = (refl, refl)
still_by k work places (Some off) = inr (refl, refl)

pub reworks_still : {W : Type 0} (k : Work.Ghosts W) (at : Stage) (work : W) (places : List (Option Guard))
    → ReworksIf k at work places places work
reworks_still k at work places = still_by k work places (off_next at places)

module _ {S D W : Type 0} (s : Site.Ghosts S) (d : Device.Ghosts D) (k : Work.Ghosts W) (old new : Worker S D)
    (before between used left : W) (asked : Request) (response : Response) (after : BookAnswer) (rest : List (Option Guard))
    (site : S) (room : ℕ) where
  makes : (is_logged : Bool) (ends : Turned)
      → Asks d.read_gives d.write_leaves d.calls d.failures old.layout old.hand.stage old.device asked new.device
      → Consults k old.layout before asked between → Prepares old.hand.guards asked rest
      → s.gives old.site asked response site → Replies asked response → new.site ≡ site
      → new.log.items ≡ old.log.items ++ logged_events is_logged response.event → room_of new ≡ room
      → Uses s k site room between response.answer ends after used
      → Tells k (page_called asked) used (end_of old) response.event left (end_of new)
      → stage_in after ≡ Some new.hand.stage → new.hand.guards ≡ places_with rest (guard_in after)
      → MakesRequest s d k is_logged old before ends new left
  makes is_logged ends asks consults prepares given fits same log long uses tells stage guards =
      record {
        asked = asked;
        response = response;
        after = after;
        between = between;
        used = used;
        asks = asks;
        consults = consults;
        own = prepares.own;
        finds = subst (λ ps. FindsPlace ps asked) prepares.keeps prepares.finds;
        leaves = prepares.leaves;
        given = subst (s.gives old.site asked response) (sym same) given;
        fits = fits;
        log = log;
        uses =
            subst (λ n. Uses s k new.site n between response.answer ends after used) (sym long)
            (subst (λ t. Uses s k t room between response.answer ends after used) (sym same) uses);
        tells = tells;
        stage = stage;
        guards = guards ∙ ap (λ ps. places_with ps (guard_in after)) prepares.keeps;
      }

module _ {S D W : Type 0} (s : Site.Ghosts S) (d : Device.Ghosts D) (k : Work.Ghosts W) (old new : Worker S D)
    (before left : W) where
  -- The event is logged, or there was an errand in hand, since any other turn had room.
  makes_one : (is_logged : Bool) (ends : Turned) → Makes s d k is_logged old before ends new left
      → (has_errand old.hand.stage ≡ false → length old.log.items < old.log.capacity)
      → (is_logged ≡ false → old.log.capacity ≤ length old.log.items)
      → MakesOne s d k old before (if is_logged then ends else Broken) new left
  makes_one true ends m has_room full = inl m
  makes_one false ends m has_room full =
      inr (record { errand = errand; full = full refl; ends = ends; makes = m; broken = refl })
    where
      errand : has_errand old.hand.stage ≡ true
      errand =
          true_from_ne_false (has_errand old.hand.stage)
          (λ no. let lt = has_room no in let le = full refl in omega (arith, lt, le))

module _ {S D W : Type 0} (s : Site.Ghosts S) (d : Device.Ghosts D) (k : Work.Ghosts W) (old new : Worker S D)
    (before reworked between used left : W) (lent : List (Option Guard)) (asked : Request) (response : Response)
    (after : BookAnswer) (rest : List (Option Guard)) (site : S) (room : ℕ) where
  pub turns : (is_logged : Bool) (ends turned : Turned)
      → ReworksIf k old.hand.stage before old.hand.guards lent reworked
      → Asks d.read_gives d.write_leaves d.calls d.failures old.layout old.hand.stage old.device asked new.device
      → Consults k old.layout reworked asked between → Prepares lent asked rest
      → s.gives old.site asked response site → Replies asked response → new.site ≡ site
      → new.log.items ≡ old.log.items ++ logged_events is_logged response.event → room_of new ≡ room
      → Uses s k site room between response.answer ends after used
      → Tells k (page_called asked) used (end_of old) response.event left (end_of new)
      → stage_in after ≡ Some new.hand.stage → new.hand.guards ≡ places_with rest (guard_in after)
      → (has_errand old.hand.stage ≡ false → length old.log.items < old.log.capacity)
      → (is_logged ≡ false → old.log.capacity ≤ length old.log.items)
      → turned ≡ (if is_logged then ends else Broken) → TurnIs s d k old before turned new left
  turns is_logged ends turned reworks asks consults prepares given fits same log long uses tells stage guards has_room full
      ended =
      inl (subst (λ t. MakesOne s d k old before t new left) (sym ended)
      (makes_one s d k old new before left is_logged ends
      (record {
        lent = lent;
        reworked = reworked;
        reworks = reworks;
        makes =
            makes s d k (with_guards old lent) new reworked between used left asked response after rest site room is_logged
            ends asks consults prepares given fits same log long uses tells stage guards;
      }) has_room full))

-- ---- where the work is asked for a page

module _ {W : Type 0} (k : Work.Ghosts W) (layout : Geometry) (old new : W) (x : Session) (slot region page : ℕ) (e : Extent)
    (there : slice_get layout.extents region ≡ Some e) where
  -- What the work can answer, by how the plan wants the page.
  abbrev Answers : Kind → Type 0
  Answers by = k.page_into_gives old slot by region e.first e.count page new ⊎ k.page_gives old region e.first e.count page new

  -- For a fix.
  pub fix_consults : x.ask ≡ ask.Fix slot region → Answers kind.Fix → Consults k layout old (request.Fix x page) new
  fix_consults asks given =
      (slot, region, e, ap wanted asks, there, subst Answers (sym (ap kind_of asks)) given)

  -- For a gather that opens a bundle, and for one that joins one.
  pub gather_consults : x.ask ≡ ask.Gather slot region → Answers kind.Gather → Consults k layout old (request.Fix x page) new
  gather_consults asks given =
      (slot, region, e, ap wanted asks, there, subst Answers (sym (ap kind_of asks)) given)

  pub join_consults : x.ask ≡ ask.Gather slot region → Answers kind.Gather → Consults k layout old (request.Join x page) new
  join_consults asks given =
      (slot, region, e, ap wanted asks, there, subst Answers (sym (ap kind_of asks)) given)

-- ---- where the work is asked nothing

no_page : {f : ℕ × ℕ} → ◌≡◌ {A = Option (ℕ × ℕ)} None (Some f) → ⊥
no_page e = cc

-- A plan that asks something of a slot wants no page.
none_wanted : (slot : ℕ) (a : Ask) (f : ℕ × ℕ) → AsksSlot slot a → wanted a ≡ Some f → ⊥
none_wanted slot (ask.Fix k region) f of e = of
none_wanted slot (ask.Gather k region) f of e = of
none_wanted slot (ask.Unfix k) f of e = no_page e
none_wanted slot (ask.Latch k m) f of e = no_page e
none_wanted slot (ask.Unlatch k) f of e = no_page e
none_wanted slot (ask.Scatter k) f of e = no_page e
none_wanted slot (ask.Choose count) f of e = of
none_wanted slot ask.End f of e = of

module _ {W : Type 0} (k : Work.Ghosts W) (layout : Geometry) (old : W) where
  -- On the way out of a plan.
  pub way_consults : (x : _) (asked : Request) → IsWayOut x asked → Consults k layout old asked old
  way_consults x (request.GiveBack y g) h = refl
  way_consults x (request.End y) h = refl
  way_consults x (request.Take chair) h = absurd h
  way_consults x (request.Fix y page) h = absurd h
  way_consults x (request.Join y page) h = absurd h
  way_consults x (request.Unfix y g) h = absurd h
  way_consults x (request.Scatter y g) h = absurd h
  way_consults x (request.LatchShared y g) h = absurd h
  way_consults x (request.LatchExclusive y g) h = absurd h
  way_consults x (request.UnlatchShared y g) h = absurd h
  way_consults x (request.UnlatchExclusive y g) h = absurd h
  way_consults x (request.Choose y branch) h = absurd h
  way_consults x (request.Finish y) h = absurd h
  way_consults x (request.Answer returned) h = absurd h
  way_consults x (request.AnswerJoin returned) h = absurd h
  way_consults x (request.Flush page) h = absurd h
  way_consults x (request.FlushNext number) h = absurd h

  -- Where the plan asks something of a slot that holds a page, or is a bundle.
  pub slot_consults : (x : Session) (slot : ℕ) (asked : Request) → AsksSlot slot x.ask → IsStep layout x asked
      → Consults k layout old asked old
  slot_consults x slot (request.Fix y page) of step = absurd (none_wanted slot x.ask (step.1, step.2) of step.3)
  slot_consults x slot (request.Join y page) of step = absurd (none_wanted slot x.ask (step.1, step.2) of (ap wanted step.3))
  slot_consults x slot (request.Choose y branch) of step = absurd (subst (AsksSlot slot) step.2 of)
  slot_consults x slot (request.Unfix y g) of step = refl
  slot_consults x slot (request.Scatter y g) of step = refl
  slot_consults x slot (request.LatchShared y g) of step = refl
  slot_consults x slot (request.LatchExclusive y g) of step = refl
  slot_consults x slot (request.UnlatchShared y g) of step = refl
  slot_consults x slot (request.UnlatchExclusive y g) of step = refl
  slot_consults x slot (request.Finish y) of step = refl
  slot_consults x slot (request.Take chair) of step = absurd step
  slot_consults x slot (request.End y) of step = absurd step
  slot_consults x slot (request.GiveBack y g) of step = absurd step
  slot_consults x slot (request.Answer returned) of step = absurd step
  slot_consults x slot (request.AnswerJoin returned) of step = absurd step
  slot_consults x slot (request.Flush page) of step = absurd step
  slot_consults x slot (request.FlushNext number) of step = absurd step

  -- So it is of a request that comes, if one comes.
  pub slot_consults_at : (x : Session) (slot : ℕ) (r : Result Request Session) → AsksSlot slot x.ask
      → IfOk r (λ asked. (l : Geometry) → IsStep l x asked) → IfOk r (λ asked. Consults k layout old asked old)
  slot_consults_at x slot (Ok asked) of step = slot_consults x slot asked of (step layout)
  slot_consults_at x slot (Err e) of step = tt

-- What is asked in every layout is asked in this one.
pub consults_at : {W : Type 0} (k : Work.Ghosts W) (layout : Geometry) (old new : W) (r : Result Request Session)
    → IfOk r (λ asked. (l : Geometry) → Consults k l old asked new) → IfOk r (λ asked. Consults k layout old asked new)
consults_at k layout old new (Ok asked) h = h layout
consults_at k layout old new (Err e) h = tt

-- ---- the room that is got before

-- It changes nothing that a turn speaks of, but the room for a page, and how much the log has room for.
module _ {S D W : Type 0} (s : Site.Ghosts S) (d : Device.Ghosts D) (k : Work.Ghosts W) (old mid new : Worker S D)
    (before left : W) (site : mid.site ≡ old.site) (device : mid.device ≡ old.device) (hand : mid.hand ≡ old.hand)
    (log : mid.log.items ≡ old.log.items) (layout : mid.layout ≡ old.layout) (end : end_of mid ≡ end_of old) where
  request_from : (is_logged : Bool) (ends : Turned) → MakesRequest s d k is_logged mid before ends new left
      → MakesRequest s d k is_logged old before ends new left
  request_from is_logged ends t =
      record {
        asked = t.asked;
        response = t.response;
        after = t.after;
        between = t.between;
        used = t.used;
        asks =
            subst (λ l. Asks d.read_gives d.write_leaves d.calls d.failures l old.hand.stage old.device t.asked new.device) layout
            (subst (λ h. Asks d.read_gives d.write_leaves d.calls d.failures mid.layout h.stage old.device t.asked new.device) hand
            (subst (λ e. Asks d.read_gives d.write_leaves d.calls d.failures mid.layout mid.hand.stage e t.asked new.device)
            device t.asks));
        consults = subst (λ l. Consults k l before t.asked t.between) layout t.consults;
        own = subst (λ (h : Hand). IsOwn h.guards t.asked) hand t.own;
        finds =
            subst (λ (h : Hand). FindsPlace (places_without h.guards (guard_asked t.asked)) t.asked) hand t.finds;
        leaves = subst (λ (h : Hand). LeavesInOrder h.guards t.asked) hand t.leaves;
        given = subst (λ x. s.gives x t.asked t.response new.site) site t.given;
        fits = t.fits;
        log = t.log ∙ ap (λ es. es ++ logged_events is_logged t.response.event) log;
        uses = t.uses;
        tells =
            subst (λ e. Tells k (page_called t.asked) t.used e t.response.event left (end_of new)) end t.tells;
        stage = t.stage;
        guards =
            t.guards
            ∙ ap (λ (h : Hand). places_with (places_without h.guards (guard_asked t.asked)) (guard_in t.after)) hand;
      }

module _ {S D W : Type 0} (s : Site.Ghosts S) (d : Device.Ghosts D) (k : Work.Ghosts W) (old mid new : Worker S D)
    (before left : W) (turned : Turned) (site : mid.site ≡ old.site)
    (device : mid.device ≡ old.device) (hand : mid.hand ≡ old.hand) (log : mid.log.items ≡ old.log.items)
    (layout : mid.layout ≡ old.layout) (end : end_of mid ≡ end_of old)
    (len : length mid.log.items ≡ length old.log.items) (grown : old.log.capacity ≤ mid.log.capacity) where
  full_from : mid.log.capacity ≤ length mid.log.items → old.log.capacity ≤ length old.log.items
  full_from full = omega (arith, len, grown, full)

  makes_from : (is_logged : Bool) (ends : Turned) → Makes s d k is_logged mid before ends new left
      → Makes s d k is_logged old before ends new left
  makes_from is_logged ends t =
      record {
        lent = t.lent;
        reworked = t.reworked;
        reworks =
            subst (λ (h : Hand). ReworksIf k h.stage before h.guards t.lent t.reworked) hand t.reworks;
        makes =
            request_from s d k (with_guards old t.lent) (with_guards mid t.lent) new t.reworked left site device
            (ap (λ (h : Hand). record h { guards = t.lent }) hand) log layout end is_logged ends t.makes;
      }

  one_from : MakesOne s d k mid before turned new left → MakesOne s d k old before turned new left
  one_from h =
      elim (h) [
        | inl t ↦ inl (makes_from true turned t)
        | inr t ↦ inr (record {
          errand = subst (λ (x : Hand). has_errand x.stage ≡ true) hand t.errand;
          full = full_from t.full;
          ends = t.ends;
          makes = makes_from false t.ends t.makes;
          broken = t.broken;
        })
      ]

  may_from : (t : Turned) → MayWait mid t → MayWait old t
  may_from NoMemory may = subst (λ (h : Hand). is_chair h.stage ≡ true) hand may
  may_from Broken may =
      elim (may) [
        | inl lacks ↦ inl (subst (λ l. can_ask l old.hand ≡ false) layout (subst (λ h. can_ask mid.layout h ≡ false) hand lacks))
        | inr lacks ↦ inr (subst (λ (h : Hand). has_errand h.stage ≡ false) hand lacks.0, full_from lacks.1)
      ]
  may_from Done may = absurd may
  may_from NotNow may = absurd may
  may_from Ended may = absurd may

  pub turn_from : TurnIs s d k mid before turned new left → TurnIs s d k old before turned new left
  turn_from h =
      elim (h) [
        | inl t ↦ inl (one_from t)
        | inr w ↦ inr (record {
          may = may_from turned w.may;
          site = w.site ∙ site;
          device = w.device ∙ device;
          hand = w.hand ∙ hand;
          log = w.log ∙ log;
          end = w.end ∙ end;
          work = w.work;
        })
      ]

-- ---- with an errand in hand

-- An errand that keeps its place can be sent.
errand_can : (layout : Geometry) (hand : Hand) → has_errand hand.stage ≡ true → KeepsPlace hand
    → can_ask layout hand ≡ true
errand_can layout hand has keeps = by_stage hand.stage has keeps
  where
    by_stage : (at : Stage) → has_errand at ≡ true → keeps_place hand.guards at ≡ true
        → can_ask_at layout hand.guards at ≡ true
    by_stage (stage.Out errand) has keeps = keeps
    by_stage (stage.Back returned) has keeps = keeps
    by_stage (stage.Idle chair) has keeps = absurd (false≢true has)
    by_stage (stage.In x) has keeps = absurd (false≢true has)
    by_stage (stage.Leaving x) has keeps = absurd (false≢true has)

pub no_chair : (at : Stage) → has_errand at ≡ true → is_chair at ≡ true → ⊥
no_chair (stage.Idle chair) has is = false≢true has
no_chair (stage.In x) has is = false≢true has
no_chair (stage.Out errand) has is = false≢true is
no_chair (stage.Back returned) has is = false≢true is
no_chair (stage.Leaving x) has is = false≢true has

never_waits : {S D : Type 0} (old : Worker S D) (turned : Turned) → has_errand old.hand.stage ≡ true
    → KeepsPlace old.hand → MayWait old turned → ⊥
never_waits old NoMemory has keeps may = no_chair old.hand.stage has may
never_waits old Broken has keeps may =
    elim (may) [
      | inl lacks ↦ false≢true (sym lacks ∙ errand_can old.layout old.hand has keeps)
      | inr lacks ↦ false≢true (sym lacks.0 ∙ has)
    ]
never_waits old Done has keeps may = may
never_waits old NotNow has keeps may = may
never_waits old Ended has keeps may = may

-- So its turn makes its request.
pub errand_made : {S D W : Type 0} (s : Site.Ghosts S) (d : Device.Ghosts D) (k : Work.Ghosts W) (old new : Worker S D)
    (before left : W) (turned : Turned) → TurnIs s d k old before turned new left → has_errand old.hand.stage ≡ true
    → KeepsPlace old.hand → MakesOne s d k old before turned new left
errand_made s d k old new before left turned (inl one) has keeps = one
errand_made s d k old new before left turned (inr w) has keeps = absurd (never_waits old turned has keeps w.may)
