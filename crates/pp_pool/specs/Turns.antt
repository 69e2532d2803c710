-- What a turn of a worker does.
use Rattle.std.specs.Prelude.{◌≡◌, ◌≢◌, ◌⊎◌, ◌==◌, if◌then◌else◌, ℕ, ◌+◌, ◌-◌, ◌^◌, ◌<◌, ◌≤◌, nat_lt, min, max, Bool, true, false, ◌&&◌, ◌||◌}
use Rattle.std.specs.Prelude.{List, [], ◌∷◌, length, ◌++◌, slice_get, slice_set}
use Rattle.std.specs.Prelude.{Option, None, Some, IfSome, IsSome}
use Rattle.std.specs.Prelude.{MatchOption}
use Rattle.std.specs.Option.{is_some, option_map}
use Rattle.pp_settings.specs.Layout.{Geometry, HasPage}
use Rattle.pp_settings.specs.declared.extent.Extent.{Extent}
use Rattle.pp_plan.specs.declared.mode.Mode.TheVariants as mode
use Rattle.pp_plan.specs.declared.action.Ask.{Ask}
use Rattle.pp_plan.specs.declared.action.Ask.TheVariants as ask
use Rattle.pp_core.specs.Fixing.{wanted}
use Rattle.pp_model.specs.declared.event.Event.{Event}
use Rattle.pp_model.specs.declared.event.Event.TheVariants.{Submit, Step}
use Rattle.pp_model.specs.declared.moves.Move.{Move}
use Rattle.pp_model.specs.declared.moves.Move.TheVariants as move
use Rattle.pp_model.specs.declared.reply.Reply.{Reply}
use Rattle.pp_model.specs.declared.reply.Reply.TheVariants as reply
use Rattle.pp_model.specs.declared.reply.Ending.TheVariants as ending
use Rattle.pp_journal.specs.Events.{Events}
use Rattle.pp_model.specs.declared.refusals.Delay.TheVariants.{NothingWaiting}
use Rattle.pp_device.specs.declared.device.Device as Device
use Rattle.pp_device.specs.Answers.{Answer as DeviceAnswer}
use Rattle.pp_device.specs.Image.{head_of, body_of}
use Rattle.pp_vault.specs.declared.refusal.Refusal.{Refusal}
use Rattle.pp_vault.specs.declared.refusal.Refusal.TheVariants as refusal
use Rattle.pp_vault.specs.declared.tokens.Session.{Session}
use Rattle.pp_vault.specs.declared.tokens.Leaver.{Leaver}
use Rattle.pp_vault.specs.declared.tokens.Returned.{Returned}
use Rattle.pp_vault.specs.declared.guards.ReadGuard.{ReadGuard}
use Rattle.pp_vault.specs.declared.guards.WriteGuard.{WriteGuard}
use Rattle.pp_vault.specs.declared.guards.Guard.{Guard}
use Rattle.pp_vault.specs.declared.guards.Guard.TheVariants as guard
use Rattle.pp_vault.specs.declared.stage.Stage.{Stage}
use Rattle.pp_vault.specs.declared.stage.Stage.TheVariants as stage
use Rattle.pp_vault.specs.declared.stage.Hand.{Hand}
use Rattle.pp_vault.specs.Stages.{is_chair}
use Rattle.pp_vault.specs.Duties.{duty_slot, duty_page}
use Rattle.pp_vault.specs.Fits.{fix_slot}
use Rattle.pp_vault.specs.Holding.{slot_by, placed, is_free, all_free, has_bundle}
use Rattle.pp_vault.specs.Lending.{with_body}
use Rattle.pp_pool.specs.declared.request.Request.{Request}
use Rattle.pp_pool.specs.declared.request.Request.TheVariants as request
use Rattle.pp_pool.specs.declared.response.BookAnswer.{BookAnswer}
use Rattle.pp_pool.specs.declared.response.BookAnswer.TheVariants as answer
use Rattle.pp_pool.specs.declared.response.Response.{Response}
use Rattle.pp_pool.specs.declared.turned.Turned.{Turned}
use Rattle.pp_pool.specs.declared.turned.Turned.TheVariants.{Done, NotNow, Ended, NoMemory, Broken}
use Rattle.pp_pool.specs.declared.site.Site as Site
use Rattle.pp_pool.specs.declared.work.Work as Work
use Rattle.pp_pool.specs.declared.work.Kind.{Kind}
use Rattle.pp_pool.specs.declared.work.Kind.TheVariants as kind
use Rattle.pp_pool.specs.declared.work.End.{End}
use Rattle.pp_pool.specs.declared.work.End.TheVariants as end
use Rattle.pp_pool.specs.declared.worker.Worker.{Worker}
use Rattle.pp_pool.specs.Requests.{events_in}
use Rattle.pp_pool.specs.Replies.{slot_for, Replies}
use Rattle.pp_pool.specs.Flushings.{Sends, IsAnswer}
use Rattle.pp_pool.specs.Lent.{lent_in, off_next, AreReworked}

-- As many bytes as can be counted: a work that wants all of a page reaches for them.
abbrev pub all_bytes : ℕ
all_bytes = 2 ^ 64 - 1

-- ---- what a worker asks

-- The request is what the session's plan asks: a page of the region that its fix or its gather names, a branch of those that
-- it has, or the guard of the slot that it names.
abbrev pub IsStep : Geometry → Session → Request → Type 0
IsStep layout x (request.Fix y page) =
    (y ≡ x) × (slot : ℕ) × (region : ℕ) × (wanted x.ask ≡ Some (slot, region)) × HasPage layout region page
IsStep layout x (request.Join y page) =
    (y ≡ x) × (slot : ℕ) × (region : ℕ) × (x.ask ≡ ask.Gather slot region) × HasPage layout region page
IsStep layout x (request.Unfix y g) = (y ≡ x) × (x.ask ≡ ask.Unfix g.slot)
IsStep layout x (request.Scatter y g) = (y ≡ x) × (x.ask ≡ ask.Scatter g.slot)
IsStep layout x (request.LatchShared y g) = (y ≡ x) × (x.ask ≡ ask.Latch g.slot mode.S)
IsStep layout x (request.LatchExclusive y g) = (y ≡ x) × (x.ask ≡ ask.Latch g.slot mode.X)
IsStep layout x (request.UnlatchShared y g) = (y ≡ x) × (x.ask ≡ ask.Unlatch g.slot)
IsStep layout x (request.UnlatchExclusive y g) = (y ≡ x) × (x.ask ≡ ask.Unlatch g.slot)
IsStep layout x (request.Choose y branch) = (y ≡ x) × (count : ℕ) × (x.ask ≡ ask.Choose count) × (branch < count)
IsStep layout x (request.Finish y) = (y ≡ x) × (x.ask ≡ ask.End)
IsStep layout x _ = ⊥

-- The request is one of a worker that leaves its plan.
abbrev pub IsWayOut : Leaver → Request → Type 0
IsWayOut x (request.GiveBack y g) = y ≡ x
IsWayOut x (request.End y) = y ≡ x
IsWayOut x _ = ⊥

-- The request tells what came of a device, for a page that comes into a slot, or for one that joins a bundle.
abbrev pub IsTold : Returned → Request → Type 0
IsTold returned asked = IsAnswer returned asked ⊎ (asked ≡ request.AnswerJoin returned)

-- What the worker asks by its stage: with an errand in hand it calls the device once, and else it does not.
abbrev pub Asks : {D : Type 0} → (D → ℕ → List ℕ → DeviceAnswer → List ℕ → D → Type 0)
    → (D → ℕ → List ℕ → DeviceAnswer → D → Type 0) → (D → ℕ) → (D → ℕ) → Geometry → Stage → D → Request → D → Type 0
Asks reads writes calls failures layout (stage.Idle chair) old asked new = (asked ≡ request.Take chair) × (new ≡ old)
Asks reads writes calls failures layout (stage.In session) old asked new = IsStep layout session asked × (new ≡ old)
Asks reads writes calls failures layout (stage.Out errand) old asked new =
    Sends reads writes calls failures IsTold errand old asked new
Asks reads writes calls failures layout (stage.Back returned) old asked new = IsTold returned asked × (new ≡ old)
Asks reads writes calls failures layout (stage.Leaving leaver) old asked new = IsWayOut leaver asked × (new ≡ old)

-- How the plan wants its next page, where it wants one: by a fix or by a gather.
abbrev pub kind_of : Ask → Kind
kind_of (ask.Gather slot region) = kind.Gather
kind_of _ = kind.Fix

-- The work is asked for a page: for the slot that the plan's fix or gather names, of the region that it names, from the region's
-- first page on, of as many as the region has. It answers what it can for that slot, or what it can for any.
abbrev pub ConsultsPage : {W : Type 0} → Work.Ghosts W → Geometry → (old : W) → Session → (page : ℕ) → (new : W) → Type 0
ConsultsPage k layout old x page new =
    (slot : ℕ) × (region : ℕ) × (e : Extent) × (wanted x.ask ≡ Some (slot, region)) × (slice_get layout.extents region ≡ Some e)
    × (k.page_into_gives old slot (kind_of x.ask) region e.first e.count page new
    ⊎ k.page_gives old region e.first e.count page new)

-- What the work is asked for the request: for a fix or a gather a page; for a choice a branch, of as many as the choice has.
-- For any other request it is asked nothing, and is as it was.
abbrev pub Consults : {W : Type 0} → Work.Ghosts W → Geometry → (old : W) → Request → (new : W) → Type 0
Consults k layout old (request.Fix x page) new = ConsultsPage k layout old x page new
Consults k layout old (request.Join x page) new = ConsultsPage k layout old x page new
Consults k layout old (request.Choose x branch) new =
    (count : ℕ) × (x.ask ≡ ask.Choose count) × k.branch_gives old count branch new
Consults k layout old _ new = new ≡ old

-- ---- pages that the work is lent

-- The work was lent exactly the pages that are latched X, before the latch of this slot comes off. What it left in their bodies is
-- what stands in them now; nothing else has changed of the guards.
pub record Reworks {W : Type 0} (k : Work.Ghosts W) (off : ℕ) (old : W) (places places' : List (Option Guard)) (new : W)
    : Type 0 where
  pub bodies : AreReworked places places'
  pub left : k.rework_leaves old off (lent_in places) (lent_in places') new

-- It is lent them before a latch X comes off, and at no other time. A work that does nothing with them leaves all as it was.
abbrev pub ReworksIf : {W : Type 0} → Work.Ghosts W → Stage → (old : W) → (places places' : List (Option Guard)) → (new : W)
    → Type 0
ReworksIf k stage old places places' new =
    MatchOption (off_next stage places) ((new ≡ old) × (places' ≡ places))
    (λ off. Reworks k off old places places' new ⊎ ((new ≡ old) × (places' ≡ places)))

-- ---- what the work is told of its plan

-- The page with which a device was called, where the request tells what came of that.
abbrev pub page_called : Request → Option ℕ
page_called (request.Answer returned) = Some (duty_page returned.duty)
page_called (request.AnswerJoin returned) = Some (duty_page returned.duty)
page_called _ = None

-- The work is told that its plan has ended so.
abbrev pub IsToldEnd : {W : Type 0} → Work.Ghosts W → (old : W) → End → (new : W) → Type 0
IsToldEnd k old e new = k.ended_leaves old e new ⊎ (new ≡ old)

-- The work is told nothing, and no more is known of how its plan will end.
abbrev pub TellsNothing : {W : Type 0} → (old : W) → (was : Option End) → (new : W) → (now : Option End) → Type 0
TellsNothing old was new now = (new ≡ old) × (now ≡ was)

-- What the work is told by the move and the reply of an event. A plan that was taken begins. One that was finished has ended: it is
-- done, or gone as it was known to be. Where a call of the device came to a failure, it is known that the plan will end so, with the
-- page of that call. By any other event the work is told nothing.
abbrev pub TellsStep : {W : Type 0} → Work.Ghosts W → (called : Option ℕ) → (old : W) → (was : Option End) → Move → Reply
    → (new : W) → (now : Option End) → Type 0
TellsStep k called old was (move.Take w) (reply.Taken plan) new now =
    (k.begins_leaves old plan new ⊎ (new ≡ old)) × (now ≡ None)
TellsStep k called old was (move.ReadDone w came) (reply.Failed why) new now =
    (new ≡ old) × (now ≡ option_map (λ page. end.Gone page why) called)
TellsStep k called old was (move.WriteDone w ok) (reply.Failed why) new now =
    (new ≡ old) × (now ≡ option_map (λ page. end.Gone page why) called)
TellsStep k called old was (move.Finish w) (reply.Finished ending.Done) new now = IsToldEnd k old end.Done new × (now ≡ None)
TellsStep k called old was (move.Finish w) (reply.Finished ending.Gone) new now =
    MatchOption was (new ≡ old) (λ e. IsToldEnd k old e new) × (now ≡ None)
TellsStep k called old was did out new now = TellsNothing old was new now

-- What it is told by the event of a request, if there is one.
abbrev pub Tells : {W : Type 0} → Work.Ghosts W → (called : Option ℕ) → (old : W) → (was : Option End) → Option Event
    → (new : W) → (now : Option End) → Type 0
Tells k called old was None new now = TellsNothing old was new now
Tells k called old was (Some (Submit plan)) new now = TellsNothing old was new now
Tells k called old was (Some (Step did out)) new now = TellsStep k called old was did out new now

-- ---- the guards in hand

-- The guard that a request has in it, if it has one.
abbrev pub guard_asked : Request → Option Guard
guard_asked (request.Unfix x g) = Some (guard.Pin g)
guard_asked (request.Scatter x g) = Some (guard.Bundle g)
guard_asked (request.LatchShared x g) = Some (guard.Pin g)
guard_asked (request.LatchExclusive x g) = Some (guard.Pin g)
guard_asked (request.UnlatchShared x g) = Some (guard.Read g)
guard_asked (request.UnlatchExclusive x g) = Some (guard.Write g)
guard_asked (request.GiveBack x g) = Some g
guard_asked _ = None

-- The guard that an answer has in it, if it has one.
abbrev pub guard_in : BookAnswer → Option Guard
guard_in (answer.Pinned x g) = Some (guard.Pin g)
guard_in (answer.Opened x g) = Some (guard.Bundle g)
guard_in (answer.Shared x g) = Some (guard.Read g)
guard_in (answer.Exclusive x g) = Some (guard.Write g)
guard_in (answer.No back why) = guard_asked back
guard_in _ = None

-- The places without this guard, and with it.
abbrev pub places_without : List (Option Guard) → Option Guard → List (Option Guard)
places_without places None = places
places_without places (Some g) = slice_set places (slot_by g) None

abbrev pub places_with : List (Option Guard) → Option Guard → List (Option Guard)
places_with places None = places
places_with places (Some g) = slice_set places (slot_by g) (Some g)

-- A bundle's guard is in the place of the slot.
abbrev pub HasBundle : List (Option Guard) → (slot : ℕ) → Type 0
HasBundle places slot = has_bundle (placed places slot) ≡ true

-- A page that joins a bundle finds the bundle's guard in its place, and brings none. A guard that comes of any other request
-- finds its place free.
abbrev pub FindsPlace : List (Option Guard) → Request → Type 0
FindsPlace places (request.Join x page) = HasBundle places (fix_slot x.ask)
FindsPlace places (request.AnswerJoin returned) = IfSome (duty_slot returned.duty) (HasBundle places)
FindsPlace places asked = IfSome (slot_for asked) (λ slot. is_free places slot ≡ true)

-- A worker that leaves its plan gives back the least slot first of those that have a guard, and is idle again only where none has
-- one any more.
abbrev pub LeavesInOrder : List (Option Guard) → Request → Type 0
LeavesInOrder places (request.GiveBack x g) = (slot : ℕ) → slot < slot_by g → placed places slot ≡ None
LeavesInOrder places (request.End x) = all_free places ≡ true
LeavesInOrder places _ = Unit {0}

-- The request is one of a worker.
abbrev pub IsWorkers : Request → Type 0
IsWorkers (request.Answer returned) = IsSome (duty_slot returned.duty)
IsWorkers (request.AnswerJoin returned) = IsSome (duty_slot returned.duty)
IsWorkers (request.Flush page) = ⊥
IsWorkers (request.FlushNext number) = ⊥
IsWorkers _ = Unit {0}

-- The guard that is handed over is the hand's own of that slot.
abbrev pub IsOwn : List (Option Guard) → Request → Type 0
IsOwn places asked = IfSome (guard_asked asked) (λ g. placed places (slot_by g) ≡ Some g)

-- A worker with these guards makes the request, and keeps the rest of them.
pub record Prepares (places : List (Option Guard)) (asked : Request) (rest : List (Option Guard)) : Type 0 where
  pub keeps : rest ≡ places_without places (guard_asked asked)
  pub own : IsOwn places asked
  pub finds : FindsPlace rest asked
  pub leaves : LeavesInOrder places asked
  pub workers : IsWorkers asked

-- ---- whether a request can be made

-- The plan asks something of this slot, which has to hold a page, or to be a bundle.
abbrev pub AsksSlot : (slot : ℕ) → Ask → Type 0
AsksSlot slot (ask.Unfix of) = of ≡ slot
AsksSlot slot (ask.Latch of m) = of ≡ slot
AsksSlot slot (ask.Unlatch of) = of ≡ slot
AsksSlot slot (ask.Scatter of) = of ≡ slot
AsksSlot slot _ = ⊥

-- Whether the guard is one with which this can be done: a pin to unfix or to latch, a latch to unlatch, and a bundle to
-- scatter.
abbrev pub suits : Ask → Guard → Bool
suits (ask.Unfix slot) (guard.Pin g) = true
suits (ask.Latch slot m) (guard.Pin g) = true
suits (ask.Unlatch slot) (guard.Read g) = true
suits (ask.Unlatch slot) (guard.Write g) = true
suits (ask.Scatter slot) (guard.Bundle g) = true
suits _ _ = false

abbrev pub is_suited : Ask → Option Guard → Bool
is_suited a None = false
is_suited a (Some g) = suits a g

-- Whether a page may come for the slot: its place is free, or has a bundle's guard, and the page joins that bundle.
abbrev pub may_come : List (Option Guard) → (slot : ℕ) → Bool
may_come places slot = is_free places slot || has_bundle (placed places slot)

-- Whether a worker with these guards can ask what its plan asks: a fix finds its region, and the place of its slot free; a
-- gather its region, and that place free or with a bundle's guard; a choice has a branch; and any other slot has the guard that
-- is wanted.
abbrev pub can_step : Geometry → List (Option Guard) → Ask → Bool
can_step layout places (ask.Fix slot region) = is_some (slice_get layout.extents region) && is_free places slot
can_step layout places (ask.Unfix slot) = is_suited (ask.Unfix slot) (placed places slot)
can_step layout places (ask.Latch slot m) = is_suited (ask.Latch slot m) (placed places slot)
can_step layout places (ask.Unlatch slot) = is_suited (ask.Unlatch slot) (placed places slot)
can_step layout places (ask.Gather slot region) = is_some (slice_get layout.extents region) && may_come places slot
can_step layout places (ask.Scatter slot) = is_suited (ask.Scatter slot) (placed places slot)
can_step layout places (ask.Choose count) = nat_lt 0 count
can_step layout places ask.End = true

-- Whether there is a slot, and a page may come for it.
abbrev pub has_place : List (Option Guard) → Option ℕ → Bool
has_place places None = false
has_place places (Some slot) = may_come places slot

-- Whether the hand can make a request: what its plan asks, or what a device's answer wants, has its guard or its place.
abbrev pub can_ask_at : Geometry → List (Option Guard) → Stage → Bool
can_ask_at layout places (stage.Idle chair) = true
can_ask_at layout places (stage.In x) = can_step layout places x.ask
can_ask_at layout places (stage.Out errand) = has_place places (duty_slot errand.duty)
can_ask_at layout places (stage.Back returned) = has_place places (duty_slot returned.duty)
can_ask_at layout places (stage.Leaving leaver) = true

abbrev pub can_ask : Geometry → Hand → Bool
can_ask layout hand = can_ask_at layout hand.guards hand.stage

-- ---- with an errand in hand

-- Whether an errand is in hand: a device has to work for the worker, or has worked and the site wasn't told yet.
abbrev pub has_errand : Stage → Bool
has_errand (stage.Out errand) = true
has_errand (stage.Back returned) = true
has_errand _ = false

-- Whether the errand's page may come for its slot; true where no errand is in hand.
abbrev pub keeps_place : List (Option Guard) → Stage → Bool
keeps_place places (stage.Out errand) = has_place places (duty_slot errand.duty)
keeps_place places (stage.Back returned) = has_place places (duty_slot returned.duty)
keeps_place places _ = true

-- A hand in which the place of an errand's slot, if there is one, is free or has a bundle's guard. An idle hand is one, and each
-- turn leaves one.
abbrev pub KeepsPlace : Hand → Type 0
KeepsPlace hand = keeps_place hand.guards hand.stage ≡ true

-- ---- what comes of it

-- The stage of a worker whose request comes back, or is answered so; none where it isn't one of a worker.
abbrev pub stage_asked : Request → Option Stage
stage_asked (request.Take chair) = Some (stage.Idle chair)
stage_asked (request.Fix x page) = Some (stage.In x)
stage_asked (request.Join x page) = Some (stage.In x)
stage_asked (request.Unfix x g) = Some (stage.In x)
stage_asked (request.Scatter x g) = Some (stage.In x)
stage_asked (request.LatchShared x g) = Some (stage.In x)
stage_asked (request.LatchExclusive x g) = Some (stage.In x)
stage_asked (request.UnlatchShared x g) = Some (stage.In x)
stage_asked (request.UnlatchExclusive x g) = Some (stage.In x)
stage_asked (request.Choose x branch) = Some (stage.In x)
stage_asked (request.Finish x) = Some (stage.In x)
stage_asked (request.End x) = Some (stage.Leaving x)
stage_asked (request.GiveBack x g) = Some (stage.Leaving x)
stage_asked (request.Answer returned) = Some (stage.Back returned)
stage_asked (request.AnswerJoin returned) = Some (stage.Back returned)
stage_asked (request.Flush page) = None
stage_asked (request.FlushNext number) = None

abbrev pub stage_in : BookAnswer → Option Stage
stage_in (answer.Acts x) = Some (stage.In x)
stage_in (answer.Idle chair) = Some (stage.Idle chair)
stage_in (answer.Leaves x) = Some (stage.Leaving x)
stage_in (answer.Pinned x g) = Some (stage.In x)
stage_in (answer.Opened x g) = Some (stage.In x)
stage_in (answer.Joined x) = Some (stage.In x)
stage_in (answer.Shared x g) = Some (stage.In x)
stage_in (answer.Exclusive x g) = Some (stage.In x)
stage_in (answer.Away errand) = Some (stage.Out errand)
stage_in (answer.Flushed clean) = None
stage_in (answer.No back why) = stage_asked back

-- An image in the guard of an answer has 64 bytes or more.
abbrev pub IsLong : BookAnswer → Type 0
IsLong (answer.Exclusive x g) = 64 ≤ length g.image
IsLong _ = Unit {0}

-- After a latch X the work changes the body of the guard's image, which it is told is the guard's page. What it leaves there
-- is the body from then on.
pub record Changes {W : Type 0} (k : Work.Ghosts W) (old : W) (x : Session) (g : WriteGuard) (after : BookAnswer) (new : W)
    : Type 0 where
  pub body : List ℕ
  pub left : k.change_leaves old g.page (body_of g.image) body new
  pub long : length body ≡ length (body_of g.image)
  pub stays : after ≡ answer.Exclusive x (record g { image = with_body g.image body })

-- Whether the guard's page was shown: the site says so, and the bytes begin with the guard's page and mark.
abbrev pub is_shown : ReadGuard → (shown : Bool) → (bytes : List ℕ) → Bool
is_shown guard shown bytes =
    shown && (((head_of bytes).0 == guard.page) && ((head_of bytes).1 == guard.mark))

-- How far the work reaches, where that is known: one of the numbers that it can answer, or all bytes.
abbrev pub IsReach : {W : Type 0} → Work.Ghosts W → (known : Option ℕ) → W → Type 0
IsReach k known work = IfSome known (λ reach. k.reach_gives work reach ⊎ (reach ≡ all_bytes))

-- After a latch S the site is asked to show the guard's page: as many bytes as the work reaches for, 64 at least, but no more
-- than there is room for. If it was shown, the work sees exactly the bytes that the site showed; else it sees nothing, and
-- the turn is broken.
pub record LooksAt {S W : Type 0} (s : Site.Ghosts S) (k : Work.Ghosts W) (site : S) (room : ℕ) (guard : ReadGuard) (old : W)
    (turned : Turned) (new : W) : Type 0 where
  pub reach : ℕ
  pub reaches : k.reach_gives old reach ⊎ (reach ≡ all_bytes)
  pub before : List ℕ
  pub asked : length before ≡ min (max reach 64) room
  pub shown : Bool
  pub bytes : List ℕ
  pub given : s.shows site guard before shown bytes
  pub turned_is : turned ≡ (if is_shown guard shown bytes then Done else Broken)
  pub seen : is_shown guard shown bytes ≡ true → k.see_leaves old guard.page guard.mark bytes new
  pub unseen : is_shown guard shown bytes ≡ false → new ≡ old

-- A refusal ends a turn so: nothing waits; it may be possible later; or it is a slip.
abbrev pub turned_by : Refusal → Turned
turned_by (refusal.NotNow NothingWaiting) = Ended
turned_by (refusal.NotNow _) = NotNow
turned_by (refusal.OffPlan cause) = Broken
turned_by refusal.Stranger = Broken

-- What the work does with an answer's page, and how the turn ends: after a latch X it changes the page, after a latch S it
-- sees it. Any other answer stays as it is, the work too, and the turn is done but for a refusal.
abbrev pub Uses : {S W : Type 0} → Site.Ghosts S → Work.Ghosts W → (site : S) → (room : ℕ) → (old : W) → BookAnswer → Turned
    → (after : BookAnswer) → (new : W) → Type 0
Uses s k site room old (answer.Exclusive x g) turned after new = Changes k old x g after new × (turned ≡ Done)
Uses s k site room old (answer.Shared x g) turned after new =
    LooksAt s k site room g old turned new × (after ≡ answer.Shared x g)
Uses s k site room old (answer.No back why) turned after new =
    (turned ≡ turned_by why) × (after ≡ answer.No back why) × (new ≡ old)
Uses s k site room old out turned after new = (turned ≡ Done) × (after ≡ out) × (new ≡ old)

-- ---- a turn

-- How many bytes of a page the worker has room for.
abbrev pub room_of : {S D : Type 0} → Worker S D → ℕ
room_of w = length w.seen.items

-- How the plan that the worker leaves will end, where that is known.
abbrev pub end_of : {S D : Type 0} → Worker S D → Option End
end_of w = w.kept.end

-- How far the worker knows its work to reach, if it does.
abbrev pub reach_of : {S D : Type 0} → Worker S D → Option ℕ
reach_of w = w.kept.reach

-- What is added to a log: the event, unless the log had no room for it.
abbrev pub logged_events : (is_logged : Bool) → Option Event → List Event
logged_events true event = events_in event
logged_events false event = []

-- One request is made of the site, and what comes of it is in hand. The work is asked for what the request wants, and does
-- what the answer lets it do; by that the turn would end so. Then it is told of its plan. The log grows by the event, if that is
-- logged.
pub record MakesRequest {S D W : Type 0} (s : Site.Ghosts S) (d : Device.Ghosts D) (k : Work.Ghosts W) (is_logged : Bool)
    (old : Worker S D) (before : W) (ends : Turned) (new : Worker S D) (left : W) : Type 0 where
  pub asked : Request
  pub response : Response
  pub after : BookAnswer
  pub between : W
  pub used : W
  pub asks : Asks d.read_gives d.write_leaves d.calls d.failures old.layout old.hand.stage old.device asked new.device
  pub consults : Consults k old.layout before asked between
  pub own : IsOwn old.hand.guards asked
  pub finds : FindsPlace (places_without old.hand.guards (guard_asked asked)) asked
  pub leaves : LeavesInOrder old.hand.guards asked
  pub given : s.gives old.site asked response new.site
  pub fits : Replies asked response
  pub log : new.log.items ≡ old.log.items ++ logged_events is_logged response.event
  pub uses : Uses s k new.site (room_of new) between response.answer ends after used
  pub tells : Tells k (page_called asked) used (end_of old) response.event left (end_of new)
  pub stage : stage_in after ≡ Some new.hand.stage
  pub guards : new.hand.guards ≡ places_with (places_without old.hand.guards (guard_asked asked)) (guard_in after)

-- The worker with these guards in its hand.
abbrev pub with_guards : {S D : Type 0} → Worker S D → List (Option Guard) → Worker S D
with_guards w guards = record w { hand = record w.hand { guards = guards } }

-- One request is made. Where it takes a latch X off, the work is lent the pages before, and what it left in them is in hand as the
-- request is made.
pub record Makes {S D W : Type 0} (s : Site.Ghosts S) (d : Device.Ghosts D) (k : Work.Ghosts W) (is_logged : Bool)
    (old : Worker S D) (before : W) (ends : Turned) (new : Worker S D) (left : W) : Type 0 where
  pub lent : List (Option Guard)
  pub reworked : W
  pub reworks : ReworksIf k old.hand.stage before old.hand.guards lent reworked
  pub makes : MakesRequest s d k is_logged (with_guards old lent) reworked ends new left

-- One request is made, and its event is logged.
abbrev pub Turns : {S D W : Type 0} → Site.Ghosts S → Device.Ghosts D → Work.Ghosts W → (old : Worker S D) → (before : W)
    → Turned → (new : Worker S D) → (left : W) → Type 0
Turns s d k old before turned new left = Makes s d k true old before turned new left

-- One request is made, though the log has no room for its event: an errand was in hand, and waits for no room. The log
-- stays, and the turn is broken.
pub record TurnsUnlogged {S D W : Type 0} (s : Site.Ghosts S) (d : Device.Ghosts D) (k : Work.Ghosts W) (old : Worker S D)
    (before : W) (turned : Turned) (new : Worker S D) (left : W) : Type 0 where
  pub errand : has_errand old.hand.stage ≡ true
  pub full : old.log.capacity ≤ length old.log.items
  pub ends : Turned
  pub makes : Makes s d k false old before ends new left
  pub broken : turned ≡ Broken

-- One request is made.
abbrev pub MakesOne : {S D W : Type 0} → Site.Ghosts S → Device.Ghosts D → Work.Ghosts W → (old : Worker S D) → (before : W)
    → Turned → (new : Worker S D) → (left : W) → Type 0
MakesOne s d k old before turned new left =
    Turns s d k old before turned new left ⊎ TurnsUnlogged s d k old before turned new left

-- Why nothing is asked: memory ran out before a plan is taken; or the hand can make no request; or no errand is in hand, and
-- the log has no room for an event. So an errand that keeps its place never waits.
abbrev pub MayWait : {S D : Type 0} → Worker S D → Turned → Type 0
MayWait old NoMemory = is_chair old.hand.stage ≡ true
MayWait old Broken =
    (can_ask old.layout old.hand ≡ false)
    ⊎ ((has_errand old.hand.stage ≡ false) × (old.log.capacity ≤ length old.log.items))
MayWait old _ = ⊥

-- Nothing is asked: the site, the device, the tokens, the log and the work are as they were.
pub record Waits {S D W : Type 0} (old : Worker S D) (before : W) (turned : Turned) (new : Worker S D) (left : W) : Type 0 where
  pub may : MayWait old turned
  pub site : new.site ≡ old.site
  pub device : new.device ≡ old.device
  pub hand : new.hand ≡ old.hand
  pub log : new.log.items ≡ old.log.items
  pub end : end_of new ≡ end_of old
  pub work : left ≡ before

-- A turn makes one request, or waits.
abbrev pub TurnIs : {S D W : Type 0} → Site.Ghosts S → Device.Ghosts D → Work.Ghosts W → (old : Worker S D) → (before : W)
    → Turned → (new : Worker S D) → (left : W) → Type 0
TurnIs s d k old before turned new left =
    MakesOne s d k old before turned new left ⊎ Waits old before turned new left

-- The rest of a worker stays as it was: the layout, how many bytes a page has, and the room for a page and for events.
pub record KeepsRest {S D : Type 0} (old new : Worker S D) : Type 0 where
  pub layout : new.layout ≡ old.layout
  pub page_bytes : new.page_bytes ≡ old.page_bytes
  pub page : room_of new ≡ room_of old
  pub events : new.log.capacity ≡ old.log.capacity

-- Turns follow one another, and lead over these workers and works: each but the last is done and keeps the rest of the worker,
-- and the last ends so.
abbrev pub TurnsOver : {S D W : Type 0} → Site.Ghosts S → Device.Ghosts D → Work.Ghosts W → (old : Worker S D) → (before : W)
    → List (Worker S D × W) → Turned → (new : Worker S D) → (left : W) → Type 0
TurnsOver s d k old before [] turned new left = TurnIs s d k old before turned new left
TurnsOver s d k old before (mid ∷ rest) turned new left =
    TurnIs s d k old before Done mid.0 mid.1 × TurnsOver s d k mid.0 mid.1 rest turned new left × KeepsRest old mid.0

-- One turn at least is made, and all turns but the last are done.
abbrev pub TurnsBehind : {S D W : Type 0} → Site.Ghosts S → Device.Ghosts D → Work.Ghosts W → (old : Worker S D) → (before : W)
    → Turned → (new : Worker S D) → (left : W) → Type 0
TurnsBehind s d k old before turned new left =
    (over : List (Worker _ _ × _)) × TurnsOver s d k old before over turned new left

-- ---- room

-- The room that a turn leaves. A worker that was idle has it for a page, and in its log for as many events as the dearest plan
-- can add that the site tells of, one at least; unless memory ran out. Any other has what it had, and may have got more where
-- its log was full.
pub record MakesRoom {S D : Type 0} (s : Site.Ghosts S) (old : Worker S D) (turned : Turned) (new : Worker S D) : Type 0 where
  pub log : is_chair old.hand.stage ≡ true → turned ≢ NoMemory
      → (most : ℕ) × s.tells old.site most × (length old.log.items + max most 1 ≤ new.log.capacity)
  pub page : is_chair old.hand.stage ≡ true → turned ≢ NoMemory
      → room_of new ≡ (if room_of old == 0 then old.page_bytes else room_of old)
  pub log_kept : is_chair old.hand.stage ≡ false → length old.log.items < old.log.capacity
      → new.log.capacity ≡ old.log.capacity
  pub log_grown : old.log.capacity ≤ new.log.capacity
  pub page_kept : is_chair old.hand.stage ≡ false → room_of new ≡ room_of old

-- ---- a turn by what it changes

-- The worker with these tokens, this site and device, this log, and this end of a plan that it leaves.
abbrev pub worker_with : {S D : Type 0} → Worker S D → Stage → List (Option Guard) → S → D → Events → Option End → Worker S D
worker_with w stage guards site device log e =
    record w {
      site = site;
      device = device;
      hand = record { stage = stage; guards = guards };
      log = log;
      kept = record w.kept { end = e };
    }

-- A turn makes of the one worker the other, whatever a worker of this layout, with so much room for a page, has besides.
abbrev pub TurnOf : {S D W : Type 0} → Site.Ghosts S → Device.Ghosts D → Work.Ghosts W → Geometry → (room : ℕ)
    → (Worker S D → Worker S D) → (before : W) → Turned → (Worker S D → Worker S D) → (left : W) → Type 0
TurnOf s d k layout room old before turned new left =
    (w : Worker _ _) → w.layout ≡ layout → room_of w ≡ room → TurnIs s d k (old w) before turned (new w) left
