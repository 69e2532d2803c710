-- A turn that is made at once is a turn.
use Rattle.std.proofs.Common.{◌≡◌, ◌∙◌, ◌<◌, ◌≤◌, ◌+◌, ◌++◌, ℕ, Bool, true, false, inl, inr, Option, Some, None, List, [], ◌∷◌, length, refl, sym, ap, subst, arith}
use Rattle.std.proofs.Common.{append_assoc, length-append}
use Rattle.std.specs.Prelude.{slice_set, if◌then◌else◌, ◌&&◌, ltb, is_none, map, IfSome}
use Rattle.std.proofs.lemmas.Bool.{false≢true, ltb-true}
use Rattle.std.proofs.lemmas.List.{get_or-set_same, set-set, set-get_or}
use Rattle.pp_settings.specs.Layout.{Geometry}
use Rattle.pp_plan.specs.declared.action.Ask.TheVariants as ask
use Rattle.pp_model.specs.declared.moves.Move.TheVariants as move
use Rattle.pp_model.specs.declared.reply.Reply.TheVariants as reply
use Rattle.pp_model.specs.declared.event.Event.{Event}
use Rattle.pp_model.specs.declared.event.Event.TheVariants.{Submit, Step}
use Rattle.pp_model.specs.declared.moves.Move.{Move}
use Rattle.pp_model.specs.declared.reply.Reply.{Reply}
use Rattle.pp_journal.specs.Events.{Events}
use Rattle.pp_device.specs.declared.device.Device as Device
use Rattle.pp_vault.specs.declared.tokens.Session.{Session}
use Rattle.pp_vault.specs.declared.guards.ReadGuard.{ReadGuard}
use Rattle.pp_vault.specs.declared.guards.Guard.{Guard}
use Rattle.pp_vault.specs.declared.guards.Guard.TheVariants as guard
use Rattle.pp_vault.specs.declared.stage.Stage.{Stage}
use Rattle.pp_vault.specs.declared.stage.Stage.TheVariants as stage
use Rattle.pp_vault.specs.Stages.{stage_worker}
use Rattle.pp_vault.specs.Holding.{placed, slot_by, is_free}
use Rattle.pp_pool.specs.declared.request.Request.{Request}
use Rattle.pp_pool.specs.declared.request.Request.TheVariants as request
use Rattle.pp_pool.specs.declared.response.BookAnswer.{BookAnswer}
use Rattle.pp_pool.specs.declared.response.BookAnswer.TheVariants as answer
use Rattle.pp_pool.specs.declared.response.Response.{Response}
use Rattle.pp_pool.specs.declared.turned.Turned.{Turned}
use Rattle.pp_pool.specs.declared.turned.Turned.TheVariants.{Done, Broken}
use Rattle.pp_pool.specs.declared.worker.Worker.{Worker}
use Rattle.pp_pool.specs.declared.site.Site as Site
use Rattle.pp_pool.specs.declared.work.Work as Work
use Rattle.pp_pool.specs.Requests.{events_in}
use Rattle.pp_pool.specs.Replies.{Replies, slot_for, IsMoveOf, IsEventOf}
use Rattle.pp_pool.specs.Readings.{hit, latched, unlatched, unfixed, read_events, end_events, ReadsBy, EndsReadBy}
use Rattle.pp_pool.specs.Turns.{Asks, IsStep, IsWorkers, Consults, Prepares, Makes, TurnIs, TurnsOver, worker_with, room_of, keeps_place}
use Rattle.pp_pool.specs.Turns.{Tells, TellsStep, page_called, end_of}
use Rattle.pp_pool.specs.declared.work.End.{End}
use Rattle.pp_pool.specs.Turns.{logged_events, LooksAt, Uses, stage_in, guard_in, guard_asked, places_with}
use Rattle.pp_pool.specs.ShortTurns.{is_quiet, Comes, ComesTold, Scene, TurnAtOnce, TurnsAtOnceOver, TurnsAtOnce, TurnsIfAny}
use Rattle.pp_pool.proofs.Placing.{prepared, taken_free, put_back}
use Rattle.pp_pool.proofs.Turning.{turns, reworks_still}
use Rattle.pp_pool.proofs.Keeping.{keeps_worker, keeps_after}

-- ---- what comes of a request

module _ {S W : Type 0} (s : Site.Ghosts S) (k : Work.Ghosts W) (room : ℕ) (asked : Request) (rest : List (Option Guard))
    (site mid site' : S) (log : Events) (between : W) (turned : Turned) (new : Stage) (places' : List (Option Guard))
    (log' : Events) (left : W) where
  -- The site that is let go is the same.
  pub comes_of : (response : Response) (after : BookAnswer) (is_logged : Bool) (ends : Turned)
      → s.gives site asked response mid → Replies asked response → site' ≡ mid
      → log'.items ≡ log.items ++ logged_events is_logged response.event
      → (is_logged ≡ false → log.capacity ≤ length log.items)
      → Uses s k mid room between response.answer ends after left → stage_in after ≡ Some new
      → places' ≡ places_with rest (guard_in after) → turned ≡ (if is_logged then ends else Broken)
      → Comes s k room asked rest site log between turned new places' site' log' left
  comes_of response after is_logged ends given fits same grows full uses stages guards ended =
      record {
        response = response;
        after = after;
        is_logged = is_logged;
        ends = ends;
        given = subst (s.gives site asked response) (sym same) given;
        fits = fits;
        grows = grows;
        full = full;
        uses = subst (λ t. Uses s k t room between response.answer ends after left) (sym same) uses;
        stage = stages;
        guards = guards;
        ended = ended;
      }

  -- The same where the work is told of its plan then.
  pub comes_told : (was now : Option End) (told : W) (response : Response) (after : BookAnswer) (is_logged : Bool) (ends : Turned)
      → s.gives site asked response mid → Replies asked response → site' ≡ mid
      → log'.items ≡ log.items ++ logged_events is_logged response.event
      → (is_logged ≡ false → log.capacity ≤ length log.items)
      → Uses s k mid room between response.answer ends after left → stage_in after ≡ Some new
      → places' ≡ places_with rest (guard_in after) → turned ≡ (if is_logged then ends else Broken)
      → Tells k (page_called asked) left was response.event told now
      → ComesTold s k room asked rest site log was between turned new places' site' log' now told
  unfolding comes_of
  comes_told was now told response after is_logged ends given fits same grows full uses stages guards ended tells =
      record {
        used = left;
        comes = comes_of response after is_logged ends given fits same grows full uses stages guards ended;
        tells = tells;
      }

-- ---- the work is told nothing

-- By the event of a request that is quiet.
module _ {W : Type 0} (k : Work.Ghosts W) (called : Option ℕ) (work : W) (was : Option End) where
  quiet_step : (asked : Request) (did : Move) (out : Reply) → is_quiet asked ≡ true → IsMoveOf asked did
      → Tells k called work was (Some (Step did out)) work was
  quiet_step (request.Take chair) did out q of = absurd (false≢true q)
  quiet_step (request.Finish x) did out q of = absurd (false≢true q)
  quiet_step (request.End x) did out q of = absurd (false≢true q)
  quiet_step (request.Answer returned) did out q of = absurd (false≢true q)
  quiet_step (request.AnswerJoin returned) did out q of = absurd (false≢true q)
  quiet_step (request.Fix x page) did out q of = subst (λ m. TellsStep k called work was m out work was) (sym of) (refl, refl)
  quiet_step (request.Join x page) did out q of = subst (λ m. TellsStep k called work was m out work was) (sym of) (refl, refl)
  quiet_step (request.Unfix x g) did out q of = subst (λ m. TellsStep k called work was m out work was) (sym of) (refl, refl)
  quiet_step (request.Scatter x g) did out q of = subst (λ m. TellsStep k called work was m out work was) (sym of) (refl, refl)
  quiet_step (request.LatchShared x g) did out q of = subst (λ m. TellsStep k called work was m out work was) (sym of) (refl, refl)
  quiet_step (request.LatchExclusive x g) did out q of = subst (λ m. TellsStep k called work was m out work was) (sym of) (refl, refl)
  quiet_step (request.UnlatchShared x g) did out q of = subst (λ m. TellsStep k called work was m out work was) (sym of) (refl, refl)
  quiet_step (request.UnlatchExclusive x g) did out q of = subst (λ m. TellsStep k called work was m out work was) (sym of) (refl, refl)
  quiet_step (request.Choose x branch) did out q of = subst (λ m. TellsStep k called work was m out work was) (sym of) (refl, refl)
  quiet_step (request.GiveBack x g) did out q of = subst (λ m. TellsStep k called work was m out work was) (sym of) (refl, refl)
  quiet_step (request.Flush page) did out q of = subst (λ m. TellsStep k called work was m out work was) (sym of) (refl, refl)
  quiet_step (request.FlushNext number) did out q of = subst (λ m. TellsStep k called work was m out work was) (sym of.1) (refl, refl)

  quiet_event : (asked : Request) (event : Option Event) → is_quiet asked ≡ true → IfSome event (IsEventOf asked)
      → Tells k called work was event work was
  quiet_event asked None q of = (refl, refl)
  quiet_event asked (Some (Submit plan)) q of = absurd of
  quiet_event asked (Some (Step did out)) q of = quiet_step asked did out q of

-- ---- it is a turn of the worker

-- A turn that wants no device is one of a worker in its plan.
pub acts_in : {S W : Type 0} (s : Site.Ghosts S) (k : Work.Ghosts W) (layout : Geometry) (room : ℕ) (old : Scene S W)
    (over : List (Scene S W)) (turned : Turned) (new : Scene S W) → TurnsAtOnceOver s k layout room old over turned new
    → (x : Session) × (old.stage ≡ stage.In x)
acts_in s k layout room old [] turned new t = (t.session, t.acts)
acts_in s k layout room old (mid ∷ rest) turned new t = (t.0.session, t.0.acts)

module _ {S D W : Type 0} (s : Site.Ghosts S) (d : Device.Ghosts D) (k : Work.Ghosts W) (layout : Geometry) (room : ℕ)
    (w : Worker S D) (at : w.layout ≡ layout) (long : room_of w ≡ room) where
  -- The worker in such a scene.
  abbrev pub in_scene : Scene S W → Worker S D
  in_scene x = worker_with w x.stage x.places x.site w.device x.log (end_of w)

  module _ (old : Scene S W) (turned : Turned) (new : Scene S W) (t : TurnAtOnce s k layout room old turned new) where
    asks_in : Asks d.read_gives d.write_leaves d.calls d.failures layout old.stage w.device t.asked w.device
    asks_in =
        subst (λ (x : Stage). Asks d.read_gives d.write_leaves d.calls d.failures layout x w.device t.asked w.device)
        (sym t.acts) (t.step, refl)

    turn_in : TurnIs s d k (in_scene old) old.work turned (in_scene new) new.work
    turn_in =
        turns s d k (in_scene old) (in_scene new) old.work old.work t.between new.work new.work old.places t.asked
        t.comes.response t.comes.after t.rest new.site room t.comes.is_logged t.comes.ends turned
        (reworks_still k old.stage old.work old.places)
        (subst (λ l. Asks d.read_gives d.write_leaves d.calls d.failures l old.stage w.device t.asked w.device) (sym at) asks_in)
        (subst (λ l. Consults k l old.work t.asked t.between) (sym at) t.consults)
        t.prepares t.comes.given t.comes.fits refl t.comes.grows long t.comes.uses
        (quiet_event k (page_called t.asked) new.work (end_of w) t.asked t.comes.response.event t.quiet t.comes.fits.event)
        t.comes.stage t.comes.guards (λ _. t.has_room) t.comes.full t.comes.ended

    -- Its tokens stay the worker's, and an errand that comes into hand keeps its place.
    worker_in : stage_worker new.stage ≡ stage_worker old.stage
    worker_in =
        keeps_worker s k d.read_gives d.write_leaves d.calls d.failures layout old.stage new.stage w.device t.asked w.device
        t.comes.response new.site room t.between t.comes.ends t.comes.after new.work asks_in t.comes.fits t.comes.uses
        t.comes.stage

    keeps_in : keeps_place new.places new.stage ≡ true
    keeps_in =
        keeps_after s k new.site room t.between t.comes.ends new.work old.places t.rest t.asked t.prepares
        t.comes.response.answer t.comes.after new.stage new.places t.comes.fits.tokens t.comes.fits.slot t.comes.uses
        t.comes.stage t.comes.guards

  -- So are such turns one behind another.
  pub turns_in : (old : Scene S W) (over : List (Scene S W)) (turned : Turned) (new : Scene S W)
      → TurnsAtOnceOver s k layout room old over turned new
      → TurnsOver s d k (in_scene old) old.work (map (λ (x : Scene S W). (in_scene x, x.work)) over) turned (in_scene new)
      new.work
  turns_in old [] turned new t = turn_in old turned new t
  turns_in old (mid ∷ rest) turned new t = (
    turn_in old Done mid t.0,
    turns_in mid rest turned new t.1,
    record { layout = refl; page_bytes = refl; page = refl; events = t.0.memory },
  )

  pub workers_in : (old : Scene S W) (over : List (Scene S W)) (turned : Turned) (new : Scene S W)
      → TurnsAtOnceOver s k layout room old over turned new → stage_worker new.stage ≡ stage_worker old.stage
  workers_in old [] turned new t = worker_in old turned new t
  workers_in old (mid ∷ rest) turned new t = workers_in mid rest turned new t.1 ∙ worker_in old Done mid t.0

  pub places_in : (old : Scene S W) (over : List (Scene S W)) (turned : Turned) (new : Scene S W)
      → TurnsAtOnceOver s k layout room old over turned new → keeps_place new.places new.stage ≡ true
  places_in old [] turned new t = keeps_in old turned new t
  places_in old (mid ∷ rest) turned new t = places_in mid rest turned new t.1

-- Turns behind others are turns behind those.
module _ {S W : Type 0} (s : Site.Ghosts S) (k : Work.Ghosts W) (layout : Geometry) (room : ℕ) (mid : Scene S W)
    (turned : Turned) (new : Scene S W) (next : TurnsAtOnce s k layout room mid turned new) where
  join_over : (from : Scene S W) (over : List (Scene S W)) → TurnsAtOnceOver s k layout room from over Done mid
      → TurnsAtOnceOver s k layout room from (over ++ mid ∷ next.0) turned new
  join_over from [] t = (t, next.1)
  join_over from (x ∷ over) t = (t.0, join_over x over t.1)

  pub turns_join : (old : Scene S W) → TurnsAtOnce s k layout room old Done mid → TurnsAtOnce s k layout room old turned new
  turns_join old first = (first.0 ++ mid ∷ next.0, join_over old first.0 first.1)

-- The site that is let go is the same.
pub turn_let_go : {S D W : Type 0} (s : Site.Ghosts S) (d : Device.Ghosts D) (k : Work.Ghosts W) (old new : Worker S D)
    (before left : W) (turned : Turned) (site : S) → site ≡ new.site → TurnIs s d k old before turned new left
    → TurnIs s d k old before turned (record new { site = site }) left
turn_let_go s d k old new before left turned site same t =
    subst (λ x. TurnIs s d k old before turned (record new { site = x }) left) (sym same) t

-- After a turn the worker may forget how far the work reaches.
forgets : {S D W : Type 0} (s : Site.Ghosts S) (d : Device.Ghosts D) (k : Work.Ghosts W) (old new : Worker S D)
    (before left : W) (is_logged : Bool) (ends : Turned) (reach : Option ℕ) → Makes s d k is_logged old before ends new left
    → Makes s d k is_logged old before ends (record new { kept = record new.kept { reach = reach } }) left
forgets s d k old new before left is_logged ends reach m =
    let t = m.makes in
    record {
      lent = m.lent;
      reworked = m.reworked;
      reworks = m.reworks;
      makes = record {
        asked = t.asked;
        response = t.response;
        after = t.after;
        between = t.between;
        used = t.used;
        asks = t.asks;
        consults = t.consults;
        own = t.own;
        finds = t.finds;
        leaves = t.leaves;
        given = t.given;
        fits = t.fits;
        log = t.log;
        uses = t.uses;
        tells = t.tells;
        stage = t.stage;
        guards = t.guards;
      };
    }

pub turn_forgets : {S D W : Type 0} (s : Site.Ghosts S) (d : Device.Ghosts D) (k : Work.Ghosts W) (old new : Worker S D)
    (before left : W) (turned : Turned) (reach : Option ℕ) → TurnIs s d k old before turned new left
    → TurnIs s d k old before turned (record new { kept = record new.kept { reach = reach } }) left
turn_forgets s d k old new before left turned reach (inl (inl t)) =
    inl (inl (forgets s d k old new before left true turned reach t))
turn_forgets s d k old new before left turned reach (inl (inr t)) = inl (inr (record {
  errand = t.errand;
  full = t.full;
  ends = t.ends;
  makes = forgets s d k old new before left false t.ends reach t.makes;
  broken = t.broken;
}))
turn_forgets s d k old new before left turned reach (inr w) = inr (record {
  may = w.may;
  site = w.site;
  device = w.device;
  hand = w.hand;
  log = w.log;
  end = w.end;
  work = w.work;
})

-- ---- a reading

both : (a b : Bool) → (a && b) ≡ true → (a ≡ true) × (b ≡ true)
both true true h = (refl, refl)
both true false h = absurd (false≢true h)
both false b h = absurd (false≢true h)

none_there : (o : Option Guard) → is_none o ≡ true → o ≡ None
none_there None h = refl
none_there (Some g) h = absurd (false≢true h)

-- A place that is free is within the places, and what was put there and taken out leaves them as they were.
module _ (places : List (Option Guard)) (n : ℕ) (free : is_free places n ≡ true) where
  pub free_within : n < length places
  free_within = ltb-true n (length places) (both (ltb n (length places)) (is_none (placed places n)) free).0

  pub emptied : slice_set places n None ≡ places
  emptied =
      let none = none_there (placed places n) (both (ltb n (length places)) (is_none (placed places n)) free).1 in
      ap (λ o. slice_set places n o) (sym none) ∙ set-get_or places n None

-- The guard in a place is changed for another of the same slot.
module _ (places : List (Option Guard)) (g h : Guard) (same : slot_by h ≡ slot_by g) (lt : slot_by g < length places) where
  abbrev with_first : List (Option Guard)
  with_first = slice_set places (slot_by g) (Some g)

  first_there : placed with_first (slot_by g) ≡ Some g
  first_there = get_or-set_same places (slot_by g) (Some g) None lt

  changed_place : slice_set (slice_set with_first (slot_by g) None) (slot_by h) (Some h) ≡ slice_set places (slot_by h) (Some h)
  changed_place =
      ap (λ n. slice_set (slice_set with_first (slot_by g) None) n (Some h)) same
      ∙ set-set with_first (slot_by g) None (Some h) ∙ set-set places (slot_by g) (Some g) (Some h)
      ∙ ap (λ n. slice_set places n (Some h)) (sym same)

module _ {S W : Type 0} (s : Site.Ghosts S) (k : Work.Ghosts W) (layout : Geometry) (room : ℕ) where
  -- What the plan asks is made with a guard of the hand, and done, and its event is logged.
  module _ (x : Session) (asked : Request) (response : Response) (g : Guard) (places new_places : List (Option Guard))
      (new : Stage) (site site' : S) (log log' : Events) (work left : W) (ends : Turned) where
    guard_turn : placed places (slot_by g) ≡ Some g → guard_asked asked ≡ Some g → slot_for asked ≡ Some (slot_by g)
        → IsWorkers asked → is_quiet asked ≡ true → IsStep layout x asked
        → Consults k layout work asked work
        → length log.items < log.capacity → log'.capacity ≡ log.capacity → s.gives site asked response site'
        → Replies asked response
        → log'.items ≡ log.items ++ events_in response.event
        → Uses s k site' room work response.answer ends response.answer left → stage_in response.answer ≡ Some new
        → new_places ≡ places_with (slice_set places (slot_by g) None) (guard_in response.answer)
        → TurnAtOnce s k layout room
        (record { stage = stage.In x; places = places; site = site; log = log; work = work }) ends
        (record { stage = new; places = new_places; site = site'; log = log'; work = left })
    guard_turn there guard slot workers quiet step consults has_room memory given fits grows uses stages guards = record {
      asked = asked;
      rest = slice_set places (slot_by g) None;
      between = work;
      session = x;
      acts = refl;
      has_room = has_room;
      memory = memory;
      step = step;
      consults = consults;
      prepares = prepared places (slice_set places (slot_by g) None) (slot_by g) g asked there refl refl guard slot workers layout x step;
      quiet = quiet;
      comes = record {
        response = response;
        after = response.answer;
        is_logged = true;
        ends = ends;
        given = given;
        fits = fits;
        grows = grows;
        full = λ no. absurd (false≢true (sym no));
        uses = uses;
        stage = stages;
        guards = guards;
        ended = refl;
      };
    }

  -- What comes of a request that the plan asks is a turn.
  one_turn : (x : Session) (page : ℕ) (places new_places : List (Option Guard)) (site site' : S) (log log' : Events)
      (before work left : W) (turned : Turned) (new : Stage) → IsStep layout x (request.Fix x page)
      → Consults k layout before (request.Fix x page) work → Prepares places (request.Fix x page) places
      → length log.items < log.capacity → log'.capacity ≡ log.capacity
      → Comes s k room (request.Fix x page) places site log work turned new new_places site' log' left
      → TurnAtOnce s k layout room
      (record { stage = stage.In x; places = places; site = site; log = log; work = before }) turned
      (record { stage = new; places = new_places; site = site'; log = log'; work = left })
  one_turn x page places new_places site site' log log' before work left turned new step consults prepares has_room memory comes =
      record {
        asked = request.Fix x page;
        rest = places;
        between = work;
        session = x;
        acts = refl;
        has_room = has_room;
        memory = memory;
        step = step;
        consults = consults;
        prepares = prepares;
        quiet = refl;
        comes = comes;
      }

  -- One that the site leaves to a request is of the session that came back.
  pub asked_turn : (x y : Session) → y ≡ x → (page : ℕ) (places new_places : List (Option Guard)) (site mid site' : S)
      → mid ≡ site → (log log' : Events) (before work left : W) (turned : Turned) (new : Stage)
      → IsStep layout x (request.Fix x page) → Consults k layout before (request.Fix x page) work
      → Prepares places (request.Fix x page) places → length log.items < log.capacity → log'.capacity ≡ log.capacity
      → Comes s k room (request.Fix y page) places mid log work turned new new_places site' log' left
      → TurnsAtOnce s k layout room
      (record { stage = stage.In x; places = places; site = site; log = log; work = before }) turned
      (record { stage = new; places = new_places; site = site'; log = log'; work = left })
  asked_turn x y back page places new_places site mid site' same log log' before work left turned new step consults prepares
      has_room memory comes = (
        [],
        one_turn x page places new_places site site' log log' before work left turned new step consults prepares has_room memory
            (subst (λ t. Comes s k room (request.Fix x page) places t log work turned new new_places site' log' left) same
            (subst (λ z. Comes s k room (request.Fix z page) places mid log work turned new new_places site' log' left) back
            comes)),
      )

  -- A reading ends: two turns.
  module _ (y : Session) (h : ReadGuard) (places : List (Option Guard)) (free : is_free places h.slot ≡ true) (site site' : S)
      (log log' : Events) (work : W) (w : ℕ) (of : y.worker ≡ w) (z : Session) (mark : ℕ)
      (e : EndsReadBy s.gives site y h site' z mark) (asks : y.ask ≡ ask.Unlatch h.slot)
      (has_room : length log.items + 2 ≤ log.capacity)
      (grows : log'.items ≡ log.items ++ end_events w mark) (memory : log'.capacity ≡ log.capacity) where
    abbrev read : Guard
    read = guard.Read h

    abbrev pin_left : Guard
    pin_left = guard.Pin e.guard

    within_read : h.slot < length places
    within_read = free_within places h.slot free

    free_left : is_free places e.guard.slot ≡ true
    free_left = ap (is_free places) e.unlatch_fits.tokens.1 ∙ free

    within_left : e.guard.slot < length places
    within_left = free_within places e.guard.slot free_left

    abbrev log_unlatched : Events
    log_unlatched =
        record { items = log.items ++ Step (move.Unlatch y.worker) (reply.Unlatched mark) ∷ []; capacity = log.capacity }

    abbrev pub reading : Scene S W
    reading = record {
      stage = stage.In y;
      places = slice_set places h.slot (Some read);
      site = site;
      log = log;
      work = work;
    }

    abbrev unlatched_then : Scene S W
    unlatched_then = record {
      stage = stage.In e.session;
      places = slice_set places e.guard.slot (Some pin_left);
      site = e.between;
      log = log_unlatched;
      work = work;
    }

    abbrev pub ended : Scene S W
    ended = record { stage = stage.In z; places = places; site = site'; log = log'; work = work }

    unlatch_turn : TurnAtOnce s k layout room reading Done unlatched_then
    unlatch_turn =
        guard_turn y (request.UnlatchShared y h) (unlatched y e.session e.guard mark) read
        (slice_set places h.slot (Some read)) (slice_set places e.guard.slot (Some pin_left)) (stage.In e.session) site e.between
        log log_unlatched work work Done
        (first_there places read pin_left e.unlatch_fits.tokens.1 within_read) refl refl tt refl (refl, asks) refl
        (omega (arith, has_room)) refl e.unlatches e.unlatch_fits refl (refl, refl, refl) refl
        (sym (changed_place places read pin_left e.unlatch_fits.tokens.1 within_read))

    log_unfixed : log'.items ≡ log_unlatched.items ++ Step (move.Unfix e.session.worker) reply.Did ∷ []
    log_unfixed =
        grows ∙ ap (λ v. log.items ++ end_events v mark) (sym of)
        ∙ sym (append_assoc log.items (Step (move.Unlatch y.worker) (reply.Unlatched mark) ∷ [])
        (Step (move.Unfix y.worker) reply.Did ∷ []))
        ∙ ap (λ v. log_unlatched.items ++ Step (move.Unfix v) reply.Did ∷ []) (sym e.unlatch_fits.tokens.0)

    unfix_turn : TurnAtOnce s k layout room unlatched_then Done ended
    unfix_turn =
        guard_turn e.session (request.Unfix e.session e.guard) (unfixed e.session z) pin_left
        (slice_set places e.guard.slot (Some pin_left)) places (stage.In z) e.between site' log_unlatched log' work work Done
        (first_there places pin_left pin_left refl within_left) refl refl tt refl (refl, e.asks) refl
        (omega (arith, has_room, length-append log.items (Step (move.Unlatch y.worker) (reply.Unlatched mark) ∷ []))) memory
        e.unfixes e.unfix_fits log_unfixed (refl, refl, refl) refl
        (sym (set-set places e.guard.slot (Some pin_left) None ∙ emptied places e.guard.slot free_left))

    pub end_turns : TurnsAtOnce s k layout room reading Done ended
    end_turns = (unlatched_then ∷ [], (unlatch_turn, unfix_turn))

  -- A reading begins: two turns.
  module _ (x : Session) (page : ℕ) (places : List (Option Guard)) (site mid site' : S) (log log' : Events)
      (before work : W) (step : IsStep layout x (request.Fix x page))
      (consults : Consults k layout before (request.Fix x page) work) (prepares : Prepares places (request.Fix x page) places)
      (y : Session) (h : ReadGuard) (frame : ℕ) (r : ReadsBy s.gives site x page mid y h frame) (same : site' ≡ mid)
      (has_room : length log.items + 2 ≤ log.capacity)
      (grows : log'.items ≡ log.items ++ read_events x.worker page frame h.mark) (memory : log'.capacity ≡ log.capacity) where
    abbrev pin : Guard
    pin = guard.Pin r.guard

    free_pin : is_free places r.guard.slot ≡ true
    free_pin = ap (is_free places) r.fix_fits.tokens.3 ∙ prepares.finds

    within_pin : r.guard.slot < length places
    within_pin = free_within places r.guard.slot free_pin

    pub free_read : is_free places h.slot ≡ true
    free_read = ap (is_free places) r.latch_fits.tokens.1 ∙ free_pin

    pub worker_read : y.worker ≡ x.worker
    worker_read = r.latch_fits.tokens.0 ∙ r.fix_fits.tokens.0

    abbrev log_fixed : Events
    log_fixed =
        record { items = log.items ++ Step (move.Fix x.worker page) (reply.Hit frame h.mark) ∷ []; capacity = log.capacity }

    abbrev pub begun : Scene S W
    begun = record { stage = stage.In x; places = places; site = site; log = log; work = before }

    abbrev fixed : Scene S W
    fixed = record {
      stage = stage.In r.session;
      places = slice_set places r.guard.slot (Some pin);
      site = r.between;
      log = log_fixed;
      work = work;
    }

    abbrev pub latched_then : W → Scene S W
    latched_then left = record {
      stage = stage.In y;
      places = slice_set places h.slot (Some (guard.Read h));
      site = site';
      log = log';
      work = left;
    }

    fix_turn : TurnAtOnce s k layout room begun Done fixed
    fix_turn =
        one_turn x page places (slice_set places r.guard.slot (Some pin)) site r.between log log_fixed before work work Done
        (stage.In r.session) step consults prepares (omega (arith, has_room)) refl (record {
          response = hit x page r.session r.guard frame h.mark;
          after = answer.Pinned r.session r.guard;
          is_logged = true;
          ends = Done;
          given = r.fixes;
          fits = r.fix_fits;
          grows = refl;
          full = λ no. absurd (false≢true (sym no));
          uses = (refl, refl, refl);
          stage = refl;
          guards = refl;
          ended = refl;
        })

    log_latched : log'.items ≡ log_fixed.items ++ Step (move.Latch r.session.worker) (reply.Latched h.mark) ∷ []
    log_latched =
        grows
        ∙ sym (append_assoc log.items (Step (move.Fix x.worker page) (reply.Hit frame h.mark) ∷ [])
        (Step (move.Latch x.worker) (reply.Latched h.mark) ∷ []))
        ∙ ap (λ w. log_fixed.items ++ Step (move.Latch w) (reply.Latched h.mark) ∷ []) (sym r.fix_fits.tokens.0)

    latch_turn : (turned : Turned) (left : W) → LooksAt s k mid room h work turned left
        → TurnAtOnce s k layout room fixed turned (latched_then left)
    latch_turn turned left looks =
        guard_turn r.session (request.LatchShared r.session r.guard) (latched r.session y h) pin
        (slice_set places r.guard.slot (Some pin)) (slice_set places h.slot (Some (guard.Read h))) (stage.In y) r.between site'
        log_fixed log' work left turned
        (first_there places pin (guard.Read h) r.latch_fits.tokens.1 within_pin) refl refl tt refl (refl, r.asks) refl
        (omega (arith, has_room, length-append log.items (Step (move.Fix x.worker page) (reply.Hit frame h.mark) ∷ []))) memory
        (subst (s.gives r.between (request.LatchShared r.session r.guard) (latched r.session y h)) (sym same) r.latches)
        r.latch_fits log_latched
        (subst (λ t. LooksAt s k t room h work turned left) (sym same) looks, refl) refl
        (sym (changed_place places pin (guard.Read h) r.latch_fits.tokens.1 within_pin))

    pub two_turns : (turned : Turned) (left : W) → LooksAt s k mid room h work turned left → (after : List (Option Guard))
        → after ≡ slice_set places h.slot (Some (guard.Read h))
        → TurnsAtOnce s k layout room begun turned (record (latched_then left) { places = after })
    two_turns turned left looks after are =
        subst (λ ps. TurnsAtOnce s k layout room begun turned (record (latched_then left) { places = ps })) (sym are)
        (fixed ∷ [], (fix_turn, latch_turn turned left looks))

    -- And it ends: two turns more.
    pub four_turns : (left : W) → LooksAt s k mid room h work Done left → (w : ℕ) → w ≡ x.worker → (next : S) (later : Events)
        (z : Session) (mark : ℕ) → EndsReadBy s.gives site' y h next z mark → y.ask ≡ ask.Unlatch h.slot
        → length log'.items + 2 ≤ log'.capacity → later.items ≡ log'.items ++ end_events w mark
        → later.capacity ≡ log'.capacity
        → TurnsAtOnce s k layout room begun Done
        (record { stage = stage.In z; places = places; site = next; log = later; work = left })
    four_turns left looks w of next later z mark e asks room_left grows_more memory_left =
        turns_join s k layout room (latched_then left) Done
        (record { stage = stage.In z; places = places; site = next; log = later; work = left })
        (end_turns y h places free_read site' next log' later left w (worker_read ∙ sym of) z mark e asks room_left grows_more
        memory_left)
        begun (two_turns Done left looks (slice_set places h.slot (Some (guard.Read h))) refl)

  -- The guard of a reading is taken out of the hand, and the reading ends.
  pub held_turns : (y : Session) (h : ReadGuard) (places mid : List (Option Guard)) (n : ℕ)
      → placed places n ≡ Some (guard.Read h) → h.slot ≡ n → mid ≡ slice_set places n None
      → (site site' : S) (log log' : Events) (work : W) (w : ℕ) → y.worker ≡ w → (z : Session) (mark : ℕ)
      → EndsReadBy s.gives site y h site' z mark → y.ask ≡ ask.Unlatch h.slot → length log.items + 2 ≤ log.capacity
      → log'.items ≡ log.items ++ end_events w mark → log'.capacity ≡ log.capacity
      → TurnsAtOnce s k layout room
      (record { stage = stage.In y; places = places; site = site; log = log; work = work }) Done
      (record { stage = stage.In z; places = mid; site = site'; log = log'; work = work })
  held_turns y h places mid n there slot taken site site' log log' work w of z mark e asks has_room grows memory =
      let read = guard.Read h in
      let at : mid ≡ slice_set places h.slot None = taken ∙ ap (λ m. slice_set places m None) (sym slot) in
      let there_is : placed places h.slot ≡ Some read = ap (placed places) slot ∙ there in
      let free : is_free mid h.slot ≡ true = ap (λ ps. is_free ps h.slot) at ∙ taken_free places h.slot read there_is in
      let back : slice_set mid h.slot (Some read) ≡ places
      = ap (λ ps. slice_set ps h.slot (Some read)) at ∙ put_back places h.slot read there_is in
      subst (λ ps. TurnsAtOnce s k layout room
      (record { stage = stage.In y; places = ps; site = site; log = log; work = work }) Done
      (record { stage = stage.In z; places = mid; site = site'; log = log'; work = work })) back
      (end_turns y h mid free site site' log log' work w of z mark e asks has_room grows memory)

  -- A guard is taken out of the hand, and the request is made with it that the plan asks.
  pub held_request : (x : Session) (asked : Request) (g : Guard) (places mid new_places : List (Option Guard)) (n : ℕ)
      → placed places n ≡ Some g → slot_by g ≡ n → mid ≡ slice_set places n None → guard_asked asked ≡ Some g
      → slot_for asked ≡ Some (slot_by g) → IsWorkers asked → is_quiet asked ≡ true → IsStep layout x asked
      → (site site' : S) (log log' : Events) (work left : W) → Consults k layout work asked work
      → length log.items < log.capacity → log'.capacity ≡ log.capacity → (turned : Turned) (new : Stage)
      → Comes s k room asked mid site log work turned new new_places site' log' left
      → TurnsAtOnce s k layout room
      (record { stage = stage.In x; places = places; site = site; log = log; work = work }) turned
      (record { stage = new; places = new_places; site = site'; log = log'; work = left })
  held_request x asked g places mid new_places n there slot taken guard by workers quiet step site site' log log' work left
      consults has_room memory turned new comes = (
        [],
        record {
          asked = asked;
          rest = mid;
          between = work;
          session = x;
          acts = refl;
          has_room = has_room;
          memory = memory;
          step = step;
          consults = consults;
          prepares = prepared places mid n g asked there slot taken guard by workers layout x step;
          quiet = quiet;
          comes = comes;
        },
      )

-- Two scenes in which all is the same.
pub same_scene : {S W : Type 0} (x y : Scene S W) → x.stage ≡ y.stage → x.places ≡ y.places → x.site ≡ y.site → x.log ≡ y.log
    → x.work ≡ y.work → x ≡ y
same_scene x y stages places sites logs works =
    ap (λ v. record x { stage = v }) stages ∙ ap (λ v. record x { stage = y.stage; places = v }) places
    ∙ ap (λ v. record x { stage = y.stage; places = y.places; site = v }) sites
    ∙ ap (λ v. record y { log = v; work = x.work }) logs ∙ ap (λ v. record y { work = v }) works

-- ---- turns behind turns that were made

module _ {S W : Type 0} (s : Site.Ghosts S) (k : Work.Ghosts W) (layout : Geometry) (room : ℕ) (old mid : Scene S W) where
  turns_after : (so_far : Option Turned) → TurnsIfAny s k layout room old so_far mid → IfSome so_far (λ t. t ≡ Done)
      → (turned : Turned) (new : Scene S W) → TurnsAtOnce s k layout room mid turned new
      → TurnsAtOnce s k layout room old turned new
  turns_after None same done turned new next = subst (λ x. TurnsAtOnce s k layout room x turned new) same next
  turns_after (Some t) first done turned new next =
      turns_join s k layout room mid turned new next old (subst (λ u. TurnsAtOnce s k layout room old u mid) done first)

  module _ (so_far : Option Turned) (first : TurnsIfAny s k layout room old so_far mid) (long : ℕ) (same : long ≡ room)
      (ended : Option Turned) (new : Scene S W) (next : TurnsIfAny s k layout long mid ended new) where
    -- Some come behind them, and the last ends so.
    turns_more : IfSome so_far (λ t. t ≡ Done) → (turned : Turned) → ended ≡ Some turned
        → TurnsAtOnce s k layout room old turned new
    turns_more done turned is =
        turns_after so_far first done turned new
        (subst (λ n. TurnsAtOnce s k layout n mid turned new) same
        (subst (λ o. TurnsIfAny s k layout long mid o new) is next))

    pub turns_on : IfSome so_far (λ t. t ≡ Done) → (turned : Turned) → ended ≡ Some turned
        → TurnsIfAny s k layout room old ended new
    turns_on done turned is =
        subst (λ o. TurnsIfAny s k layout room old o new) (sym is) (turns_more done turned is)
