-- Turns that were made one behind another are turns of the worker.
use Rattle.std.proofs.Common.{◌≡◌, ◌∙◌, ℕ, true, List, [], ◌∷◌, length, refl, sym, ap, subst, arith}
use Rattle.std.specs.Prelude.{map, if◌then◌else◌, ◌==◌}
use Rattle.std.proofs.lemmas.Bool.{false≢true}
use Rattle.pp_settings.specs.Layout.{Geometry}
use Rattle.pp_journal.specs.Events.{Events}
use Rattle.pp_device.specs.declared.device.Device as Device
use Rattle.pp_vault.specs.declared.tokens.Session.{Session}
use Rattle.pp_vault.specs.declared.stage.Stage.TheVariants as stage
use Rattle.pp_vault.specs.declared.stage.Hand.{Hand}
use Rattle.pp_vault.specs.Stages.{is_chair, stage_worker}
use Rattle.pp_pool.specs.declared.turned.Turned.{Turned}
use Rattle.pp_pool.specs.declared.turned.Turned.TheVariants.{Done}
use Rattle.pp_pool.specs.declared.worker.Worker.{Worker}
use Rattle.pp_pool.specs.declared.site.Site as Site
use Rattle.pp_pool.specs.declared.work.Work as Work
use Rattle.pp_pool.specs.Turns.{TurnIs, TurnsOver, TurnsBehind, KeepsRest, MakesRoom, has_errand, KeepsPlace, room_of}
use Rattle.pp_pool.specs.Turns.{end_of}
use Rattle.pp_pool.specs.ShortTurns.{Scene, TurnsAtOnce}
use Rattle.pp_pool.proofs.Turning.{turn_from}
use Rattle.pp_pool.proofs.ShortTurns.{acts_in, in_scene, turns_in, workers_in, places_in}

-- The scene in which a worker stands with its work.
abbrev pub scene_of : {S D W : Type 0} → Worker S D → W → Scene S W
scene_of w work =
    record { stage = w.hand.stage; places = w.hand.guards; site = w.site; log = w.log; work = work }

-- The tokens that are in hand in a scene.
abbrev hand_of : {S W : Type 0} → Scene S W → Hand
hand_of x = record { stage = x.stage; guards = x.places }

-- ---- turns that were made

module _ {S D W : Type 0} (s : Site.Ghosts S) (d : Device.Ghosts D) (k : Work.Ghosts W) (layout : Geometry) (room : ℕ)
    (old new : Worker S D) (before left : W) (turned : Turned)
    (t : TurnsAtOnce s k layout room (scene_of old before) turned (scene_of new left)) where
  acts : (x : Session) × (old.hand.stage ≡ stage.In x)
  acts = acts_in s k layout room (scene_of old before) t.0 turned (scene_of new left) t.1

  -- The worker as it was, with what the turns left of the rest of it.
  abbrev from : new.layout ≡ layout → room_of new ≡ room → Worker S D
  from at long = in_scene s d k layout room new at long (scene_of old before)

  module _ (at : new.layout ≡ layout) (long : room_of new ≡ room) (device : new.device ≡ old.device)
      (same : new.layout ≡ old.layout) (bytes : new.page_bytes ≡ old.page_bytes) (page : room_of new ≡ room_of old)
      (end : end_of new ≡ end_of old) where
    turn_behind : (next : Worker S D) (ends : Turned) (work : W) → TurnIs s d k (from at long) before ends next work
        → TurnIs s d k old before ends next work
    turn_behind next ends work t =
        turn_from s d k old (from at long) next before work ends refl device refl refl same end refl (omega arith) t

    rest_behind : (next : Worker S D) → KeepsRest (from at long) next → KeepsRest old next
    rest_behind next h = record {
      layout = h.layout ∙ same;
      page_bytes = h.page_bytes ∙ bytes;
      page = h.page ∙ page;
      events = h.events;
    }

    over_from : (over : List (Worker S D × W)) → TurnsOver s d k (from at long) before over turned new left
        → TurnsOver s d k old before over turned new left
    over_from [] one = turn_behind new turned left one
    over_from (mid ∷ rest) more =
        (turn_behind mid.0 Done mid.1 more.0, more.1, rest_behind mid.0 more.2)

    pub behind : TurnsBehind s d k old before turned new left
    behind =
        let over : List (Worker S D × W)
        = map (λ (x : Scene S W). (in_scene s d k layout room new at long x, x.work)) t.0 in (
          over,
          over_from over (turns_in s d k layout room new at long (scene_of old before) t.0 turned (scene_of new left) t.1),
        )

  pub worker_behind : new.layout ≡ layout → room_of new ≡ room → stage_worker new.hand.stage ≡ stage_worker old.hand.stage
  worker_behind at long = workers_in s d k layout room new at long (scene_of old before) t.0 turned (scene_of new left) t.1

  pub keeps_behind : new.layout ≡ layout → room_of new ≡ room → KeepsPlace new.hand
  keeps_behind at long = places_in s d k layout room new at long (scene_of old before) t.0 turned (scene_of new left) t.1

  -- No errand was in hand, and no chair.
  pub no_errand : has_errand old.hand.stage ≡ true → ⊥
  no_errand has = false≢true (sym (ap has_errand acts.1) ∙ has)

  no_chair : is_chair old.hand.stage ≡ true → ⊥
  no_chair has = false≢true (sym (ap is_chair acts.1) ∙ has)

  pub room_behind : new.log.capacity ≡ old.log.capacity → room_of new ≡ room_of old → MakesRoom s old turned new
  room_behind memory long = record {
    log = λ chair _. absurd (no_chair chair);
    page = λ chair _. absurd (no_chair chair);
    log_kept = λ _ _. memory;
    log_grown = omega (arith, memory);
    page_kept = λ _. long;
  }

-- ---- where none was made before

module _ {S D W : Type 0} (s : Site.Ghosts S) (d : Device.Ghosts D) (k : Work.Ghosts W) (old mid new : Worker S D)
    (before between left : W) (turned : Turned) (same : scene_of mid between ≡ scene_of old before)
    (device : mid.device ≡ old.device) (layout : mid.layout ≡ old.layout)
    (end : end_of mid ≡ end_of old) where
  pub hand_same : mid.hand ≡ old.hand
  hand_same = ap (λ (x : Scene S W). hand_of x) same

  log_same : mid.log ≡ old.log
  log_same = ap (λ (x : Scene S W). x.log) same

  pub turn_still : TurnIs s d k mid between turned new left → TurnIs s d k old before turned new left
  turn_still t =
      let capacity : mid.log.capacity ≡ old.log.capacity = ap (λ (e : Events). e.capacity) log_same in
      turn_from s d k old mid new before left turned (ap (λ (x : Scene S W). x.site) same) device hand_same
      (ap (λ (e : Events). e.items) log_same) layout end (ap (λ (e : Events). length e.items) log_same)
      (omega (arith, capacity))
      (subst (λ w. TurnIs s d k mid w turned new left) (ap (λ (x : Scene S W). x.work) same) t)

  pub room_still : mid.page_bytes ≡ old.page_bytes → room_of mid ≡ room_of old → MakesRoom s mid turned new
      → MakesRoom s old turned new
  room_still bytes long h =
      let capacity : mid.log.capacity ≡ old.log.capacity = ap (λ (e : Events). e.capacity) log_same in
      let events : length mid.log.items ≡ length old.log.items = ap (λ (e : Events). length e.items) log_same in
      let chair : is_chair mid.hand.stage ≡ is_chair old.hand.stage = ap (λ (x : Hand). is_chair x.stage) hand_same in
      record {
        log = λ is not.
            let m = h.log (chair ∙ is) not in let room = m.2 in
            (m.0, subst (λ x. s.tells x m.0) (ap (λ (x : Scene S W). x.site) same) m.1, omega (arith, events, room));
        page = λ is not.
            h.page (chair ∙ is) not ∙ ap (λ n. if n == 0 then mid.page_bytes else n) long
            ∙ ap (λ b. if room_of old == 0 then b else room_of old) bytes;
        log_kept = λ is lt. h.log_kept (chair ∙ is) (omega (arith, events, capacity, lt)) ∙ capacity;
        log_grown = let grown = h.log_grown in omega (arith, capacity, grown);
        page_kept = λ is. h.page_kept (chair ∙ is) ∙ long;
      }
