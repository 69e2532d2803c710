-- What comes of a request, and what a turn does that wants no device, where that is possible at once.
use Rattle.std.specs.Prelude.{◌≡◌, ◌<◌, ◌≤◌, ◌++◌, if◌then◌else◌, ℕ, Bool, true, false, List, [], ◌∷◌, length, Option, None, Some}
use Rattle.pp_settings.specs.Layout.{Geometry}
use Rattle.pp_journal.specs.Events.{Events}
use Rattle.pp_vault.specs.declared.tokens.Session.{Session}
use Rattle.pp_vault.specs.declared.guards.Guard.{Guard}
use Rattle.pp_vault.specs.declared.stage.Stage.{Stage}
use Rattle.pp_vault.specs.declared.stage.Stage.TheVariants as stage
use Rattle.pp_pool.specs.declared.request.Request.{Request}
use Rattle.pp_pool.specs.declared.request.Request.TheVariants as request
use Rattle.pp_pool.specs.declared.response.BookAnswer.{BookAnswer}
use Rattle.pp_pool.specs.declared.response.Response.{Response}
use Rattle.pp_pool.specs.declared.turned.Turned.{Turned}
use Rattle.pp_pool.specs.declared.turned.Turned.TheVariants.{Done, Broken}
use Rattle.pp_pool.specs.declared.site.Site as Site
use Rattle.pp_pool.specs.declared.work.Work as Work
use Rattle.pp_pool.specs.Replies.{Replies}
use Rattle.pp_pool.specs.declared.work.End.{End}
use Rattle.pp_pool.specs.Turns.{IsStep, Consults, Prepares, Uses, Tells, page_called, logged_events, stage_in, guard_in, places_with}

-- What comes of a request that is made: the site gives a response that fits; the log grows by its event, if that is logged; the
-- work does what it may; and what comes is in hand, with these guards beside.
pub record Comes {S W : Type 0} (s : Site.Ghosts S) (k : Work.Ghosts W) (room : ℕ) (asked : Request)
    (rest : List (Option Guard)) (site : S) (log : Events) (between : W) (turned : Turned) (new : Stage)
    (places' : List (Option Guard)) (site' : S) (log' : Events) (left : W) : Type 0 where
  pub response : Response
  pub after : BookAnswer
  pub is_logged : Bool
  pub ends : Turned
  pub given : s.gives site asked response site'
  pub fits : Replies asked response
  pub grows : log'.items ≡ log.items ++ logged_events is_logged response.event
  pub full : is_logged ≡ false → log.capacity ≤ length log.items
  pub uses : Uses s k site' room between response.answer ends after left
  pub stage : stage_in after ≡ Some new
  pub guards : places' ≡ places_with rest (guard_in after)
  pub ended : turned ≡ (if is_logged then ends else Broken)

-- The same, and then the work is told of its plan by the response's event.
pub record ComesTold {S W : Type 0} (s : Site.Ghosts S) (k : Work.Ghosts W) (room : ℕ) (asked : Request)
    (rest : List (Option Guard)) (site : S) (log : Events) (was : Option End) (between : W) (turned : Turned) (new : Stage)
    (places' : List (Option Guard)) (site' : S) (log' : Events) (now : Option End) (left : W) : Type 0 where
  pub used : W
  pub comes : Comes s k room asked rest site log between turned new places' site' log' used
  pub tells : Tells k (page_called asked) used was comes.response.event left now

-- What a turn changes that wants no device: the stage, the guards in their places, the site, the log and the work.
pub record Scene (S W : Type 0) : Type 0 where
  pub stage : Stage
  pub places : List (Option Guard)
  pub site : S
  pub log : Events
  pub work : W

-- Whether the request neither takes a plan nor ends one, nor tells what came of a device: the work is told nothing of its plan by it.
abbrev pub is_quiet : Request → Bool
is_quiet (request.Take chair) = false
is_quiet (request.Finish x) = false
is_quiet (request.End x) = false
is_quiet (request.Answer returned) = false
is_quiet (request.AnswerJoin returned) = false
is_quiet _ = true

-- The worker acts in its plan, and makes the request that the plan asks, which wants no device, and by which the work is told nothing of
-- its plan. The work is asked for what the
-- request wants. The log has room for its event, and the memory that it had.
pub record TurnAtOnce {S W : Type 0} (s : Site.Ghosts S) (k : Work.Ghosts W) (layout : Geometry) (room : ℕ) (old : Scene S W)
    (turned : Turned) (new : Scene S W) : Type 0 where
  pub asked : Request
  pub rest : List (Option Guard)
  pub between : W
  pub session : Session
  pub acts : old.stage ≡ stage.In session
  pub has_room : length old.log.items < old.log.capacity
  pub memory : new.log.capacity ≡ old.log.capacity
  pub step : IsStep layout session asked
  pub consults : Consults k layout old.work asked between
  pub prepares : Prepares old.places asked rest
  pub quiet : is_quiet asked ≡ true
  pub comes : Comes s k room asked rest old.site old.log between turned new.stage new.places new.site new.log new.work

-- Such turns follow one another, and lead over these scenes: each but the last is done, and the last ends so.
abbrev pub TurnsAtOnceOver : {S W : Type 0} → Site.Ghosts S → Work.Ghosts W → Geometry → (room : ℕ) → (old : Scene S W)
    → List (Scene S W) → Turned → (new : Scene S W) → Type 0
TurnsAtOnceOver s k layout room old [] turned new = TurnAtOnce s k layout room old turned new
TurnsAtOnceOver s k layout room old (mid ∷ rest) turned new =
    TurnAtOnce s k layout room old Done mid × TurnsAtOnceOver s k layout room mid rest turned new

abbrev pub TurnsAtOnce : {S W : Type 0} → Site.Ghosts S → Work.Ghosts W → Geometry → (room : ℕ) → (old : Scene S W) → Turned
    → (new : Scene S W) → Type 0
TurnsAtOnce s k layout room old turned new = (over : List (Scene _ _)) × TurnsAtOnceOver s k layout room old over turned new

-- Such turns, that end so; or none, and nothing has changed.
abbrev pub TurnsIfAny : {S W : Type 0} → Site.Ghosts S → Work.Ghosts W → Geometry → (room : ℕ) → (old : Scene S W)
    → Option Turned → (new : Scene S W) → Type 0
TurnsIfAny s k layout room old None new = new ≡ old
TurnsIfAny s k layout room old (Some turned) new = TurnsAtOnce s k layout room old turned new
