-- What the site of one step gives.
use Rattle.std.specs.Prelude.{◌≡◌, ℕ, ◌||◌, Bool, true, false, Option, None, Some, List}
use Rattle.pp_model.specs.declared.refusals.Delay.TheVariants.{NothingWaiting}
use Rattle.pp_vault.specs.declared.guards.ReadGuard.{ReadGuard}
use Rattle.pp_vault.specs.declared.refusal.Refusal.TheVariants.{NotNow}
use Rattle.pp_pool.specs.declared.request.Request.{Request}
use Rattle.pp_pool.specs.declared.request.Request.TheVariants as request
use Rattle.pp_pool.specs.declared.response.Response.{Response}
use Rattle.pp_pool.specs.declared.response.BookAnswer.TheVariants.{No}
use Rattle.pp_pool.specs.declared.site.Site as Site
use Rattle.pp_pool.specs.Performing.{is_no}
use Rattle.pp_ledger.specs.Sites.{ShowsPage}
use Rattle.pp_wants.specs.Masks.{has_bell}
use Rattle.pp_hall.specs.declared.told.Told.{Told}
use Rattle.pp_hall.specs.Telling.{both_next, are_apart}
use Rattle.pp_hall.specs.Halls as halls
use Rattle.pp_hall.specs.Calls.{TakeIs, Performs}
use Rattle.pp_steps.specs.declared.plans.KeptPlan.{KeptPlan}

-- What a site has: the hall, while it is lent one; the plan that is to be taken; and whom the hall has told.
pub record Parts : Type 0 where
  pub hall : Option halls.Parts
  pub plan : Option KeptPlan
  pub told : Told

-- Nobody was told.
abbrev pub nobody_told : Told
nobody_told = record { workers = 0; next = None; all = false; flusher = false }

-- Whom either tells.
pub record AreBoth (told more both : Told) : Type 0 where
  pub workers : (b : ℕ) → has_bell both.workers b ≡ (has_bell told.workers b || has_bell more.workers b)
  pub next : both.next ≡ both_next told.next more.next
  pub all : both.all ≡ (told.all || more.all || are_apart told.next more.next)
  pub flusher : both.flusher ≡ (told.flusher || more.flusher)

-- The same chairs are out of both halls, and the same are parked.
pub record SameOut (h h' : halls.Parts) : Type 0 where
  pub peaks : h'.seating.peaks ≡ h.seating.peaks
  pub posts : h'.posts ≡ h.posts

-- What is refused where there is no hall, or no plan: nothing was done.
pub record Refuses (x : Parts) (asked : Request) (response : Response) (y : Parts) : Type 0 where
  pub response_is : response ≡ record { event = None; answer = No asked (NotNow NothingWaiting) }
  pub same : y ≡ x

-- The hall takes the plan, or performs the request.
abbrev pub HallDoes : Option KeptPlan → halls.Parts → Request → Response → Told → halls.Parts → Type 0
HallDoes None h (request.Take chair) response told h' = ⊥
HallDoes (Some plan) h (request.Take chair) response told h' =
    TakeIs (is_no response.answer) h chair plan.prepared response told h'
HallDoes plan h asked response told h' = Performs h asked response told h'

-- The hall has answered, and whom it has told is kept with those from before.
pub record Does (x : Parts) (h : halls.Parts) (asked : Request) (response : Response) (y : Parts) : Type 0 where
  pub after : halls.Parts
  pub more : Told
  pub does : HallDoes x.plan h asked response more after
  pub both : AreBoth x.told more y.told
  pub hall : y.hall ≡ Some after
  pub plan : y.plan ≡ x.plan
  pub out : SameOut h after

-- Whether there is a plan where the request wants one.
abbrev pub has_plan : Option KeptPlan → Request → Bool
has_plan None (request.Take chair) = false
has_plan plan asked = true

-- What a site gives that has this hall, and a plan where it wants one.
abbrev pub GivesIf : Option halls.Parts → Bool → Parts → Request → Response → Parts → Type 0
GivesIf (Some h) true x asked response y = Does x h asked response y
GivesIf hall plan x asked response y = Refuses x asked response y

-- What it gives.
abbrev pub StepGives : Parts → Request → Response → Parts → Type 0
StepGives x asked response y = GivesIf x.hall (has_plan x.plan asked) x asked response y

-- It shows what its hall shows.
abbrev pub StepShows : Parts → ReadGuard → (before : List ℕ) → (shown : Bool) → (after : List ℕ) → Type 0
StepShows x guard before shown after =
    (h : halls.Parts) → x.hall ≡ Some h → ShowsPage h.seating.vault guard before shown after

-- The site of one step, as a worker's turns know it.
abbrev pub step_site : Site.Ghosts Parts
step_site = record {
  gives = λ x asked response y. StepGives x asked response y;
  shows = λ x guard before shown after. StepShows x guard before shown after;
  tells = λ x most. Unit {0};
}
