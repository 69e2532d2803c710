-- What the site of one call gives.
use Rattle.std.specs.Prelude.{◌≡◌, ◌⊎◌, if◌then◌else◌, ℕ, Bool, List, Option, None, Some, is_some}
use Rattle.pp_cert.specs.Accepted.{Acceptance}
use Rattle.pp_model.specs.declared.event.Event.TheVariants.{Step}
use Rattle.pp_model.specs.declared.moves.Move.TheVariants as move
use Rattle.pp_model.specs.declared.reply.Reply.TheVariants as reply
use Rattle.pp_model.specs.declared.refusals.Delay.TheVariants.{NothingWaiting}
use Rattle.pp_vault.specs.declared.guards.ReadGuard.{ReadGuard}
use Rattle.pp_vault.specs.declared.tokens.Chair.{Chair}
use Rattle.pp_vault.specs.declared.refusal.Refusal.{Refusal}
use Rattle.pp_vault.specs.declared.refusal.Refusal.TheVariants.{NotNow, OffPlan, Stranger}
use Rattle.pp_vault.specs.Parts as vault
use Rattle.pp_vault.specs.Headline.{Holds}
use Rattle.pp_vault.specs.Submits.{TakesPrepared}
use Rattle.pp_pool.specs.declared.request.Request.{Request}
use Rattle.pp_pool.specs.declared.request.Request.TheVariants as request
use Rattle.pp_pool.specs.declared.response.BookAnswer.TheVariants.{No}
use Rattle.pp_pool.specs.declared.response.Response.{Response}
use Rattle.pp_pool.specs.declared.site.Site as Site
use Rattle.pp_pool.specs.Replies.{Replies}
use Rattle.pp_ledger.specs.Sites.{Answers, ShowsPage}
use Rattle.pp_wants.specs.Wants.{want_of}
use Rattle.pp_hall.specs.Askers.{asker}
use Rattle.pp_hall.specs.Seatings.{NoPlanWaits}

-- The response fits the request, and a vault of which the headline holds gives it to this request. Which vault, and what
-- it was before, isn't said: what lies under a lock is in no contract, and others move between two calls.
abbrev pub IsGiven : Request → Response → Type 0
IsGiven asked response =
    Replies asked response
    × ((before : vault.Parts) × (after : vault.Parts) × Holds before × Answers before asked response after)

-- The plan that is prepared at this place was submitted, under this number, and the chair took it: in one step, so that
-- no other plan came between, and the event of the take tells the same number. Of the vault before that the headline
-- holds, and no plan waited in it.
pub record TakesAtOnce (place number : ℕ) (chair : Chair) (response : Response) : Type 0 where
  pub before : vault.Parts
  pub waits : vault.Parts
  pub after : vault.Parts
  pub holds : Holds before
  pub straight : NoPlanWaits before
  pub plan : Acceptance
  pub submits : TakesPrepared before place number plan waits
  pub takes : Answers waits (request.Take chair) response after
  pub event : response.event ≡ Some (Step (move.Take chair.worker) (reply.Taken number))

-- What it gives to a chair that takes a plan: the plan that the call has to take, or a refusal. Where it has none to
-- take, nothing waits.
abbrev pub GivesTake : Option ℕ → Chair → Response → Type 0
GivesTake None chair response =
    response ≡ record { event = None; answer = No (request.Take chair) (NotNow NothingWaiting) }
GivesTake (Some place) chair response =
    Replies (request.Take chair) response
    × (((number : ℕ) × TakesAtOnce place number chair response) ⊎ (response.event ≡ None))

-- What the site of a call gives that has this plan still to take, if any: a plan is taken at most once. All else a
-- hall's vault gives.
abbrev pub GivesCall : Option ℕ → Request → Response → Option ℕ → Type 0
GivesCall plan (request.Take chair) response after = GivesTake plan chair response × (after ≡ None)
GivesCall plan asked response after = IsGiven asked response × (after ≡ plan)

-- The chair whose thread sleeps where a request is refused so: that of the worker which asked for a page or a latch that it
-- can't have now.
abbrev pub sleeper_of : Request → Refusal → Option ℕ
sleeper_of asked (NotNow why) = if is_some (want_of asked) then asker asked else None
sleeper_of asked (OffPlan why) = None
sleeper_of asked Stranger = None

-- A vault of which the headline holds shows so the front of a page.
abbrev pub ShowsSome : ReadGuard → (before : List ℕ) → (shown : Bool) → (after : List ℕ) → Type 0
ShowsSome guard before shown after = (v : vault.Parts) × Holds v × ShowsPage v guard before shown after

-- The site of a call, as a worker's turns know it.
abbrev pub call_site : Site.Ghosts (Option ℕ)
call_site = record {
  gives = λ plan asked response after. GivesCall plan asked response after;
  shows = λ plan guard before shown after. ShowsSome guard before shown after;
  tells = λ plan most. Unit {0};
}
