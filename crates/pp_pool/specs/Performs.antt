-- What a site with a book of its own gives.
use Rattle.std.specs.Prelude.{◌≡◌, ◌++◌}
use Rattle.pp_pool.specs.declared.request.Request.{Request}
use Rattle.pp_pool.specs.declared.response.Response.{Response}
use Rattle.pp_pool.specs.Parts.{Parts, settings_of, plans_of}
use Rattle.pp_pool.specs.Books.{IsBook}
use Rattle.pp_pool.specs.Requests.{event_for, events_in}
use Rattle.pp_pool.specs.Performing.{ComesTo}

-- The event is the model's, from the state that the journal leads to; the journal grows by it; and the answer is the
-- vault's. The journal has memory for as many events as before.
pub record Performs (old : Parts) (asked : Request) (response : Response) (new : Parts) : Type 0 where
  pub event : response.event ≡ event_for old asked
  pub journal : new.journal ≡ old.journal ++ events_in response.event
  pub memory : new.capacity ≡ old.capacity
  pub answer : ComesTo old.vault asked response.answer new.vault
  pub settings : settings_of new ≡ settings_of old
  pub plans : plans_of new ≡ plans_of old
  pub outset : new.began ≡ old.began
  pub kept : IsBook new
