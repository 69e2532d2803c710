-- What sites give that have a ledger and a sink for its segments, or a vault alone.
use Rattle.std.specs.Prelude.{◌≡◌, ℕ, ◌≤◌, ◌&&◌, not, Bool, true, false, None, List}
use Rattle.pp_cert.specs.Accepted.{Acceptance}
use Rattle.pp_model.specs.declared.refusals.Delay.TheVariants.{NoRoom}
use Rattle.pp_model.specs.Pool.{State}
use Rattle.pp_core.specs.Submits.{PreparedFails}
use Rattle.pp_vault.specs.declared.guards.ReadGuard.{ReadGuard}
use Rattle.pp_vault.specs.declared.refusal.Refusal.TheVariants.{NotNow}
use Rattle.pp_vault.specs.Parts as vault
use Rattle.pp_vault.specs.StandsFor.{StandsFor}
use Rattle.pp_vault.specs.Calls.{after_call}
use Rattle.pp_pool.specs.declared.request.Request.{Request}
use Rattle.pp_pool.specs.declared.response.BookAnswer.TheVariants.{No}
use Rattle.pp_pool.specs.declared.response.Response.{Response}
use Rattle.pp_pool.specs.Requests.{call_of, event_of}
use Rattle.pp_pool.specs.Performing.{ComesTo}
use Rattle.pp_pool.specs.Fronts.{ShowsPageIn}
use Rattle.pp_ledger.specs.declared.error.LedgerError.{LedgerError}
use Rattle.pp_ledger.specs.declared.error.LedgerError.TheVariants.{SegmentFull, Refused}
use Rattle.pp_ledger.specs.Segments.{Segment, is_full, is_ready}
use Rattle.pp_ledger.specs.Ledgers.{Parts, IsSegment}
use Rattle.pp_ledger.specs.Calls.{TakesPrepared, Performs, can_go_on, going_on}

-- ---- a look

-- What a vault answers to a look at the guard's page, of a slice that was so before, by each state that it stands for.
abbrev pub ShowsPage : vault.Parts → ReadGuard → (before : List ℕ) → (shown : Bool) → (after : List ℕ) → Type 0
ShowsPage v guard before shown after =
    (s : State) → StandsFor v s → ShowsPageIn v s guard before shown after

-- ---- a vault alone

-- The vault answers the request. The event is the model's, from each state that the vault stands for, and the vault
-- stands for the state after it. The prepared plans stay. Nobody notes the event.
pub record Answers (old : vault.Parts) (asked : Request) (response : Response) (new : vault.Parts) : Type 0 where
  pub answer : ComesTo old asked response.answer new
  pub event : (s : State) → StandsFor old s → response.event ≡ event_of s (call_of old asked s)
  pub stands : (s : State) → StandsFor old s → StandsFor new (after_call s (call_of old asked s))
  pub plans : new.core.plans ≡ old.core.plans

-- ---- a ledger and a sink

-- What a site keeps that has a ledger.
pub record SiteParts (S : Type 0) : Type 0 where
  -- what its ledger keeps
  pub ledger : Parts
  -- the segment in which the ledger goes on next
  pub spare : Segment
  -- who is handed the segments that are taken out
  pub sink : S

-- The spare segment is ready for the ledger to go on in it, and the present one has memory for an event.
pub record IsSite {S : Type 0} (x : SiteParts S) : Type 0 where
  pub ready : is_ready x.spare ≡ true
  pub room : 1 ≤ x.ledger.segment.capacity

-- Whether one segment more can be taken out: fewer than 2^64 - 1 were.
abbrev pub can_hand_on : {S : Type 0} → SiteParts S → Bool
can_hand_on x = can_go_on x.ledger x.spare

-- The present segment is taken out, and the ledger goes on in the spare one, from the state to which the present one
-- leads. The sink is handed what was taken out, and gives the next spare one, as its own relation says.
pub record HandsOn {S : Type 0} (keeps : S → Segment → Segment → S → Type 0) (old new : SiteParts S) : Type 0 where
  pub can : can_hand_on old ≡ true
  pub ledger : new.ledger ≡ going_on old.ledger old.spare
  pub handed : keeps old.sink old.ledger.segment new.spare new.sink
  pub segment : (o s : State) → IsSegment old.ledger o s → IsSegment new.ledger s s

-- Whether no event can be noted any more: the present segment is full, and can't be taken out.
abbrev pub is_stuck : {S : Type 0} → SiteParts S → Bool
is_stuck x = is_full x.ledger.segment && not (can_hand_on x)

-- There is room for an event: a full segment is handed on first, and otherwise the site is as it was.
pub record MakesRoom {S : Type 0} (keeps : S → Segment → Segment → S → Type 0) (old new : SiteParts S) : Type 0 where
  pub handed : is_full old.ledger.segment ≡ true → HandsOn keeps old new
  pub same : is_full old.ledger.segment ≡ false → new ≡ old
  pub room : is_full new.ledger.segment ≡ false

-- The site makes room, and then its ledger performs the request.
pub record Serves {S : Type 0} (keeps : S → Segment → Segment → S → Type 0) (old : SiteParts S) (asked : Request)
    (response : Response) (new : SiteParts S) : Type 0 where
  -- the site once there is room
  pub between : SiteParts S
  pub makes_room : MakesRoom keeps old between
  pub performs : Performs between.ledger asked response new.ledger
  pub rest : new ≡ record between { ledger = new.ledger }

-- The request comes back, as one for which there is no room now. Nothing was done.
pub record Declines {S : Type 0} (old : SiteParts S) (asked : Request) (response : Response) (new : SiteParts S)
    : Type 0 where
  pub told : response ≡ record { event = None; answer = No asked (NotNow NoRoom) }
  pub unchanged : new ≡ old

-- What a site with a ledger gives: it declines exactly where no event can be noted any more, and else it serves.
abbrev pub Gives : {S : Type 0} → (keeps : S → Segment → Segment → S → Type 0) → (stuck : Bool) → (old : SiteParts S)
    → Request → Response → (new : SiteParts S) → Type 0
Gives keeps true old asked response new = Declines old asked response new
Gives keeps false old asked response new = Serves keeps old asked response new

-- The site makes room, and then its ledger takes in the plan that is prepared at this place, under this number.
pub record Submits {S : Type 0} (keeps : S → Segment → Segment → S → Type 0) (old : SiteParts S) (place number : ℕ)
    (new : SiteParts S) : Type 0 where
  -- the site once there is room, and the plan
  pub between : SiteParts S
  pub plan : Acceptance
  pub makes_room : MakesRoom keeps old between
  pub takes : TakesPrepared between.ledger place number plan new.ledger
  pub rest : new ≡ record between { ledger = new.ledger }

-- The plan isn't taken in: no event can be noted any more; or there is room, and the vault refuses the plan so.
abbrev pub RefusesSubmit : {S : Type 0} → (keeps : S → Segment → Segment → S → Type 0) → (old : SiteParts S)
    → (place : ℕ) → LedgerError → (new : SiteParts S) → Type 0
RefusesSubmit keeps old place SegmentFull new = (is_stuck old ≡ true) × (new ≡ old)
RefusesSubmit keeps old place (Refused error) new =
    MakesRoom keeps old new × PreparedFails new.ledger.vault.core place error
