-- What the calls of a ledger do.
use Rattle.std.specs.Prelude.{◌≡◌, ◌+◌, ◌-◌, ◌^◌, ◌&&◌, nat_lt, ℕ, Bool, true, false, length}
use Rattle.pp_cert.specs.Accepted.{Acceptance}
use Rattle.pp_model.specs.Pool.{State}
use Rattle.pp_model.specs.Submitting.{after_submit}
use Rattle.pp_core.specs.Submits.{PreparedFails}
use Rattle.pp_vault.specs.Submits as vault
use Rattle.pp_vault.specs.Calls.{after_call}
use Rattle.pp_pool.specs.declared.request.Request.{Request}
use Rattle.pp_pool.specs.declared.response.Response.{Response}
use Rattle.pp_pool.specs.Requests.{call_of, event_of}
use Rattle.pp_pool.specs.Performing.{ComesTo}
use Rattle.pp_pool.specs.Replies.{Replies}
use Rattle.pp_ledger.specs.declared.error.LedgerError.{LedgerError}
use Rattle.pp_ledger.specs.declared.error.LedgerError.TheVariants.{SegmentFull, Refused}
use Rattle.pp_ledger.specs.Segments.{Segment, begun, is_full, is_ready, with_event, with_submit}
use Rattle.pp_ledger.specs.Ledgers.{Parts, IsSegment}

-- ---- plans

-- The vault prepares the plan. It is no event: the segment is the same, of the same states.
pub record Prepares (old : Parts) (a : Acceptance) (place : ℕ) (new : Parts) : Type 0 where
  pub vault : vault.Prepares old.vault a place new.vault
  pub parts : new ≡ record old { vault = new.vault }
  pub segment : (o s : State) → IsSegment old o s → IsSegment new o s

-- The segment has room, and the vault takes in the plan that is prepared at this place, under this number. The segment
-- has the submit behind the other events, with the place, and leads to the state after the submit.
pub record TakesPrepared (old : Parts) (place number : ℕ) (a : Acceptance) (new : Parts) : Type 0 where
  pub room : is_full old.segment ≡ false
  pub vault : vault.TakesPrepared old.vault place number a new.vault
  pub parts : new ≡ record { vault = new.vault; segment = with_submit old.segment number place }
  pub segment : (o s : State) → IsSegment old o s → IsSegment new o (after_submit s a)

-- The plan isn't taken in: the segment is full, or else the vault refuses it so.
abbrev pub SubmitFails : Parts → (place : ℕ) → LedgerError → Type 0
SubmitFails l place SegmentFull = is_full l.segment ≡ true
SubmitFails l place (Refused error) = (is_full l.segment ≡ false) × PreparedFails l.vault.core place error

-- ---- requests

-- The vault answers the request. Its event, if one comes of it, is the model's, from the state to which the segment
-- leads. The segment has it behind the others, and leads to the state after it. The prepared plans stay.
pub record Performs (old : Parts) (asked : Request) (response : Response) (new : Parts) : Type 0 where
  pub answer : ComesTo old.vault asked response.answer new.vault
  pub plans : new.vault.core.plans ≡ old.vault.core.plans
  pub event : (o s : State) → IsSegment old o s → response.event ≡ event_of s (call_of old.vault asked s)
  pub parts : new ≡ record { vault = new.vault; segment = with_event old.segment response.event }
  pub segment : (o s : State) → IsSegment old o s → IsSegment new o (after_call s (call_of old.vault asked s))
  pub fits : Replies asked response

-- ---- segments

-- Whether the ledger goes on in this segment: it is ready for that, and fewer than 2^64 - 1 were taken out.
abbrev pub can_go_on : Parts → Segment → Bool
can_go_on l next = is_ready next && nat_lt l.segment.number (2 ^ 64 - 1)

-- The ledger goes on in this segment's memory, under the next number. What is submitted in it is numbered behind all
-- that was submitted before.
abbrev pub going_on : Parts → Segment → Parts
going_on l next = record l {
  segment = begun next.capacity (l.segment.number + 1) (l.segment.plans_before + length l.segment.prepared);
}
