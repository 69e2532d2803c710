-- What clauses see of a ledger, and what holds of each.
use Rattle.std.specs.Prelude.{◌≡◌, ◌≢◌, ◌≤◌, Some, length, map, drop, slice_get}
use Rattle.pp_settings.specs.declared.span.Span.TheVariants.{Bounded}
use Rattle.pp_model.specs.Pool.{State}
use Rattle.pp_model.specs.Journals.{IsJournalFrom}
use Rattle.pp_model.specs.Reached.{IsReached}
use Rattle.pp_vault.specs.Parts as vault
use Rattle.pp_vault.specs.StandsFor.{StandsFor}
use Rattle.pp_ledger.specs.Segments.{Segment}

-- What a ledger keeps.
pub record Parts : Type 0 where
  -- what its vault keeps
  pub vault : vault.Parts
  -- the present segment of its journal
  pub segment : Segment

-- From the state o on, which is reached, the segment's events are a true journal that leads to the state s, and for
-- that state the vault stands. What the segment tells of plans is right: so many were submitted before the state o,
-- and those that were submitted since then are the prepared ones that it names.
--
-- The vault keeps too little to tell which states these are. So a clause speaks of all o and s of which this holds.
pub record IsSegment (l : Parts) (o s : State) : Type 0 where
  pub opened : IsReached o
  pub told : IsJournalFrom o s l.segment.events
  pub stands : StandsFor l.vault s
  pub plans_before : l.segment.plans_before ≡ length o.plans
  pub prepared : map (slice_get l.vault.core.plans) l.segment.prepared ≡ map Some (drop (length o.plans) s.plans)

-- Its life is endless, there are two such states, and the segment has memory for its events.
pub record IsLedger (l : Parts) : Type 0 where
  pub endless : l.vault.core.span ≢ Bounded
  pub opening : State
  pub present : State
  pub segment : IsSegment l opening present
  pub room : length l.segment.events ≤ l.segment.capacity
