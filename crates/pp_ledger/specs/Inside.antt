-- How a segment is kept: a journal, and a vector of places. And what a ledger keeps that callers don't see.
use Rattle.std.specs.Prelude.{◌≡◌, ℕ, ◌≤◌, length, vec_capacity}
use Rattle.pp_pool.specs.Books.{greatest_cost}
use Rattle.pp_ledger.specs.declared.segment.Segment.TheInside.{Inside}
use Rattle.pp_ledger.specs.Segments.{Segment, count_submits}
use Rattle.pp_ledger.specs.Ledgers.{Parts, IsLedger}

-- What a segment is to a caller.
abbrev pub segment_in : Inside → Segment
segment_in a =
    record {
      events = a.journal.items;
      prepared = a.prepared.items;
      number = a.number;
      plans_before = a.plans_before;
      capacity = a.journal.capacity;
    }

-- Each submit among the events has a place, and no place is left over. Where there is memory for an event, there is also
-- some for a place.
pub record PreparedFit (a : Inside) : Type 0 where
  pub named : length a.prepared.items ≡ count_submits a.journal.items
  pub room : a.journal.capacity ≤ vec_capacity a.prepared

-- What holds of every ledger, and the greatest cost of its prepared plans, which it keeps.
pub record LedgerKeeps (l : Parts) (most : ℕ) : Type 0 where
  pub ledger : IsLedger l
  pub greatest : most ≡ greatest_cost l.vault.core.plans
