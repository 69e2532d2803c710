-- Segments that were taken out of a ledger one after the other.
use Rattle.std.specs.Prelude.{◌≡◌, ℕ, ◌+◌, Some, List, [], ◌∷◌, ◌++◌, length, map, drop, slice_get}
use Rattle.pp_cert.specs.Accepted.{Acceptance}
use Rattle.pp_model.specs.Pool.{State}
use Rattle.pp_model.specs.Journals.{IsJournalFrom}
use Rattle.pp_model.specs.Segments as model
use Rattle.pp_model.specs.Segments.{segments_end, all_events}
use Rattle.pp_ledger.specs.Segments.{Segment, count_submits}
use Rattle.pp_ledger.specs.Ledgers.{Parts, IsSegment}

-- One of them, with the state to which it leads.
pub record Taken : Type 0 where
  -- the ledger as it was when its segment was taken out, or when it was closed
  pub ledger : Parts
  -- the state to which that segment leads
  pub end : State

-- It is a segment from this state on, and has this number. Its ledger has these earlier plans prepared, and perhaps
-- more behind them.
pub record ComesNext (o : State) (n : ℕ) (earlier : List Acceptance) (x : Taken) : Type 0 where
  pub segment : IsSegment x.ledger o x.end
  pub number : x.ledger.segment.number ≡ n
  pub more : List Acceptance
  pub plans : x.ledger.vault.core.plans ≡ earlier ++ more

-- They were taken out one after the other: the first comes next after this state, under this number, and each other one
-- after the one before it. A ledger keeps its prepared plans and only adds to them.
abbrev pub AreTaken : State → (number : ℕ) → (plans : List Acceptance) → List Taken → Type 0
AreTaken o number plans [] = Unit {0}
AreTaken o number plans (x ∷ xs) =
    ComesNext o number plans x × AreTaken x.end (number + 1) x.ledger.vault.core.plans xs

-- ---- what was taken out

-- Of each segment its events, and the state to which they lead.
abbrev pub segment_of : Taken → model.Segment
segment_of x = record { events = x.ledger.segment.events; end = x.end }

abbrev pub segments_of : List Taken → List model.Segment
segments_of xs = map segment_of xs

-- The plans that are prepared at the end, where these were at the beginning.
abbrev pub plans_at_end : List Acceptance → List Taken → List Acceptance
plans_at_end plans [] = plans
plans_at_end plans (x ∷ xs) = plans_at_end x.ledger.vault.core.plans xs

-- The places of all plans that were submitted, in order.
abbrev pub all_prepared : List Taken → List ℕ
all_prepared [] = []
all_prepared (x ∷ xs) = x.ledger.segment.prepared ++ all_prepared xs

-- ---- what they are together

-- The segment tells how many segments and how many plans came before it, and a place for each of its submits.
pub record IsHeaded (n before : ℕ) (g : Segment) : Type 0 where
  pub number : g.number ≡ n
  pub plans_before : g.plans_before ≡ before
  pub places : length g.prepared ≡ count_submits g.events

-- So does each of them. Their numbers follow one another, and the submits of each are added to the plans before it.
abbrev pub AreHeaded : (number plans_before : ℕ) → List Taken → Type 0
AreHeaded number plans_before [] = Unit {0}
AreHeaded number plans_before (x ∷ xs) =
    IsHeaded number plans_before x.ledger.segment
    × AreHeaded (number + 1) (plans_before + count_submits x.ledger.segment.events) xs

-- One behind the other the events are a true journal, from the state in which the first segment begins. What the
-- segments tell of plans is right: the plans that were submitted are those prepared ones that they name, in order.
pub record AreOneJournal (o : State) (number : ℕ) (plans : List Acceptance) (xs : List Taken) : Type 0 where
  pub told : IsJournalFrom o (segments_end o (segments_of xs)) (all_events (segments_of xs))
  pub headed : AreHeaded number (length o.plans) xs
  pub prepared :
      map (slice_get (plans_at_end plans xs)) (all_prepared xs)
      ≡ map Some (drop (length o.plans) (segments_end o (segments_of xs)).plans)

-- Segments that were taken out one after the other are so.
abbrev pub TakenAreAJournal : State → Type 0
TakenAreAJournal o =
    (number : ℕ) (plans : List Acceptance) (xs : List Taken) → AreTaken o number plans xs
    → AreOneJournal o number plans xs
