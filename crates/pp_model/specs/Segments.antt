-- Segments of the journal of one life, one after the other, each with the state to which it leads.
use Rattle.std.specs.Prelude.{List, [], ◌∷◌, ◌++◌}
use Rattle.pp_model.specs.declared.event.Event.{Event}
use Rattle.pp_model.specs.Pool.{State}
use Rattle.pp_model.specs.Journals.{IsJournalFrom}

pub record Segment : Type 0 where
  -- what was done in it
  pub events : List Event
  -- the state to which that leads
  pub end : State

-- The first begins in this state, and each other one where the one before it ended. Of each the events are a true journal.
abbrev pub AreSegments : State → List Segment → Type 0
AreSegments o [] = Unit {0}
AreSegments o (x ∷ xs) = IsJournalFrom o x.end x.events × AreSegments x.end xs

-- The state in which the last one ends.
abbrev pub segments_end : State → List Segment → State
segments_end o [] = o
segments_end o (x ∷ xs) = segments_end x.end xs

-- The events of all of them, in order.
abbrev pub all_events : List Segment → List Event
all_events [] = []
all_events (x ∷ xs) = x.events ++ all_events xs

-- One behind the other they are a true journal.
abbrev pub SegmentsAreAJournal : State → Type 0
SegmentsAreAJournal o =
    (xs : List Segment) → AreSegments o xs → IsJournalFrom o (segments_end o xs) (all_events xs)
