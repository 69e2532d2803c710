-- Segments of a ledger as they are written.
use Rattle.std.specs.Prelude.{ℕ, ◌+◌, ◌<◌, ◌^◌, List, [], ◌∷◌, length}
use Rattle.std.specs.List.{AllByRecursion}
use Rattle.pp_report.specs.Lines.{HasNumbers}
use Rattle.pp_ledger.specs.Segments.{Segment}
use Rattle.pp_segments.specs.Segments.{ToldSegment, segment_words}

-- What is written of a segment: its events, and of each submit among them the place of the prepared plan.
abbrev pub told_of : Segment → ToldSegment
told_of g = record { events = g.events; prepared = g.prepared }

-- Its text, which begins with its number and the number of the plans before it.
abbrev pub text_words : Segment → List ℕ
text_words g = segment_words g.number g.plans_before (told_of g)

-- How many lines the texts of segments have: each a head, and a line for each event.
abbrev pub count_lines : List Segment → ℕ
count_lines [] = 0
count_lines (g ∷ gs) = 1 + length g.events + count_lines gs

-- ---- how large numbers are

-- A place among the prepared plans has 32 bits.
abbrev pub IsPlace : ℕ → Type 0
IsPlace place = place < 2 ^ 32

-- All numbers of a segment have as many bits as their types.
pub record HasAllNumbers (g : Segment) : Type 0 where
  pub number : g.number < 2 ^ 64
  pub plans_before : g.plans_before < 2 ^ 64
  pub prepared : AllByRecursion IsPlace g.prepared
  pub events : AllByRecursion HasNumbers g.events
