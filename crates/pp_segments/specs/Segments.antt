-- Segments of the journal of an endless life, and which texts are theirs.
use Rattle.std.specs.Prelude.{◌≡◌, ◌⊎◌, ℕ, ◌+◌, Bool, true, false, List, [], ◌∷◌, ◌++◌, codes, length, flat_map}
use Rattle.std.specs.Prelude.{count_by}
use Rattle.std.specs.List.{AllByRecursion}
use Rattle.pp_model.specs.declared.event.Event.{Event}
use Rattle.pp_model.specs.declared.event.Event.TheVariants as event
use Rattle.pp_report.specs.declared.line.Told.TheVariants.{Answer}
use Rattle.pp_segments.specs.declared.line.SegmentLine.{SegmentLine}
use Rattle.pp_segments.specs.declared.line.SegmentLine.TheVariants.{Head, Submit, Step}
use Rattle.pp_segments.specs.Lines.{line_words, FitsLine}

-- ---- segments

-- A segment as it is written: its events, and of each submit among them the number of the prepared plan, which is the
-- submit's name, in order.
pub record ToldSegment : Type 0 where
  pub events : List Event
  pub prepared : List ℕ

-- Whether the event is that a plan was taken in.
abbrev pub is_submit : Event → Bool
is_submit (event.Submit plan) = true
is_submit (event.Step did reply) = false

-- It has as many names of prepared plans as submits, one for each.
abbrev pub IsNamed : ToldSegment → Type 0
IsNamed x = length x.prepared ≡ count_by is_submit x.events

-- The events of all segments, in order, and the names of all their submits.
abbrev pub all_events : List ToldSegment → List Event
all_events xs = flat_map (λ x. x.events) xs

abbrev pub all_names : List ToldSegment → List ℕ
all_names xs = flat_map (λ x. x.prepared) xs

-- ---- their lines

-- A line for each event, where there is a name for each submit; a submit without one would have none.
abbrev pub event_lines : List Event → (names : List ℕ) → List SegmentLine
event_lines [] names = []
event_lines (event.Submit plan ∷ es) [] = event_lines es []
event_lines (event.Submit plan ∷ es) (name ∷ names) = Submit plan name ∷ event_lines es names
event_lines (event.Step did reply ∷ es) names = Step did (Answer reply) ∷ event_lines es names

-- The head of the segment that has this number and begins behind so many plans, and its events.
abbrev pub segment_lines : (number plans_before : ℕ) → ToldSegment → List SegmentLine
segment_lines number plans_before x = Head number plans_before ∷ event_lines x.events x.prepared

-- The same of segments, one behind the other: the first has this number, and each other one begins behind the plans
-- before it.
abbrev pub lines_from : (number plans_before : ℕ) → List ToldSegment → List SegmentLine
lines_from number plans_before [] = []
lines_from number plans_before (x ∷ xs) =
    segment_lines number plans_before x ++ lines_from (number + 1) (plans_before + length x.prepared) xs

-- All lines of the segments of a life.
abbrev pub all_lines : List ToldSegment → List SegmentLine
all_lines xs = lines_from 0 0 xs

-- ---- texts

-- Lines as they are written: each is ended by a line feed.
abbrev pub lines_words : List SegmentLine → List ℕ
lines_words [] = []
lines_words (l ∷ ls) = (line_words l ++ codes "\n") ++ lines_words ls

-- The text of a segment.
abbrev pub segment_words : (number plans_before : ℕ) → ToldSegment → List ℕ
segment_words number plans_before x = lines_words (segment_lines number plans_before x)

-- The texts of segments, the first of which has this number and begins behind so many plans.
abbrev pub texts_from : (number plans_before : ℕ) → List ToldSegment → List (List ℕ)
texts_from number plans_before [] = []
texts_from number plans_before (x ∷ xs) =
    segment_words number plans_before x ∷ texts_from (number + 1) (plans_before + length x.prepared) xs

-- The text spells these lines: each may stand in one, and the text is theirs, or it lacks the last line feed.
pub record SpellsLines (text : List ℕ) (ls : List SegmentLine) : Type 0 where
  pub fits : AllByRecursion FitsLine ls
  pub text_is : (text ≡ lines_words ls) ⊎ (text ++ codes "\n" ≡ lines_words ls)

-- Each text spells the lines that stand at its place.
abbrev pub SpellEach : (texts : List (List ℕ)) → List (List SegmentLine) → Type 0
SpellEach [] [] = Unit {0}
SpellEach [] (part ∷ parts) = ⊥
SpellEach (text ∷ texts) [] = ⊥
SpellEach (text ∷ texts) (part ∷ parts) = SpellsLines text part × SpellEach texts parts

-- The texts, one behind the other, spell these segments. A text may begin and end between any two lines.
pub record SpellsSegments (texts : List (List ℕ)) (xs : List ToldSegment) : Type 0 where
  pub parts : List (List SegmentLine)
  pub each : SpellEach texts parts
  pub whole : flat_map (λ part. part) parts ≡ all_lines xs
