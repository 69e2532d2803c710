-- The pages of bundles: a list of stacks, one for each place, in room that all places share.
use Rattle.std.specs.Prelude.{ℕ, ◌-◌, ◌≤◌, List, [], ◌∷◌, length, drop, replicate, sum_by, slice_index_or, slice_set}

-- How many pages there is room for at all places together; and for each place its pages, the one that was put there
-- last first. The pages of place p stand at p.
pub record PageStacks : Type 0 where
  pub room : ℕ
  pub stacks : List (List ℕ)

-- So many places without a page, and room for so many pages.
abbrev pub empty_stacks : (places room : ℕ) → PageStacks
empty_stacks places room = record { room = room; stacks = replicate places [] }

-- How many places there are; they are numbered from 0.
abbrev pub place_count : PageStacks → ℕ
place_count s = length s.stacks

-- The pages at a place, the one that was put there last first. Past the last place there are none.
abbrev pub pages_at : PageStacks → ℕ → List ℕ
pages_at s place = slice_index_or s.stacks place []

-- How many pages stand at all places together. A page that stands several times counts each time.
abbrev pub all_pages : PageStacks → ℕ
all_pages s = sum_by length s.stacks

-- How many records are free: how many pages more there is room for.
abbrev pub free_records : PageStacks → ℕ
free_records s = s.room - all_pages s

-- The same stacks, but these pages at a place. Past the last place nothing changes.
abbrev pub with_pages : PageStacks → ℕ → List ℕ → PageStacks
with_pages s place pages = record s { stacks = slice_set s.stacks place pages }

-- One page more at a place, on top of those that stand there.
abbrev pub pushed : PageStacks → (place page : ℕ) → PageStacks
pushed s place page = with_pages s place (page ∷ pages_at s place)

-- A place without the page on top. Where none stands nothing changes.
abbrev pub popped : PageStacks → (place : ℕ) → PageStacks
popped s place = with_pages s place (drop 1 (pages_at s place))

-- There are never more pages than there is room for.
abbrev pub IsSound : PageStacks → Type 0
IsSound s = all_pages s ≤ s.room
