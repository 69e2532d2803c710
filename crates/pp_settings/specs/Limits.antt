-- The limits that more than one crate needs: of settings, plans and lives. src/limits.rt says why each is so.
use Rattle.std.specs.Prelude.{ℕ, ◌-◌, ◌^◌}

-- How many frames a pool may have.
abbrev pub most_frames : ℕ
most_frames = 2 ^ 24

-- How few and how many bytes a page may have.
abbrev pub fewest_page_bytes : ℕ
fewest_page_bytes = 64

abbrev pub most_page_bytes : ℕ
most_page_bytes = 2 ^ 20

-- How many workers a pool may have.
abbrev pub most_workers : ℕ
most_workers = 1024

-- How many submitted plans may wait at a time, in an endless life.
abbrev pub most_waiting : ℕ
most_waiting = 2 ^ 20

-- How many flushes a bounded life may begin, and how many an endless life.
abbrev pub most_flushes : ℕ
most_flushes = 100000

abbrev pub most_endless_flushes : ℕ
most_endless_flushes = 2 ^ 59

-- How many regions there may be.
abbrev pub most_regions : ℕ
most_regions = 64

-- How many page numbers there are: pages are numbered below it. So one more than a page fits 32 bits, with room to spare.
abbrev pub page_numbers : ℕ
page_numbers = 2 ^ 32 - 4

-- The greatest class.
abbrev pub greatest_class : ℕ
greatest_class = 63

-- How many bytes a region's name may have.
abbrev pub longest_region_name : ℕ
longest_region_name = 32

-- ---- of a text of version 1

-- How many frames a pool may have in a text of version 1.
abbrev pub first_frames : ℕ
first_frames = 4096

-- How many bytes a page may have there.
abbrev pub first_page_bytes : ℕ
first_page_bytes = 65536

-- How many workers a pool may have there.
abbrev pub first_workers : ℕ
first_workers = 32

-- How many page numbers there are there.
abbrev pub first_page_numbers : ℕ
first_page_numbers = 65536

-- ---- of a text of version 2

-- How few bytes a page may have in a text of version 2.
abbrev pub second_page_bytes : ℕ
second_page_bytes = 512

-- ---- of plans

-- How many statements a plan may have, those inside others among them.
abbrev pub most_statements : ℕ
most_statements = 4096

-- How deep statements may stand inside each other.
abbrev pub most_depth : ℕ
most_depth = 16

-- How many slots a plan may name.
abbrev pub most_slots : ℕ
most_slots = 32

-- The most events that a journal has for one step of a plan: a fix, the end of its victim's writing, and that of its reading.
abbrev pub step_events : ℕ
step_events = 3

-- The most events that a journal has for a plan besides: the take, an unwind for each slot, and the finish.
abbrev pub plan_events : ℕ
plan_events = 34

-- ---- of lives

-- The most plans that a bounded life takes in.
abbrev pub most_plans : ℕ
most_plans = 256

-- The most plans that are prepared in an endless life.
abbrev pub most_prepared : ℕ
most_prepared = 4096

-- The most events besides submits of a bounded life.
abbrev pub most_bounded_events : ℕ
most_bounded_events = 4000000

-- The most events besides submits of an endless life. It would have them after 73 years, with a thousand million a second; by that
-- bound no mark comes near 2^64, and sums of bounds fit 64 bits.
abbrev pub most_endless_events : ℕ
most_endless_events = 2 ^ 61

-- ---- of marks

-- Where no mark of a page is known, a stamp from this on isn't believed.
abbrev pub stamp_limit : ℕ
stamp_limit = 2 ^ 62

-- Known marks of a pool that is renewed are below this. So none comes near 2^64 in the life that begins.
abbrev pub mark_limit : ℕ
mark_limit = 2 ^ 63

-- ---- of threads

-- How many bells there are for workers to sleep on.
abbrev pub bell_count : ℕ
bell_count = 32
