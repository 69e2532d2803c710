-- How searches keep the numbers of the pages that they passed over: a page has a slot only while it has a number.
use Rattle.std.specs.Prelude.{◌≡◌, ◌≢◌, ℕ, ◌+◌, ◌<◌, List, map, length, slice_index, sum_by, Option}
use Rattle.pp_arc.specs.declared.numbers.Numbers.TheInside.{Inside}
use Rattle.pp_arc.specs.Passed.{counts}
use Rattle.pp_arc.specs.Search.{SearchMarks}

-- what is kept of pages, of slots, and of the slots that no page has
pub record Slotted : Type 0 where
  -- at place x the slot of page x; 0 where it has none
  pub slots : List ℕ
  -- at place s the page of slot s; of a free slot it means nothing
  pub pages : List ℕ
  -- at place s the number of the page of slot s
  pub numbers : List ℕ
  -- at place s that number, if the page stands in T1 and was freed
  pub freed_t1 : List ℕ
  -- the same of T2
  pub freed_t2 : List ℕ
  -- its first `spare` are the free slots, the one that is taken next last
  pub free : List ℕ
  pub spare : ℕ

-- what is kept by slot, by page
abbrev pub by_page : List ℕ → List ℕ → List ℕ
by_page slots xs = map (λ s. slice_index xs s) slots

-- the number of each page, 0 where it has none
abbrev pub numbers_of : Slotted → List ℕ
numbers_of d = by_page d.slots d.numbers

-- the number of each page that was freed in T1, and 0 of the others
abbrev pub freed_t1_of : Slotted → List ℕ
freed_t1_of d = by_page d.slots d.freed_t1

-- the same of T2
abbrev pub freed_t2_of : Slotted → List ℕ
freed_t2_of d = by_page d.slots d.freed_t2

-- what a search knows, by its marks and the numbers that it gave
abbrev pub marks_of : Option ℕ → Option ℕ → Slotted → SearchMarks
marks_of t1 t2 d = record {
  t1 = t1;
  t2 = t2;
  numbers = numbers_of d;
  freed_t1 = freed_t1_of d;
  freed_t2 = freed_t2_of d;
}

-- What is kept of slots: nothing of slot 0, nor of a slot that is no page's.
pub record IsBySlot (slots pages xs : List ℕ) : Type 0 where
  pub size : length xs ≡ length pages
  pub none : slice_index xs 0 ≡ 0
  pub owned : (s : ℕ) → 0 < slice_index xs s → slice_index slots (slice_index pages s) ≡ s

-- What holds of slots at all times.
pub record IsSlotted (d : Slotted) : Type 0 where
  -- there is one more than may be free, slot 0
  pub size : length d.pages ≡ length d.free + 1
  pub numbers : IsBySlot d.slots d.pages d.numbers
  pub freed_t1 : IsBySlot d.slots d.pages d.freed_t1
  pub freed_t2 : IsBySlot d.slots d.pages d.freed_t2
  -- a page's slot is there, and is that page's alone
  pub below : (x : ℕ) → slice_index d.slots x < length d.pages
  pub known : (x : ℕ) → 0 < slice_index d.slots x → slice_index d.pages (slice_index d.slots x) ≡ x
  -- a page has a slot only while it has a number
  pub numbered : (x : ℕ) → 0 < slice_index d.slots x → 0 < slice_index d.numbers (slice_index d.slots x)
  -- the free slots differ, and are no page's
  pub free : (k : ℕ) → k < d.spare → (0 < slice_index d.free k) × (slice_index d.free k < length d.pages)
  pub nobodys : (k x : ℕ) → k < d.spare → slice_index d.slots x ≢ slice_index d.free k
  pub differ : (j k : ℕ) → j < k → k < d.spare → slice_index d.free j ≢ slice_index d.free k
  -- the slots that aren't free are as many as the pages that have one
  pub used : sum_by counts d.slots + d.spare ≡ length d.free

-- the fields, with the vectors as lists
abbrev pub slotted_of : Inside → Slotted
slotted_of d = record {
  slots = d.slots.items;
  pages = d.pages.items;
  numbers = d.numbers.items;
  freed_t1 = d.freed_t1;
  freed_t2 = d.freed_t2;
  free = d.free.items;
  spare = d.spare;
}
