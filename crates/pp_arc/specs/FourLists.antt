-- ARC's four lists, the most recent page first, and its target.
-- (Megiddo and Modha, "ARC: A Self-Tuning, Low Overhead Replacement Cache", FAST 2003, sections III and IV.)
use Rattle.std.specs.Prelude.{ℕ, ◌+◌, Bool, ◌||◌, List, [], length, Option, None, Some, option_and_then, if◌then◌else◌}
use Rattle.pp_arc.specs.declared.list.List.{List as ListName}
use Rattle.pp_arc.specs.declared.list.List.TheVariants.{T1, T2, B1, B2}
use Rattle.pp_arc.specs.Pages.{contains, times_in, next_after}

-- T1 and T2 name the cached pages: T1 those asked for once lately, T2 those asked for again, or brought back.
-- B1 and B2 only remember names: of pages that left T1, and of pages that left T2.
pub record FourLists : Type 0 where
  -- how many pages the cache holds
  pub c : ℕ
  -- every page number is below this one
  pub pages : ℕ
  -- the size that T1 should have; the figure's p
  pub target : ℕ
  pub t1 : List ℕ
  pub t2 : List ℕ
  pub b1 : List ℕ
  pub b2 : List ℕ

-- nothing is cached, nothing is remembered, and the target is 0
abbrev pub empty_lists : ℕ → ℕ → FourLists
empty_lists c pages = record { c = c; pages = pages; target = 0; t1 = []; t2 = []; b1 = []; b2 = [] }

-- the list of this name
abbrev pub list_of : FourLists → ListName → List ℕ
list_of s T1 = s.t1
list_of s T2 = s.t2
list_of s B1 = s.b1
list_of s B2 = s.b2

-- |T1| + |T2|
abbrev pub cached_count : FourLists → ℕ
cached_count s = length s.t1 + length s.t2

-- |T1| + |B1|, those asked for once lately
abbrev pub recent_count : FourLists → ℕ
recent_count s = length s.t1 + length s.b1

-- |T1| + |T2| + |B1| + |B2|
abbrev pub total_count : FourLists → ℕ
total_count s = length s.t1 + length s.t2 + length s.b1 + length s.b2

-- how often x stands in the four lists together
abbrev pub times_named : FourLists → ℕ → ℕ
times_named s x = times_in s.t1 x + times_in s.t2 x + times_in s.b1 x + times_in s.b2 x

-- whether x is cached: whether it stands in T1 or T2
abbrev pub is_cached : FourLists → ℕ → Bool
is_cached s x = contains s.t1 x || contains s.t2 x

-- the list in which x stands
abbrev pub place : FourLists → ℕ → Option ListName
place s x =
    if contains s.t1 x then Some T1
    else if contains s.t2 x then Some T2
    else if contains s.b1 x then Some B1
    else if contains s.b2 x then Some B2
    else None

-- the next less recent page of the list in which x stands
abbrev pub after : FourLists → ℕ → Option ℕ
after s x = option_and_then (λ list. next_after (list_of s list) x) (place s x)
