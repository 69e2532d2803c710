-- What the steps of a table of links do to the four lists.
use Rattle.std.specs.Prelude.{◌≡◌, ℕ, ◌+◌, ◌^◌, ◌<◌, ◌≤◌, ◌⊎◌, List, ◌∷◌, take, nat_lt, Option, None, Some, IsTrue}
use Rattle.std.specs.Prelude.{if◌then◌else◌}
use Rattle.pp_arc.specs.declared.list.List.{List as ListName}
use Rattle.pp_arc.specs.declared.list.List.TheVariants.{T1, T2, B1, B2}
use Rattle.pp_arc.specs.Pages.{contains, behind, without_last}
use Rattle.pp_arc.specs.FourLists.{FourLists, list_of, place, times_named, total_count}

-- the number of a list among the four
abbrev pub code : ListName → ℕ
code T1 = 0
code T2 = 1
code B1 = 2
code B2 = 3

-- x goes to the front of the list of this name
abbrev pub with_front : FourLists → ListName → ℕ → FourLists
with_front s T1 x = record s { t1 = x ∷ s.t1 }
with_front s T2 x = record s { t2 = x ∷ s.t2 }
with_front s B1 x = record s { b1 = x ∷ s.b1 }
with_front s B2 x = record s { b2 = x ∷ s.b2 }

-- the list of this name loses its last page
abbrev pub without_last_of : FourLists → ListName → FourLists
without_last_of s T1 = record s { t1 = without_last s.t1 }
without_last_of s T2 = record s { t2 = without_last s.t2 }
without_last_of s B1 = record s { b1 = without_last s.b1 }
without_last_of s B2 = record s { b2 = without_last s.b2 }

-- the list of this name is this one
abbrev pub with_list : FourLists → ListName → List ℕ → FourLists
with_list s T1 xs = record s { t1 = xs }
with_list s T2 xs = record s { t2 = xs }
with_list s B1 xs = record s { b1 = xs }
with_list s B2 xs = record s { b2 = xs }

-- the list of this name keeps its first n pages
abbrev pub with_first : FourLists → ListName → ℕ → FourLists
with_first s list n = with_list s list (take n (list_of s list))

-- the page of a node, which is the node's number; a node from `pages` on is a head's, and has none
abbrev pub page_at : ℕ → ℕ → Option ℕ
page_at pages node = if nat_lt node pages then Some node else None

-- the lists of s, where t has its own
abbrev pub with_lists_of : FourLists → FourLists → FourLists
with_lists_of t s = record t { t1 = s.t1; t2 = s.t2; b1 = s.b1; b2 = s.b2 }

-- Where o is one, it stands in the list of n, next before it.
abbrev pub SomeAhead : FourLists → ℕ → Option ℕ → Type 0
SomeAhead s n o = (l : ListName) (m : ℕ) → place s n ≡ Some l → o ≡ Some m
    → (IsTrue (contains (list_of s l) m)) × (behind (list_of s l) m ≡ n ∷ behind (list_of s l) n)

-- Where o is none, n stands at the front of its list.
abbrev pub NoneAhead : FourLists → ℕ → Option ℕ → Type 0
NoneAhead s n o = (l : ListName) → place s n ≡ Some l → o ≡ None → list_of s l ≡ n ∷ behind (list_of s l) n

-- The pages of s may go into the lists of t.
pub record FitsInto (s t : FourLists) : Type 0 where
  -- they are below its page numbers
  pub below : (x : ℕ) → 0 < times_named s x → x < t.pages
  -- each stands once at most, in both together
  pub apart : (x : ℕ) → times_named s x + times_named t x ≤ 1
  -- so few stand in both that 64 bits count them
  pub short : total_count s + total_count t < 2 ^ 63
  -- there is room for all of them, or for as many as there are page numbers
  pub room : (total_count s + total_count t ≤ t.c) ⊎ (t.pages ≤ t.c)
