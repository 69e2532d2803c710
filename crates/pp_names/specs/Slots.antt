-- How the slots of a table stand for the keys of its names: open addressing with linear probing, in slots that go round.
-- (Knuth, The Art of Computer Programming, volume 3, section 6.4.)
use Rattle.std.specs.Prelude.{◌≡◌, ◌≢◌, ℕ, ◌+◌, ◌-◌, ◌*◌, ◌/◌, ◌%◌, ◌^◌, ◌<◌, ◌≤◌, ◌==◌, Bool, not, ltb, if◌then◌else◌}
use Rattle.std.specs.Prelude.{List, length, count_by, slice_index_or}

-- the number that stands for no name and for no key
abbrev pub none : ℕ
none = 4294967295

-- what stands at a place of a list: no name, or no key, behind the last one
abbrev pub at : List ℕ → ℕ → ℕ
at xs i = slice_index_or xs i none

abbrev pub is_full : ℕ → Bool
is_full x = not (x == none)

-- where the search for a key begins where there are so many names
abbrev pub home_of : ℕ → ℕ → ℕ
home_of names key = key * 2654435769 % 2 ^ 32 * names / 2 ^ 31

-- the next of so many slots: behind the last one comes the first
abbrev pub next_of : ℕ → ℕ → ℕ
next_of size place = if ltb (place + 1) size then place + 1 else 0

-- how many steps lead from one of so many slots to another
abbrev pub distance_of : ℕ → ℕ → ℕ → ℕ
distance_of size from to = if ltb to from then size - from + to else to - from

-- The slots have the names that have a key, and each is found from its key's home on.
pub record IsLaid (size : ℕ) (home key slot : ℕ → ℕ) : Type 0 where
  -- a name in a slot has a key
  pub named : (i : ℕ) → slot i ≢ none → key (slot i) ≢ none
  -- no slot on the way from its key's home to it is empty
  pub no_gap : (i j : ℕ) → slot i ≢ none → j < size
      → distance_of size (home (key (slot i))) j ≤ distance_of size (home (key (slot i))) i → slot j ≢ none
  -- it stands in no other slot
  pub once : (i j : ℕ) → slot i ≢ none → slot i ≡ slot j → i ≡ j
  -- a name that has a key stands in a slot
  pub placed : (name : ℕ) → key name ≢ none → (i : ℕ) × (slot i ≡ name)

-- A table of names and their keys.
pub record IsTable (keys slots : List ℕ) : Type 0 where
  -- there is one slot more than two for each name, so that one is always empty
  pub size : length slots ≡ 2 * length keys + 1
  pub fits : length keys < none
  -- as many slots are full as names have a key
  pub count : count_by is_full slots ≡ count_by is_full keys
  pub laid : IsLaid (length slots) (home_of (length keys)) (at keys) (at slots)
