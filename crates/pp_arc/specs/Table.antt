-- How a table of linked records keeps the four lists.
--
-- Node p below `pages` is that of page p; the four nodes behind them are those of the heads, one of each list.
-- Each list is a ring: from its head over its pages, the most recent first, and back to its head.
use Rattle.std.specs.Prelude.{◌≡◌, ℕ, zero, suc, ◌+◌, ◌^◌, ◌<◌, ◌≤◌, ◌⊎◌, List, [], ◌∷◌, length, Option, None, Some}
use Rattle.std.specs.Prelude.{slice_index, slice_index_or}
use Rattle.pp_arc.specs.declared.list.List.{List as ListName}
use Rattle.pp_arc.specs.declared.list.List.TheVariants.{T1, T2, B1, B2}
use Rattle.pp_arc.specs.declared.links.Record.{Record}
use Rattle.pp_arc.specs.declared.links.Links.TheInside.{Inside}
use Rattle.pp_arc.specs.Pages.{times_in}
use Rattle.pp_arc.specs.FourLists.{FourLists, list_of}
use Rattle.pp_arc.specs.Links.{code}

-- the n nodes that follow a node
abbrev pub follow : (ℕ → ℕ) → ℕ → ℕ → List ℕ
follow after zero node = []
follow after (suc n) node = after node ∷ follow after n (after node)

-- from node a over the pages to node b, each leads to the next and back
abbrev pub Linked : (ℕ → ℕ) → (ℕ → ℕ) → ℕ → List ℕ → ℕ → Type 0
Linked after before a [] b = (after a ≡ b) × (before b ≡ a)
Linked after before a (x ∷ xs) b = (after a ≡ x) × (before x ≡ a) × Linked after before x xs b

-- what the records say of each node
pub record Table : Type 0 where
  pub pages : ℕ
  -- the list whose page or head it is
  pub tag : ℕ → Option ListName
  pub after : ℕ → ℕ
  pub before : ℕ → ℕ

-- the node of a list's head
abbrev pub head_at : ℕ → ListName → ℕ
head_at pages list = pages + code list

-- the record of a page that stands in no list
abbrev pub blank : Record
blank = record { list = None; before = 0; after = 0 }

-- what a table says of where a page stands: nowhere in this list, or once, and then it is tagged by it
abbrev pub StandsOnce : Table → FourLists → ListName → ℕ → Type 0
StandsOnce t s list x =
    (times_in (list_of s list) x ≡ 0) ⊎ ((times_in (list_of s list) x ≡ 1) × (t.tag x ≡ Some list) × (x < t.pages))

-- a table shows four lists
pub record Shows (t : Table) (s : FourLists) : Type 0 where
  -- there is room for each page number; it knows no target, which is 0 here
  pub sizes : s ≡ record s { c = t.pages; pages = t.pages; target = 0 }
  -- each head is tagged by its list
  pub heads : (list : ListName) → t.tag (head_at t.pages list) ≡ Some list
  -- each list is a ring
  pub rings : (list : ListName)
      → Linked t.after t.before (head_at t.pages list) (list_of s list) (head_at t.pages list)
  -- what stands in a list stands there once, and is a page that is tagged by it
  pub stands : (list : ListName) (x : ℕ) → StandsOnce t s list x
  -- a page that is tagged by a list stands in it
  pub tagged : (list : ListName) (x : ℕ) → x < t.pages → t.tag x ≡ Some list → times_in (list_of s list) x ≡ 1

-- the table of a list of records
abbrev pub table_of : ℕ → List Record → Table
table_of pages records = record {
  pages = pages;
  tag = λ i. (slice_index_or records i blank).list;
  after = λ i. (slice_index_or records i blank).after;
  before = λ i. (slice_index_or records i blank).before;
}

-- the fields, and the vector's records as a list
pub record Content : Type 0 where
  pub pages : ℕ
  pub records : List Record
  pub counts : List ℕ

abbrev pub content_of : Inside → Content
content_of d = record { pages = d.pages; records = d.records.items; counts = d.counts }

-- how many pages a list has
abbrev pub count_in : Content → ListName → ℕ
count_in d list = slice_index d.counts (code list)

-- the pages of a list: as many as its count says, from its head on
abbrev pub pages_in : Content → ListName → List ℕ
pages_in d list = follow (table_of d.pages d.records).after (count_in d list) (head_at d.pages list)

-- the four lists, of a cache of as many pages as there are page numbers, whose target is 0
abbrev pub lists_in : Content → FourLists
lists_in d = record {
  c = d.pages;
  pages = d.pages;
  target = 0;
  t1 = pages_in d T1;
  t2 = pages_in d T2;
  b1 = pages_in d B1;
  b2 = pages_in d B2;
}

pub record IsSound (d : Content) : Type 0 where
  -- a record for each page and each head, whose numbers fit 32 bits
  pub size : length d.records ≡ d.pages + 4
  pub fits : d.pages + 4 ≤ 2 ^ 32
  pub shows : Shows (table_of d.pages d.records) (lists_in d)
