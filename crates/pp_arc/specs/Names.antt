-- How pages get nodes of the links: a page has a node only while it stands in a list.
use Rattle.std.specs.Prelude.{◌≡◌, ◌≢◌, ℕ, ◌+◌, ◌^◌, ◌<◌, ◌≤◌, List, map, length, slice_index, sum_by}
use Rattle.pp_arc.specs.declared.named.NamedLinks.TheInside.{Inside}
use Rattle.pp_arc.specs.FourLists.{FourLists, times_named, total_count}
use Rattle.pp_arc.specs.Passed.{counts}

-- what is kept of pages, of nodes, and of the nodes that no page has
pub record Naming : Type 0 where
  -- at place x one more than the node of page x; 0 where it has none
  pub names : List ℕ
  -- at place n the page of node n; of a free node it means nothing
  pub pages : List ℕ
  -- its first `spare` are the free nodes, the one that is taken next last
  pub free : List ℕ
  pub spare : ℕ
  -- the four lists, of nodes
  pub links : FourLists

-- the pages of these nodes
abbrev pub pages_at : List ℕ → List ℕ → List ℕ
pages_at pages nodes = map (λ n. slice_index pages n) nodes

-- Four lists of nodes, each node's page in its place. They are of page numbers below `count`, for a cache of as many
-- pages as there are nodes, whose target is 0.
abbrev pub lists_at : ℕ → List ℕ → FourLists → FourLists
lists_at count pages s = record {
  c = length pages;
  pages = count;
  target = 0;
  t1 = pages_at pages s.t1;
  t2 = pages_at pages s.t2;
  b1 = pages_at pages s.b1;
  b2 = pages_at pages s.b2;
}

-- the four lists of pages
abbrev pub lists_named : Naming → FourLists
lists_named d = lists_at (length d.names) d.pages d.links

-- Page x has node n.
pub record HasNode (d : Naming) (x n : ℕ) : Type 0 where
  pub name : slice_index d.names x ≡ n + 1
  pub page : slice_index d.pages n ≡ x
  pub stands : 1 ≤ times_named d.links n

-- The first `spare` of this list are the free nodes: they differ and stand nowhere, and all others stand in the lists.
pub record AreFree (s : FourLists) (nodes spare : ℕ) (free : List ℕ) : Type 0 where
  pub below : (k : ℕ) → k < spare → slice_index free k < nodes
  pub nowhere : (k : ℕ) → k < spare → times_named s (slice_index free k) ≡ 0
  pub differ : (j k : ℕ) → j < k → k < spare → slice_index free j ≢ slice_index free k
  pub count : spare + total_count s ≡ nodes

-- What holds of names at all times.
pub record IsNaming (d : Naming) : Type 0 where
  pub nodes : d.links.pages ≡ length d.pages
  pub room : d.links.c ≡ length d.pages
  pub stack : length d.free ≡ length d.pages
  pub fits : length d.pages + 4 ≤ 2 ^ 32
  -- each node stands once at most, and is below their count
  pub once : (n : ℕ) → times_named d.links n ≤ 1
  pub below : (n : ℕ) → 1 ≤ times_named d.links n → n < length d.pages
  -- names lead to nodes that stand, and each of these is the node of its page
  pub known : (x n : ℕ) → slice_index d.names x ≡ n + 1 → HasNode d x n
  pub named : (n : ℕ) → 1 ≤ times_named d.links n → HasNode d (slice_index d.pages n) n
  pub free : AreFree d.links (length d.pages) d.spare d.free
  -- the nodes that aren't free are as many as the pages that have a name
  pub used : sum_by counts d.names + d.spare ≡ length d.pages

-- the fields, with the vectors as lists
abbrev pub naming_of : Inside → Naming
naming_of d = record {
  names = d.names.items;
  pages = d.pages.items;
  free = d.free.items;
  spare = d.spare;
  links = d.links;
}
