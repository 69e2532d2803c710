-- How stacks are kept in linked records.
use Rattle.std.specs.Prelude.{◌≡◌, ◌<◌, ◌+◌, ◌^◌, ℕ, zero, suc, List, [], ◌∷◌, length, map, sum_by, slice_index_or}
use Rattle.pp_bundles.specs.declared.record.Record.{Record}
use Rattle.pp_bundles.specs.declared.record.Top.{Top}
use Rattle.pp_bundles.specs.declared.stacks.Stacks.TheInside.{Inside}

-- A record as it is made at first.
abbrev pub blank : Record
blank = record { page = 0; next = 0 }

-- The top of an empty stack.
abbrev pub empty : Top
empty = record { head = 0; count = 0 }

abbrev pub record_at : List Record → ℕ → Record
record_at rs i = slice_index_or rs i blank

abbrev pub top_at : List Top → ℕ → Top
top_at ts k = slice_index_or ts k empty

-- The pages of n records, from this one on.
abbrev pub walk : List Record → (head n : ℕ) → List ℕ
walk rs head zero = []
walk rs head (suc n) = (record_at rs head).page ∷ walk rs (record_at rs head).next n

-- The pages of the stack that has this top.
abbrev pub pages_under : List Record → Top → List ℕ
pages_under rs t = walk rs t.head t.count

-- The fields, with the vectors as lists.
pub record Parts : Type 0 where
  pub records : List Record
  pub tops : List Top

abbrev pub parts_of : Inside → Parts
parts_of s = record { records = s.records.items; tops = s.tops.items }

-- The stacks, each with its pages.
abbrev pub stacks_in : Parts → List (List ℕ)
stacks_in p = map (pages_under p.records) p.tops

-- The n records from this one on are of stack k, and each one has so many below it as are left.
abbrev pub IsChain : List Record → (stack below : ℕ → ℕ) → (k head n : ℕ) → Type 0
IsChain rs stack below k head zero = Unit {0}
IsChain rs stack below k head (suc n) =
    (head < length rs) × (stack head ≡ k) × (below head ≡ n) × IsChain rs stack below k (record_at rs head).next n

-- What is always true of the fields.
pub record IsKept (p : Parts) : Type 0 where
  -- the stack that each record is in, and how many records are below it there
  pub stack : ℕ → ℕ
  pub below : ℕ → ℕ
  pub chains : (k : ℕ) → k < length p.tops
      → IsChain p.records stack below k (top_at p.tops k).head (top_at p.tops k).count
  -- each record is in a stack
  pub full : sum_by (λ t. t.count) p.tops ≡ length p.records
  -- the numbers of records fit 32 bits
  pub fits : length p.records < 2 ^ 32

-- So many records with page 0, each of which leads to the next.
pub record AreChained (rs : List Record) (n : ℕ) : Type 0 where
  pub many : length rs ≡ n
  pub next : (i : ℕ) → i < n → record_at rs i ≡ record { page = 0; next = i + 1 }
