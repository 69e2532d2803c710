-- A node of the index, as the body of a page has it.
use Rattle.std.specs.Prelude.{◌≡◌, ◌≢◌, ℕ, ◌+◌, ◌*◌, ◌<◌, ◌≤◌, min, List, map, take, drop}
use Rattle.std.specs.List.{range_with_len}
use Rattle.std.specs.Int.{w32, from_be_bytes}
use Rattle.pp_example.specs.declared.node.Entry.{Entry}

-- The number that stands in four bytes, of which this is the first, big-endian.
unfoldable pub word_at : List ℕ → ℕ → ℕ
word_at body at = from_be_bytes w32 (take 4 (drop at body))

-- How many nodes stand below this one on the way to a value: 0 of a leaf.
abbrev pub height_of : List ℕ → ℕ
height_of body = word_at body 0

-- How many entries the node has. No node has more than five.
abbrev pub count_of : List ℕ → ℕ
count_of body = min (word_at body 4) 5

-- The key of an entry. Entries are numbered from 0.
abbrev pub key_at : List ℕ → ℕ → ℕ
key_at body i = word_at body (8 + 8 * i)

-- The value of an entry: in a leaf the value of the key, in another node the page of a child.
abbrev pub value_at : List ℕ → ℕ → ℕ
value_at body i = word_at body (12 + 8 * i)

-- All entries, in order.
abbrev pub entries_of : List ℕ → List Entry
entries_of body = map (λ i. record { key = key_at body i; value = value_at body i }) (range_with_len 0 (count_of body))

-- Of the first n entries, the last whose key isn't above this one has this value. Each child has the keys from its
-- own on, up to that of the next child.
pub record LeadsTo (body : List ℕ) (n key value : ℕ) : Type 0 where
  pub place : ℕ
  pub within : place < n
  pub reached : key_at body place ≤ key
  pub last : (i : ℕ) → place < i → i < n → key < key_at body i
  pub leads : value ≡ value_at body place

-- The keys of the first n entries are all above this one.
abbrev pub AreAbove : List ℕ → ℕ → ℕ → Type 0
AreAbove body n key = (i : ℕ) → i < n → key < key_at body i

-- None of the first n entries has this key.
abbrev pub AreOthers : List ℕ → ℕ → ℕ → Type 0
AreOthers body n key = (i : ℕ) → i < n → key_at body i ≢ key

-- An entry of the node has this key and this value.
pub record HasEntry (body : List ℕ) (key value : ℕ) : Type 0 where
  pub place : ℕ
  pub within : place < count_of body
  pub its_key : key_at body place ≡ key
  pub its_value : value_at body place ≡ value

-- An entry with this key has another value, and nothing else of the node has changed.
pub record SetsValue (old new : List ℕ) (key value : ℕ) : Type 0 where
  pub place : ℕ
  pub within : place < count_of old
  pub its_key : key_at old place ≡ key
  pub its_value : value_at new place ≡ value
  pub height : height_of new ≡ height_of old
  pub count : count_of new ≡ count_of old
  pub keys : (i : ℕ) → key_at new i ≡ key_at old i
  pub values : (i : ℕ) → i ≢ place → value_at new i ≡ value_at old i

-- The node has one entry more, behind the others, which have stayed.
pub record Gains (old new : List ℕ) (key value : ℕ) : Type 0 where
  pub height : height_of new ≡ height_of old
  pub count : count_of new ≡ count_of old + 1
  pub keys : (i : ℕ) → i < count_of old → key_at new i ≡ key_at old i
  pub values : (i : ℕ) → i < count_of old → value_at new i ≡ value_at old i
  pub added_key : key_at new (count_of old) ≡ key
  pub added_value : value_at new (count_of old) ≡ value
