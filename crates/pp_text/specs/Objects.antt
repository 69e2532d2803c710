-- What stands in a JSON object, as tests and as facts, and in a JSON list.
use Rattle.std.specs.Prelude.{◌≡◌, ℕ, List, [], ◌∷◌, Contains, Bool, true, false, ◌&&◌, Some}
use Rattle.std.specs.Option.{option_map_or}
use Rattle.std.specs.List.{list_any}
use Rattle.std.specs.Str.{bytes_eq}
use Rattle.serde_json.specs.Data.{Data, object, Items, no_items, item, Members, no_members, member}
use Rattle.serde_json.specs.Find.{get, get_member, as_object}

-- ---- tests

-- The key is one of these.
abbrev pub is_one_of : List (List ℕ) → List ℕ → Bool
is_one_of known key = list_any (bytes_eq key) known

-- Each key of the members passes the test.
abbrev pub keys_are : (List ℕ → Bool) → Members → Bool
keys_are test no_members = true
keys_are test (member k d ms) = test k && keys_are test ms

-- The value is an object, and each of its keys is one of these.
abbrev pub has_only_keys : List (List ℕ) → Data → Bool
has_only_keys known d = option_map_or (keys_are (is_one_of known)) (as_object d) false

-- ---- facts

-- Each key of the members is one of these.
abbrev pub AreAmong : List (List ℕ) → Members → Type 0
AreAmong known no_members = Unit {0}
AreAmong known (member k d ms) = Contains known k × AreAmong known ms

-- The value is an object, and each of its keys is one of these.
abbrev pub HasOnly : List (List ℕ) → Data → Type 0
HasOnly known d = (ms : Members) × (d ≡ object ms) × AreAmong known ms

-- The value is an object that has this value at the key.
abbrev pub Holds : Data → List ℕ → Data → Type 0
Holds d key v = get key d ≡ Some v

-- ---- lists

-- The values of a list.
abbrev pub elements : Items → List Data
elements no_items = []
elements (item d ds) = d ∷ elements ds
