-- How the names that have no key are kept.
use Rattle.std.specs.Prelude.{◌≡◌, ℕ, ◌+◌, ◌<◌, ◌≤◌, ◌==◌, Option, is_some, List, length, drop, count_by, if◌then◌else◌, Bool}
use Rattle.pp_names.specs.Names.{key_of, named_count}

-- how often a name stands in a list
abbrev pub times_in : List ℕ → ℕ → ℕ
times_in xs name = count_by (λ x. x == name) xs

-- one, or none
abbrev pub one_if : Bool → ℕ
one_if b = if b then 1 else 0

-- Each name has a key, or stands once behind the first `used` of an order.
pub record IsOrdered (names : List (Option ℕ)) (order : List ℕ) (used : ℕ) : Type 0 where
  pub size : length order ≡ length names
  pub fits : length names < 4294967295
  pub named : used ≡ named_count names
  pub once : (name : ℕ) → name < length names
      → times_in (drop used order) name + one_if (is_some (key_of names name)) ≡ 1
  pub never : (name : ℕ) → length names ≤ name → times_in (drop used order) name ≡ 0

-- The longer list begins with the other, and goes on with the names from that one's length on, each once.
pub record IsLengthened (order longer : List ℕ) (names : ℕ) : Type 0 where
  pub size : length longer ≡ names
  pub old : (used name : ℕ) → used ≤ length order → name < length order
      → times_in (drop used longer) name ≡ times_in (drop used order) name
  pub new : (used name : ℕ) → used ≤ length order → length order ≤ name → name < names
      → times_in (drop used longer) name ≡ times_in (drop used order) name + 1
  pub past : (used name : ℕ) → used ≤ length order → names ≤ name
      → times_in (drop used longer) name ≡ times_in (drop used order) name
