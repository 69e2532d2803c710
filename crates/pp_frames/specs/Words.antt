-- How a set of numbers is kept: a bit for each number, 64 to a word, and above that the set of the words that have a
-- bit.
use Rattle.std.specs.Prelude.{◌≡◌, ℕ, ◌*◌, ◌/◌, ◌%◌, ◌^◌, ◌<◌, ◌≤◌, ◌==◌, nat_lt, Bool, false, List, map, length}
use Rattle.std.specs.Prelude.{slice_index_or}
use Rattle.std.specs.Int.{bit_at}
use Rattle.std.specs.List.{range_with_len}
use Rattle.pp_frames.specs.declared.number_set.Above.{Above}
use Rattle.pp_frames.specs.declared.number_set.Above.TheVariants.{Nothing, Words}

-- Whether the word has this bit.
abbrev pub has_bit : ℕ → ℕ → Bool
has_bit word bit = bit_at word bit == 1

-- Whether the number's bit is set: number n is bit n % 64 of word n / 64.
abbrev pub is_set : List ℕ → ℕ → Bool
is_set words number = has_bit (slice_index_or words (number / 64) 0) (number % 64)

-- The set that the words spell.
abbrev pub members_of : ℕ → List ℕ → List Bool
members_of limit words = map (is_set words) (range_with_len 0 limit)

-- There are words for all numbers below the limit, and no bit is set from the limit on.
pub record IsSpelled (limit : ℕ) (words : List ℕ) : Type 0 where
  pub limit_fits : limit < 2 ^ 32
  pub words_fit : (place : ℕ) → slice_index_or words place 0 < 2 ^ 64
  pub room : limit ≤ 64 * length words
  pub past : (number : ℕ) → limit ≤ number → is_set words number ≡ false

-- A set says of each word whether it has a bit.
pub record IsSummary (limit : ℕ) (words : List ℕ) (above : List Bool) : Type 0 where
  pub fewer : length words < limit
  pub each : length above ≡ length words
  pub says : (place : ℕ) → slice_index_or above place false ≡ nat_lt 0 (slice_index_or words place 0)

-- The level above is such a set, or there is at most one word.
abbrev pub IsSummed : ℕ → List ℕ → Above → Type 0
IsSummed limit words Nothing = length words ≤ 1
IsSummed limit words (Words above) = IsSummary limit words above.value
