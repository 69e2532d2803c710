-- Numbers, exactly as they are printed: decimal, without leading zeros and without a sign.
use Rattle.std.specs.Prelude.{ℕ, ◌^◌, ◌&&◌, nat_lt, List, Option, Some, None, if◌then◌else◌, option_and_then}
use Rattle.std.specs.Str.{bytes_eq}
use Rattle.std.specs.Str.Parse.{digits_value}
use Rattle.std.specs.Fmt.{decimal}

-- The number of 64 bits that prints as the word.
unfoldable pub number_in : List ℕ → Option ℕ
number_in word =
    if bytes_eq (decimal (digits_value 10 word)) word && nat_lt (digits_value 10 word) (2 ^ 64)
    then Some (digits_value 10 word) else None

-- The number, if it has 32 bits.
abbrev pub of_32_bits : ℕ → Option ℕ
of_32_bits n = if nat_lt n (2 ^ 32) then Some n else None

-- The number of 32 bits that prints as the word.
abbrev pub small_number : List ℕ → Option ℕ
small_number word = option_and_then of_32_bits (number_in word)
