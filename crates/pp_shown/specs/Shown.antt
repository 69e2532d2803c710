-- How a text that isn't the program's own is shown on a terminal.
use Rattle.std.specs.Prelude.{ℕ, Bool, false, List, [], ◌++◌, ◌&&◌, ◌||◌, ◌==◌, nat_le, nat_lt, codes, if◌then◌else◌, length, not, take}
use Rattle.std.specs.Char.{encode_utf8}
use Rattle.std.specs.Fmt.{digits}
use Rattle.std.specs.List.{flat_map}
use Rattle.std.specs.Str.{chars}

-- the number is one of these, the first and the last with it
abbrev pub is_among : (first last n : ℕ) → Bool
is_among first last n = nat_le first n && nat_le n last

-- the number is that of a control character
abbrev pub is_control : ℕ → Bool
is_control n = is_among 0x0 0x1f n || is_among 0x7f 0x9f n

-- the number is that of a character that ends a line, or is there to turn the direction of writing
abbrev pub is_bidi_or_line_end : ℕ → Bool
is_bidi_or_line_end n = n == 0x61c || is_among 0x200e 0x200f n || is_among 0x2028 0x202e n || is_among 0x2066 0x2069 n

-- the number is that of another character that is there to be unseen
abbrev pub is_unseen : ℕ → Bool
is_unseen n =
    n == 0xad || n == 0x34f || is_among 0x115f 0x1160 n || is_among 0x17b4 0x17b5 n || is_among 0x180b 0x180f n
    || is_among 0x200b 0x200d n || is_among 0x2060 0x2065 n || is_among 0x206a 0x206f n || n == 0x3164
    || is_among 0xfe00 0xfe0f n || n == 0xfeff || n == 0xffa0 || is_among 0xfff0 0xfffb n || is_among 0x13430 0x1343f n
    || is_among 0x1bca0 0x1bca3 n || is_among 0x1d173 0x1d17a n || is_among 0xe0000 0xe0fff n

-- the character with this number is shown as it is
abbrev pub is_printable : ℕ → Bool
is_printable n = not (is_control n || is_bidi_or_line_end n || is_unseen n)

-- `\n`, `\r` and `\t`, and `\u{..}` with the number in hexadecimal for others
abbrev pub escaped : ℕ → List ℕ
escaped n =
    if n == 10 then codes "\\n"
    else if n == 13 then codes "\\r"
    else if n == 9 then codes "\\t"
    else codes "\\u{" ++ (digits 16 false n ++ codes "}")

-- a character as it is shown
abbrev pub shown_char : ℕ → List ℕ
shown_char n = if is_printable n then encode_utf8 n else escaped n

-- how many characters of a path are shown at most
abbrev pub most_shown : ℕ
most_shown = 4096

-- two dots where some are left out
abbrev pub dots : (are_left : Bool) → List ℕ
dots are_left = if are_left then codes ".." else []

-- a path as it is shown: each character for itself, and two dots behind the 4,096th where there are more
abbrev pub shown_path : List ℕ → List ℕ
shown_path path = flat_map shown_char (take most_shown (chars path)) ++ dots (nat_lt most_shown (length (chars path)))

-- a character of a text of lines as it is shown: a line feed stays
abbrev pub shown_in_lines : ℕ → List ℕ
shown_in_lines n = if n == 10 then codes "\n" else shown_char n

-- a text of lines as it is shown
abbrev pub shown_lines : List ℕ → List ℕ
shown_lines text = flat_map shown_in_lines (chars text)
