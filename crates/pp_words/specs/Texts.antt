-- Texts that end with a line feed.
use Rattle.std.specs.Prelude.{◌≡◌, ◌⊎◌, ℕ, Bool, true, List, [], ◌∷◌, ◌++◌, if◌then◌else◌, nat_eq, string_bytes, ⊤}
use Rattle.std.specs.List.{ends_with}
use Rattle.pp_shown.specs.Shown.{shown_lines, shown_path}
use Rattle.pp_words.specs.declared.request.JobError.{JobError}
use Rattle.pp_words.specs.declared.request.JobError.TheVariants.{Shown, Words, OutOfMemory}

-- the last byte is a line feed
abbrev pub is_ended : List ℕ → Bool
is_ended text = ends_with nat_eq text (10 ∷ [])

-- the text, with a line feed behind it where it has none at its end
abbrev pub with_line_feed : List ℕ → List ℕ
with_line_feed text = if is_ended text then text else text ++ 10 ∷ []

-- some text as its lines are shown, or as a path is, with a line feed at its end
abbrev pub IsShownText : List ℕ → Type 0
IsShownText text = (said : List ℕ)
    × ((text ≡ with_line_feed (shown_lines said)) ⊎ (text ≡ with_line_feed (shown_path said)))

-- what is to be told of the words ends with a line feed, and a mistake shows nothing of them that isn't printable
-- but line feeds
abbrev pub IsSaid : JobError → Type 0
IsSaid (Shown text) = is_ended (string_bytes text) ≡ true
IsSaid (Words text) = (is_ended (string_bytes text) ≡ true) × IsShownText (string_bytes text)
IsSaid OutOfMemory = ⊤
