-- The words of a certificate's text.
use Rattle.std.specs.Prelude.{ℕ, List, [], ◌∷◌, codes, if◌then◌else◌, Option, Some, None}
use Rattle.std.specs.Str.{bytes_eq}
use Rattle.pp_cert.specs.declared.note.Held.{Held}
use Rattle.pp_cert.specs.declared.note.Held.TheVariants.{Free, S, X}

-- How a page is held, as a text writes it.
abbrev pub held_text : Held → List ℕ
held_text Free = codes "-"
held_text S = codes "S"
held_text X = codes "X"

-- What a text says of how a page is held, if it is one of the three.
abbrev pub held_of : List ℕ → Option Held
held_of text =
    if bytes_eq text (codes "-")
    then Some Free
    else (if bytes_eq text (codes "S") then Some S else (if bytes_eq text (codes "X") then Some X else None))

-- The keys of a certificate's object.
abbrev pub certificate_keys : List (List ℕ)
certificate_keys = codes "notes" ∷ codes "peak" ∷ codes "steps" ∷ []
