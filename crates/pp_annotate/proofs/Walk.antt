-- What is left of a list of notes, one further.
use Rattle.std.proofs.Common.{◌≡◌, ℕ, ◌+◌, ◌<◌, List, length, get_or, drop, max, refl, add-one, drop-cons}
use Rattle.pp_cert.specs.Notes.{Entries, note_pins}
use Rattle.pp_cert.proofs.Places.{sequence_of-drop, alternatives_of-drop, stmt_falls, body_falls}
use Rattle.pp_annotate.specs.Made.{greatest}

pub greatest-drop : (ns : List Entries) (i : ℕ) (n : Entries) → n ≡ get_or ns i n → i < length ns
    → greatest (drop i ns) ≡ max (note_pins n) (greatest (drop (i + 1) ns))
greatest-drop ns i n e h = rw (add-one, drop-cons ns i n, ← e) refl

pub ruleset walks = (greatest-drop, sequence_of-drop, alternatives_of-drop, stmt_falls, body_falls)
