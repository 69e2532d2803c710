-- The text of a certificate: without white space, keys in byte order.
use Rattle.std.specs.Prelude.{ℕ, List, [], ◌∷◌, ◌++◌, map, codes}
use Rattle.std.specs.Fmt.{decimal}
use Rattle.pp_text.specs.Words.{in_quotes, with_commas, in_brackets}
use Rattle.pp_settings.specs.Settings.{Configuration}
use Rattle.pp_plan.specs.Terms.{Terms}
use Rattle.pp_plan.specs.Writing.{slot_name, region_name}
use Rattle.pp_cert.specs.declared.note.Entry.{Entry}
use Rattle.pp_cert.specs.declared.note.Entry.TheVariants.{Slot, Bundle}
use Rattle.pp_cert.specs.Notes.{entry_slot}
use Rattle.pp_cert.specs.Claims.{Claims}
use Rattle.pp_cert.specs.Words.{held_text}

-- The value at a slot's name, as in `["root","-"]`; of a bundle its bound.
abbrev pub value_text : Configuration → Entry → List ℕ
value_text c (Slot s r h) = in_brackets (in_quotes (region_name c r) ∷ in_quotes (held_text h) ∷ [])
value_text c (Bundle s k) = decimal k

-- An entry, as in `"a":["root","-"]`.
abbrev pub entry_text : Configuration → Terms → Entry → List ℕ
entry_text c p e = in_quotes (slot_name p.slots (entry_slot e)) ++ codes ":" ++ value_text c e

-- A note, as in `{"a":["root","S"],"b":["leaf","-"]}`.
abbrev pub note_text : Configuration → Terms → List Entry → List ℕ
note_text c p note = codes "{" ++ with_commas (map (entry_text c p) note) ++ codes "}"

-- A certificate, as in `{"notes":[{},{}],"peak":0,"steps":0}`.
abbrev pub certificate_text : Configuration → Terms → Claims → List ℕ
certificate_text c p t =
    codes "{\"notes\":"
    ++ in_brackets (map (note_text c p) t.notes)
    ++ codes ",\"peak\":"
    ++ decimal t.peak
    ++ codes ",\"steps\":"
    ++ decimal t.steps
    ++ codes "}"
