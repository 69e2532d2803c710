-- The JSON value that is written for a certificate. For private clauses.
use Rattle.std.specs.Prelude.{List, [], ◌∷◌, map, codes}
use Rattle.serde_json.specs.Data.{unsigned, Data, number, string, array, object, no_items, item, Members, no_members}
use Rattle.serde_json.specs.Data.{member}
use Rattle.serde_json.specs.View.{items_of}
use Rattle.pp_settings.specs.Settings.{Configuration}
use Rattle.pp_plan.specs.Terms.{Terms}
use Rattle.pp_plan.specs.Writing.{slot_name, region_name}
use Rattle.pp_cert.specs.declared.note.Entry.{Entry}
use Rattle.pp_cert.specs.declared.note.Entry.TheVariants.{Slot, Bundle}
use Rattle.pp_cert.specs.Notes.{entry_slot}
use Rattle.pp_cert.specs.Claims.{Claims}
use Rattle.pp_cert.specs.Words.{held_text}

-- The value at a slot's name.
abbrev pub entry_tree : Configuration → Entry → Data
entry_tree c (Slot s r h) = array (item (string (region_name c r)) (item (string (held_text h)) no_items))
entry_tree c (Bundle s k) = number (unsigned k)

-- One member for each entry, in the same order.
abbrev pub entry_members : Configuration → Terms → List Entry → Members
entry_members c p [] = no_members
entry_members c p (e ∷ es) = member (slot_name p.slots (entry_slot e)) (entry_tree c e) (entry_members c p es)

abbrev pub note_tree : Configuration → Terms → List Entry → Data
note_tree c p note = object (entry_members c p note)

-- The members of the certificate's object.
abbrev pub certificate_members : Configuration → Terms → Claims → Members
certificate_members c p t =
    member (codes "notes") (array (items_of (map (note_tree c p) t.notes)))
    (member (codes "peak") (number (unsigned t.peak)) (member (codes "steps") (number (unsigned t.steps)) no_members))
