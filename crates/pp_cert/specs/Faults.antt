-- The faults of a certificate's text, each said by itself, and the order in which they are told: a refusal tells the
-- first.
use Rattle.std.specs.Prelude.{◌≡◌, ◌⊎◌, ℕ, ◌<◌, true, false, List, [], ◌∷◌, length, slice_get, Option, None, Some}
use Rattle.std.specs.Prelude.{option_and_then, codes}
use Rattle.std.specs.Option.{option_map_or}
use Rattle.serde_json.specs.Data.{Data, number, unsigned, string, array, object, Items, no_items, item, Members}
use Rattle.serde_json.specs.Data.{no_members, member}
use Rattle.serde_json.specs.Find.{get, as_array}
use Rattle.pp_text.specs.First.{IsFirstBy}
use Rattle.pp_text.specs.Objects.{HasOnly, Holds, elements}
use Rattle.pp_settings.specs.Settings.{Configuration, geometry_of, region_named}
use Rattle.pp_plan.specs.Terms.{Terms}
use Rattle.pp_plan.specs.Slots.{slot_named}
use Rattle.pp_plan.specs.Rules.{uses_bundle}
use Rattle.pp_cert.specs.declared.error.CertError.{CertError}
use Rattle.pp_cert.specs.declared.error.CertError.TheVariants.{NotJson, WrongField, UnknownName, TooMany, WrongKind}
use Rattle.pp_cert.specs.declared.note.Held.{Held}
use Rattle.pp_cert.specs.Limits.{most_notes, most_entries}
use Rattle.pp_cert.specs.Claims.{IsBound}
use Rattle.pp_cert.specs.Words.{held_text, certificate_keys}

-- ---- where notes and entries stand

-- The values in the list of notes; none where there is no such list.
abbrev pub notes_in : Data → List Data
notes_in d = option_map_or elements (option_and_then as_array (get (codes "notes") d)) []

-- An entry as it is written: a slot's name, and the value there.
pub record Written : Type 0 where
  pub name : List ℕ
  pub value : Data

-- The members of an object. The reader has put them into the byte order of their keys.
abbrev pub entries_in : Members → List Written
entries_in no_members = []
entries_in (member key d ms) = (record { name = key; value = d }) ∷ entries_in ms

-- ---- faults of one entry

-- The form of a page's entry: a list of a text and of how the page is held.
abbrev pub IsPageForm : Data → Type 0
IsPageForm d = (name : List ℕ) × (h : Held) × (d ≡ array (item (string name) (item (string (held_text h)) no_items)))

-- The form of a bundle's entry: a whole number from 1 to the greatest bound under the settings.
abbrev pub IsBundleForm : Configuration → Data → Type 0
IsBundleForm c d = (k : ℕ) × IsBound (geometry_of c) k × (d ≡ number (unsigned k))

-- The value has neither form; the plan has no slot of this name; the settings have no region of that name; the value has the
-- form of the other kind of slot.
pub data EntryFault : Type 0 where
  other_form : EntryFault
  no_slot : EntryFault
  no_region : EntryFault
  other_kind : EntryFault

abbrev pub HasEntryFault : Configuration → Terms → Written → EntryFault → Type 0
HasEntryFault c p e other_form = ¬ IsPageForm e.value × ¬ IsBundleForm c e.value
HasEntryFault c p e no_slot = slot_named p e.name ≡ None
HasEntryFault c p e no_region =
    (name : List ℕ) × (rest : Items) × (e.value ≡ array (item (string name) rest)) × (region_named c name ≡ None)
HasEntryFault c p e other_kind =
    (slot : ℕ) × (slot_named p e.name ≡ Some slot)
    × ((IsBundleForm c e.value × (uses_bundle p.body slot ≡ false))
    ⊎ (IsPageForm e.value × (uses_bundle p.body slot ≡ true)))

-- The first is told before the second.
abbrev pub EntryBefore : EntryFault → EntryFault → Type 0
EntryBefore other_form other_form = ⊥
EntryBefore other_form _ = Unit {0}
EntryBefore no_slot no_region = Unit {0}
EntryBefore no_slot other_kind = Unit {0}
EntryBefore no_region other_kind = Unit {0}
EntryBefore _ _ = ⊥

-- ---- faults of one note

-- The value is no object; it has too many entries; something is wrong with the entry of this number.
pub data NoteFault : Type 0 where
  no_object : NoteFault
  many_entries : NoteFault
  in_entry : ℕ → EntryFault → NoteFault

abbrev pub HasNoteFault : Configuration → Terms → Data → NoteFault → Type 0
HasNoteFault c p d no_object = ¬ ((ms : Members) × (d ≡ object ms))
HasNoteFault c p d many_entries = (ms : Members) × (d ≡ object ms) × (most_entries < length (entries_in ms))
HasNoteFault c p d (in_entry i f) =
    (ms : Members) × (d ≡ object ms)
    × ((e : Written) × (slice_get (entries_in ms) i ≡ Some e) × HasEntryFault c p e f)

-- The first is told before the second: entry by entry.
abbrev pub NoteBefore : NoteFault → NoteFault → Type 0
NoteBefore no_object no_object = ⊥
NoteBefore no_object _ = Unit {0}
NoteBefore many_entries (in_entry i f) = Unit {0}
NoteBefore (in_entry i f) (in_entry j g) = (i < j) ⊎ ((i ≡ j) × EntryBefore f g)
NoteBefore _ _ = ⊥

-- ---- faults of a text

-- The text is no JSON; the top is another object; there are too many notes; something is wrong with the note of this
-- number.
pub data Fault : Type 0 where
  not_json : Fault
  other_top : Fault
  many_notes : Fault
  in_note : ℕ → NoteFault → Fault

-- The value is an object of exactly a list of notes and two whole numbers.
abbrev pub IsTopForm : Data → Type 0
IsTopForm d =
    HasOnly certificate_keys d
    × ((ds : Items) × Holds d (codes "notes") (array ds))
    × ((n : ℕ) × Holds d (codes "peak") (number (unsigned n)))
    × ((n : ℕ) × Holds d (codes "steps") (number (unsigned n)))

-- A text, or the value that it is, has the fault.
abbrev pub HasFault : Configuration → Terms → Option Data → Fault → Type 0
HasFault c p None not_json = Unit {0}
HasFault c p (Some d) other_top = ¬ IsTopForm d
HasFault c p (Some d) many_notes = most_notes < length (notes_in d)
HasFault c p (Some d) (in_note n f) = (x : Data) × (slice_get (notes_in d) n ≡ Some x) × HasNoteFault c p x f
HasFault _ _ _ _ = ⊥

-- The first is told before the second: note by note.
abbrev pub IsBefore : Fault → Fault → Type 0
IsBefore not_json not_json = ⊥
IsBefore not_json _ = Unit {0}
IsBefore other_top many_notes = Unit {0}
IsBefore other_top (in_note n f) = Unit {0}
IsBefore many_notes (in_note n f) = Unit {0}
IsBefore (in_note m f) (in_note n g) = (m < n) ⊎ ((m ≡ n) × NoteBefore f g)
IsBefore _ _ = ⊥

-- ---- what is told

abbrev pub entry_error : EntryFault → CertError
entry_error other_form = WrongField
entry_error no_slot = UnknownName
entry_error no_region = UnknownName
entry_error other_kind = WrongKind

abbrev pub note_error : NoteFault → CertError
note_error no_object = WrongField
note_error many_entries = TooMany
note_error (in_entry i f) = entry_error f

-- The refusal that tells the fault.
abbrev pub error_of : Fault → CertError
error_of not_json = NotJson
error_of other_top = WrongField
error_of many_notes = TooMany
error_of (in_note n f) = note_error f

-- The refusal tells a fault of the text, and the text has none that is told before it.
abbrev pub TellsFirst : Configuration → Terms → Option Data → CertError → Type 0
TellsFirst c p document e = (f : Fault) × (error_of f ≡ e) × IsFirstBy (HasFault c p document) IsBefore f
