-- What a certificate's text gives under settings and a plan: its claims, or the first refusal in the fixed order.
use Rattle.std.specs.Prelude.{ℕ, List, [], ◌∷◌, ◌++◌, ◌&&◌, not, nat_le, if◌then◌else◌, Option, Some, None, is_some}
use Rattle.std.specs.Prelude.{option_and_then, codes, Result, Ok}
use Rattle.std.specs.Option.{ok_or}
use Rattle.serde_json.specs.Data.{Data, Items, no_items, item, Members, no_members, member}
use Rattle.serde_json.specs.Events.{items_len, members_len}
use Rattle.serde_json.specs.Find.{as_object, as_array, as_str, as_number, as_u64, get}
use Rattle.serde_json.specs.Read.{read}
use Rattle.pp_text.specs.Steps.{◌>>=◌, must}
use Rattle.pp_text.specs.Objects.{has_only_keys}
use Rattle.pp_settings.specs.Layout.{Geometry}
use Rattle.pp_settings.specs.Settings.{Configuration, geometry_of, region_named}
use Rattle.pp_plan.specs.Terms.{Terms}
use Rattle.pp_plan.specs.Slots.{slot_named}
use Rattle.pp_plan.specs.Rules.{uses_bundle}
use Rattle.pp_cert.specs.declared.note.Entry.{Entry}
use Rattle.pp_cert.specs.declared.note.Entry.TheVariants.{Slot, Bundle}
use Rattle.pp_cert.specs.declared.error.CertError.{CertError}
use Rattle.pp_cert.specs.declared.error.CertError.TheVariants.{NotJson, WrongField, UnknownName, TooMany, WrongKind}
use Rattle.pp_cert.specs.Limits.{most_notes, most_entries, most_bound}
use Rattle.pp_cert.specs.Claims.{Claims}
use Rattle.pp_cert.specs.Words.{held_of, certificate_keys}

-- ---- one entry

-- The two items of a list of two.
abbrev pub as_two : Items → Option (Data × Data)
as_two (item a (item b no_items)) = Some (a, b)
as_two _ = None

-- The bound that a number is, if it is from 1 to the greatest under the layout.
abbrev pub bound_in : Geometry → ℕ → Option ℕ
bound_in g n = if nat_le 1 n && nat_le n (most_bound g) then Some n else None

-- A page: its form first, then the slot's name, then the region's, then that the slot is no bundle.
unfoldable pub read_page : Configuration → Terms → List ℕ → Data → Result Entry CertError
read_page c p key d = do
  items ← ok_or (as_array d) WrongField
  two ← ok_or (as_two items) WrongField
  region_name ← ok_or (as_str two.0) WrongField
  held ← ok_or (option_and_then held_of (as_str two.1)) WrongField
  slot ← ok_or (slot_named p key) UnknownName
  region ← ok_or (region_named c region_name) UnknownName
  plain ← must (not (uses_bundle p.body slot)) WrongKind
  Ok (Slot slot region held)

-- A bundle: its bound first, then the slot's name, then that the slot is a bundle.
unfoldable pub read_bundle : Configuration → Terms → List ℕ → Data → Result Entry CertError
read_bundle c p key d = do
  bound ← ok_or (option_and_then (bound_in (geometry_of c)) (option_and_then as_u64 (as_number d))) WrongField
  slot ← ok_or (slot_named p key) UnknownName
  bundle ← must (uses_bundle p.body slot) WrongKind
  Ok (Bundle slot bound)

-- The entry of one slot: a bundle's where the value is a number, and else a page's.
unfoldable pub read_entry : Configuration → Terms → List ℕ → Data → Result Entry CertError
read_entry c p key d = if is_some (as_number d) then read_bundle c p key d else read_page c p key d

-- ---- notes

-- The earlier entries and then those of the members, which stand in the byte order of their keys.
abbrev pub entries_from : Configuration → Terms → List Entry → Members → Result (List Entry) CertError
entries_from c p earlier no_members = Ok earlier
entries_from c p earlier (member key d ms) = read_entry c p key d >>= λ e. entries_from c p (earlier ++ e ∷ []) ms

-- A note: an object of at most 32 members.
unfoldable pub read_note : Configuration → Terms → Data → Result (List Entry) CertError
read_note c p d = do
  ms ← ok_or (as_object d) WrongField
  few ← must (nat_le (members_len ms) most_entries) TooMany
  entries_from c p [] ms

-- The earlier notes and then those of the items, one item after the other.
abbrev pub notes_from : Configuration → Terms → List (List Entry) → Items → Result (List (List Entry)) CertError
notes_from c p earlier no_items = Ok earlier
notes_from c p earlier (item d ds) = read_note c p d >>= λ note. notes_from c p (earlier ++ note ∷ []) ds

-- ---- the certificate

-- The list at a key.
abbrev pub list_at : List ℕ → Data → Result Items CertError
list_at key d = ok_or (option_and_then as_array (get key d)) WrongField

-- The number at a key: whole, without a sign, of 64 bits.
abbrev pub number_at : List ℕ → Data → Result ℕ CertError
number_at key d = ok_or (option_and_then as_u64 (option_and_then as_number (get key d))) WrongField

-- The claims of a value: its own object first, then how many notes there are, then note by note.
unfoldable pub claims_at : Configuration → Terms → Data → Result Claims CertError
claims_at c p d = do
  only ← must (has_only_keys certificate_keys d) WrongField
  items ← list_at (codes "notes") d
  peak ← number_at (codes "peak") d
  steps ← number_at (codes "steps") d
  few ← must (nat_le (items_len items) most_notes) TooMany
  notes ← notes_from c p [] items
  Ok (record { notes = notes; peak = peak; steps = steps })

-- The claims of a text.
abbrev pub reading : Configuration → Terms → List ℕ → Result Claims CertError
reading c p text = ok_or (read text) NotJson >>= claims_at c p
