-- What a certificate claims, apart from where it lies in memory.
use Rattle.std.specs.Prelude.{◌≡◌, ℕ, List, ◌<◌, ◌≤◌, length, All, AllPairs}
use Rattle.pp_settings.specs.Layout.{Geometry}
use Rattle.pp_settings.specs.Settings.{Configuration, geometry_of}
use Rattle.pp_plan.specs.Terms.{Terms}
use Rattle.pp_plan.specs.Rules.{uses_bundle}
use Rattle.pp_cert.specs.Limits.{most_notes, most_entries, most_bound}
use Rattle.pp_cert.specs.declared.note.Entry.{Entry}
use Rattle.pp_cert.specs.declared.note.Entry.TheVariants.{Slot, Bundle}
use Rattle.pp_cert.specs.declared.certificate.Certificate.{Certificate}
use Rattle.pp_cert.specs.Notes.{entry_slot, is_bundle}

-- The note at each place, a bound on the pins at once, and a bound on the actions of a trace.
pub record Claims : Type 0 where
  pub notes : List (List Entry)
  pub peak : ℕ
  pub steps : ℕ

-- The claims of a certificate in memory.
abbrev pub claims_of : Certificate → Claims
claims_of c = record { notes = c.notes.items; peak = c.peak; steps = c.steps }

-- At most 70,000 notes, and at most 32 entries in each.
pub record AreFew (notes : List (List Entry)) : Type 0 where
  pub notes_few : length notes ≤ most_notes
  pub entries_few : All (λ note. length note ≤ most_entries) notes

-- The region of the entry's page is one of the settings'; a bundle names none.
abbrev pub HasRegion : Configuration → Entry → Type 0
HasRegion c (Slot s r h) = r < length c.regions
HasRegion c (Bundle s k) = Unit {0}

-- A bound that a bundle's entry can have under a layout: from 1 to the greatest, since no entry means 0.
abbrev pub IsBound : Geometry → ℕ → Type 0
IsBound g k = (1 ≤ k) × (k ≤ most_bound g)

-- A bundle's entry has such a bound; a page's has none.
abbrev pub HasBound : Geometry → Entry → Type 0
HasBound g (Slot s r h) = Unit {0}
HasBound g (Bundle s k) = IsBound g k

-- The entry's slot is one of the plan's. The entry is a bundle's where the plan uses the slot as a bundle, with a bound from
-- 1 to the greatest; else it is a page's, with a region of the settings.
pub record IsEntry (c : Configuration) (p : Terms) (e : Entry) : Type 0 where
  pub slot : entry_slot e < length p.slots
  pub kind : uses_bundle p.body (entry_slot e) ≡ is_bundle e
  pub region : HasRegion c e
  pub bound : HasBound (geometry_of c) e

-- The entries are the plan's and the settings', and stand by rising slot.
pub record IsNote (c : Configuration) (p : Terms) (note : List Entry) : Type 0 where
  pub entries : All (IsEntry c p) note
  pub rising : AllPairs (λ d e. entry_slot d < entry_slot e) note

-- Claims that a text can spell: each note is in form, and notes and entries are few enough.
pub record AreClaims (c : Configuration) (p : Terms) (t : Claims) : Type 0 where
  pub few : AreFew t.notes
  pub notes : All (IsNote c p) t.notes
