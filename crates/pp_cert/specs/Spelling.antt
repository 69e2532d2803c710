-- Which JSON value spells which claims, said apart from any order of reading.
use Rattle.std.specs.Prelude.{◌≡◌, ℕ, true, false, List, [], ◌∷◌, Some, codes}
use Rattle.serde_json.specs.Data.{unsigned, Data, number, string, array, object, Items, no_items, item, Members}
use Rattle.serde_json.specs.Data.{no_members, member}
use Rattle.serde_json.specs.Read.{read}
use Rattle.pp_text.specs.Objects.{HasOnly, Holds}
use Rattle.pp_settings.specs.Settings.{Configuration, geometry_of, region_named}
use Rattle.pp_plan.specs.Terms.{Terms}
use Rattle.pp_plan.specs.Slots.{slot_named}
use Rattle.pp_plan.specs.Rules.{uses_bundle}
use Rattle.pp_cert.specs.declared.note.Entry.{Entry}
use Rattle.pp_cert.specs.declared.note.Entry.TheVariants.{Slot, Bundle}
use Rattle.pp_cert.specs.declared.note.Held.{Held}
use Rattle.pp_cert.specs.Claims.{Claims, IsBound, AreFew}
use Rattle.pp_cert.specs.Words.{held_text, certificate_keys}

-- The key names the slot, which the plan doesn't use as a bundle, and the value is the list of the region's name and of how
-- the page is held.
pub record SpellsPage (c : Configuration) (p : Terms) (key : List ℕ) (d : Data) (s r : ℕ) (h : Held) : Type 0 where
  pub slot : slot_named p key ≡ Some s
  pub plain : uses_bundle p.body s ≡ false
  pub name : List ℕ
  pub region : region_named c name ≡ Some r
  pub value : d ≡ array (item (string name) (item (string (held_text h)) no_items))

-- The key names the slot, which the plan uses as a bundle, and the value is its bound: a number from 1 to
-- the greatest.
pub record SpellsBundle (c : Configuration) (p : Terms) (key : List ℕ) (d : Data) (s k : ℕ) : Type 0 where
  pub slot : slot_named p key ≡ Some s
  pub bundle : uses_bundle p.body s ≡ true
  pub bound : IsBound (geometry_of c) k
  pub value : d ≡ number (unsigned k)

-- The key and its value spell the entry: a page of a plain slot, or a bundle.
abbrev pub SpellsEntry : Configuration → Terms → List ℕ → Data → Entry → Type 0
SpellsEntry c p key d (Slot s r h) = SpellsPage c p key d s r h
SpellsEntry c p key d (Bundle s k) = SpellsBundle c p key d s k

-- There is one member for each entry, in the same order.
abbrev pub SpellsEntries : Configuration → Terms → Members → List Entry → Type 0
SpellsEntries c p no_members [] = Unit {0}
SpellsEntries c p (member key d ms) (e ∷ es) = SpellsEntry c p key d e × SpellsEntries c p ms es
SpellsEntries c p _ _ = ⊥

-- There is one object for each note, in the same order.
abbrev pub SpellsNotes : Configuration → Terms → Items → List (List Entry) → Type 0
SpellsNotes c p no_items [] = Unit {0}
SpellsNotes c p (item (object ms) ds) (note ∷ notes) = SpellsEntries c p ms note × SpellsNotes c p ds notes
SpellsNotes c p _ _ = ⊥

-- The object spells the claims, and nothing else stands in it.
pub record Spells (c : Configuration) (p : Terms) (d : Data) (t : Claims) : Type 0 where
  pub keys : HasOnly certificate_keys d
  pub notes : (ds : Items) × Holds d (codes "notes") (array ds) × SpellsNotes c p ds t.notes
  pub peak : Holds d (codes "peak") (number (unsigned t.peak))
  pub steps : Holds d (codes "steps") (number (unsigned t.steps))

-- The text is a JSON object that spells the claims, and they are few enough.
abbrev pub IsText : Configuration → Terms → List ℕ → Claims → Type 0
IsText c p text t = (d : Data) × (read text ≡ Some d) × Spells c p d t × AreFew t.notes
