-- Which document spells which settings, said apart from any order of reading.
use Rattle.std.specs.Prelude.{◌≡◌, ℕ, List, [], ◌∷◌, Contains, Some, codes, pos}
use Rattle.toml.specs.Data.{Data, string, integer, array, table, Items, no_items, item, Members, no_members, member}
use Rattle.toml.specs.Data.{get_member}
use Rattle.toml.specs.Parse.{parse_document}
use Rattle.pp_settings.specs.declared.span.Span.{Span}
use Rattle.pp_settings.specs.declared.span.Span.TheVariants.{Bounded}
use Rattle.pp_settings.specs.declared.version.TextVersion.{TextVersion}
use Rattle.pp_settings.specs.declared.version.TextVersion.TheVariants.{One, Two}
use Rattle.pp_settings.specs.Keys.{document_keys, region_keys}
use Rattle.pp_settings.specs.Settings.{NamedRegion, Configuration, IsConfiguration, IsOf}
use Rattle.pp_settings.specs.Spans.{waiting_of}
use Rattle.pp_settings.specs.Versions.{version_of}

-- Each key of the table is one of these.
abbrev pub HasOnly : List (List ℕ) → Members → Type 0
HasOnly keys no_members = Unit {0}
HasOnly keys (member k d ms) = Contains keys k × HasOnly keys ms

-- The table has the value at the key.
abbrev pub Holds : Members → List ℕ → Data → Type 0
Holds ms key d = get_member key ms ≡ Some d

-- The table spells the region, and nothing else stands in it.
pub record SpellsRegion (ms : Members) (r : NamedRegion) : Type 0 where
  pub keys : HasOnly region_keys ms
  pub name : Holds ms (codes "name") (string r.name)
  pub first : Holds ms (codes "first") (integer (pos r.extent.first))
  pub count : Holds ms (codes "count") (integer (pos r.extent.count))
  pub class : Holds ms (codes "class") (integer (pos r.extent.class))

-- There is one table for each region, in the same order.
abbrev pub SpellsRegions : Items → List NamedRegion → Type 0
SpellsRegions no_items [] = Unit {0}
SpellsRegions (item (table ms) ds) (r ∷ rs) = SpellsRegion ms r × SpellsRegions ds rs
SpellsRegions _ _ = ⊥

-- How long a life may last: a text of version 1 says nothing of it, and its lives are bounded. One of version 2 says how many
-- plans may wait, 0 where a life is bounded.
abbrev pub SpellsSpan : TextVersion → Members → Span → Type 0
SpellsSpan One ms span = span ≡ Bounded
SpellsSpan Two ms span = Holds ms (codes "waiting") (integer (pos (waiting_of span)))

-- The document of this version spells the settings, and nothing else stands in it. What stands at the key `version` is told by
-- `version_of`.
pub record Spells (version : TextVersion) (ms : Members) (c : Configuration) : Type 0 where
  pub keys : HasOnly (document_keys version) ms
  pub frames : Holds ms (codes "frames") (integer (pos c.frames))
  pub page_bytes : Holds ms (codes "page_bytes") (integer (pos c.page_bytes))
  pub workers : Holds ms (codes "workers") (integer (pos c.workers))
  pub span : SpellsSpan version ms c.span
  pub flushes : Holds ms (codes "flushes") (integer (pos c.flushes))
  pub region : (ds : Items) × Holds ms (codes "region") (array ds) × SpellsRegions ds c.regions

-- The text is a TOML document that spells the settings, and they are within the limits of all, and of its version.
abbrev pub IsText : List ℕ → Configuration → Type 0
IsText text c =
    (ms : Members) × (parse_document text ≡ Some ms) × Spells (version_of ms) ms c × IsConfiguration c
    × IsOf (version_of ms) c
