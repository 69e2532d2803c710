-- The faults of a document, each said by itself, and the order in which they are told: the refusal is the first.
use Rattle.std.specs.Prelude.{◌≡◌, ℕ, zero, suc, ◌+◌, ◌-◌, ◌≤◌, ◌<◌, pos, List, [], ◌∷◌, Contains, IsTrue, Option, None, Some}
use Rattle.std.specs.Prelude.{option_and_then, codes}
use Rattle.toml.specs.Data.{Data, string, integer, array, Items, Members, get_member, get_item, as_table, as_array}
use Rattle.pp_settings.specs.declared.version.TextVersion.{TextVersion}
use Rattle.pp_settings.specs.declared.version.TextVersion.TheVariants.{One, Two}
use Rattle.pp_settings.specs.declared.key.TopKey.{TopKey}
use Rattle.pp_settings.specs.declared.key.TopKey.TheVariants.{Version, Frames, PageBytes, Workers, Waiting}
use Rattle.pp_settings.specs.declared.key.TopKey.TheVariants.{Flushes, Region}
use Rattle.pp_settings.specs.declared.key.RegionKey.{RegionKey}
use Rattle.pp_settings.specs.declared.key.RegionKey.TheVariants.{Name, First, Count, Class}
use Rattle.pp_settings.specs.declared.key.Spot.{Spot}
use Rattle.pp_settings.specs.declared.key.Spot.TheVariants.{Top, InRegion}
use Rattle.pp_settings.specs.declared.error.SettingsError.{SettingsError}
use Rattle.pp_settings.specs.declared.error.SettingsError.TheVariants.{NotToml, Missing, Unknown, Range, Overlap}
use Rattle.pp_settings.specs.declared.error.SettingsError.TheVariants.{SameName}
use Rattle.pp_settings.specs.Keys.{key_of, known_keys}
use Rattle.pp_settings.specs.Limits.{most_frames, fewest_page_bytes, most_page_bytes, most_workers, most_waiting}
use Rattle.pp_settings.specs.Limits.{most_flushes, most_regions, greatest_class, first_frames, first_page_bytes}
use Rattle.pp_settings.specs.Limits.{first_workers, second_page_bytes}
use Rattle.pp_settings.specs.Settings.{is_region_name}
use Rattle.pp_settings.specs.Reading.{table_count, are_tables}
use Rattle.pp_settings.specs.Spans.{span_of, flush_limit}
use Rattle.pp_settings.specs.Spelling.{HasOnly}
use Rattle.pp_settings.specs.Versions.{version_of, page_limit}

-- ---- where a value stands

-- The table of the document itself, or of the region with this number.
abbrev pub table_of : Members → Option ℕ → Option Members
table_of ms None = Some ms
table_of ms (Some i) =
    option_and_then as_table (option_and_then (get_item i) (option_and_then as_array (get_member (codes "region") ms)))

-- The region in whose table a key stands, if it is a region's key.
abbrev pub home_of : Spot → Option ℕ
home_of (Top k) = None
home_of (InRegion i k) = Some i

-- The value at a key.
abbrev pub value_of : Members → Spot → Option Data
value_of ms spot = option_and_then (get_member (key_of spot)) (table_of ms (home_of spot))

-- ---- which values a key may have

-- A whole number from low to high.
abbrev pub IsNumber : ℕ → ℕ → Data → Type 0
IsNumber low high d = (n : ℕ) × (d ≡ integer (pos n)) × (low ≤ n) × (n ≤ high)

-- A text in a name's form.
abbrev pub IsNameText : Data → Type 0
IsNameText d = (name : List ℕ) × (d ≡ string name) × IsTrue (is_region_name name)

-- At least 1, and no more than there are page numbers from the region's first on.
abbrev pub IsCount : TextVersion → Members → ℕ → Data → Type 0
IsCount version ms i d =
    (first n : ℕ) × (value_of ms (InRegion i First) ≡ Some (integer (pos first))) × (d ≡ integer (pos n)) × (1 ≤ n)
    × (first + n ≤ page_limit version)

-- No more flushes than a life may begin that lasts as long as the document says.
abbrev pub AreFlushes : Members → Data → Type 0
AreFlushes ms d =
    (waiting n : ℕ) × (value_of ms (Top Waiting) ≡ Some (integer (pos waiting))) × (d ≡ integer (pos n))
    × (n ≤ flush_limit (span_of waiting))

-- An array of 1 to 64 tables.
abbrev pub AreRegionTables : Data → Type 0
AreRegionTables d =
    (ds : Items) × (d ≡ array ds) × (1 ≤ table_count ds) × (table_count ds ≤ most_regions) × IsTrue (are_tables ds)

-- At a key of a region.
abbrev pub IsAllowedInside : TextVersion → Members → ℕ → RegionKey → Data → Type 0
IsAllowedInside version ms i Name d = IsNameText d
IsAllowedInside version ms i First d = IsNumber 0 (page_limit version - 1) d
IsAllowedInside version ms i Count d = IsCount version ms i d
IsAllowedInside version ms i Class d = IsNumber 0 greatest_class d

-- At a key of a document of version 1, which has neither `version` nor `waiting`.
abbrev pub IsAllowedInFirst : TopKey → Data → Type 0
IsAllowedInFirst Frames d = IsNumber 1 first_frames d
IsAllowedInFirst PageBytes d = IsNumber fewest_page_bytes first_page_bytes d
IsAllowedInFirst Workers d = IsNumber 1 first_workers d
IsAllowedInFirst Flushes d = IsNumber 0 most_flushes d
IsAllowedInFirst Region d = AreRegionTables d
IsAllowedInFirst _ d = ⊥

-- At a key of a document of version 2.
abbrev pub IsAllowedInSecond : Members → TopKey → Data → Type 0
IsAllowedInSecond ms Version d = IsNumber 2 2 d
IsAllowedInSecond ms Frames d = IsNumber 1 most_frames d
IsAllowedInSecond ms PageBytes d = IsNumber second_page_bytes most_page_bytes d
IsAllowedInSecond ms Workers d = IsNumber 1 most_workers d
IsAllowedInSecond ms Waiting d = IsNumber 0 most_waiting d
IsAllowedInSecond ms Flushes d = AreFlushes ms d
IsAllowedInSecond ms Region d = AreRegionTables d

abbrev pub IsAllowed : TextVersion → Members → Spot → Data → Type 0
IsAllowed version ms (InRegion i k) d = IsAllowedInside version ms i k d
IsAllowed One ms (Top k) d = IsAllowedInFirst k d
IsAllowed Two ms (Top k) d = IsAllowedInSecond ms k d

-- ---- the faults

-- The region with number i has the page, by the numbers that stand in its table.
abbrev pub HasPageAt : Members → ℕ → ℕ → Type 0
HasPageAt ms i page =
    (first count : ℕ) × (value_of ms (InRegion i First) ≡ Some (integer (pos first)))
    × (value_of ms (InRegion i Count) ≡ Some (integer (pos count))) × (first ≤ page) × (page < first + count)

-- The version has a key at the spot.
abbrev pub HasKey : TextVersion → Spot → Type 0
HasKey version spot = Contains (known_keys version (home_of spot)) (key_of spot)

-- A document of this version has the fault that a refusal tells.
abbrev pub IsFaultOf : TextVersion → Members → SettingsError → Type 0
IsFaultOf version ms (Unknown region) =
    (t : Members) × (table_of ms region ≡ Some t) × ¬ HasOnly (known_keys version region) t
IsFaultOf version ms (Missing spot) =
    HasKey version spot × ((t : Members) × (table_of ms (home_of spot) ≡ Some t) × (get_member (key_of spot) t ≡ None))
IsFaultOf version ms (Range spot) =
    HasKey version spot × ((d : Data) × (value_of ms spot ≡ Some d) × ¬ IsAllowed version ms spot d)
IsFaultOf version ms (SameName i) =
    (j : ℕ) × (j < i) × ((name : List ℕ) × (value_of ms (InRegion j Name) ≡ Some (string name))
    × (value_of ms (InRegion i Name) ≡ Some (string name)))
IsFaultOf version ms (Overlap i) = (j : ℕ) × (j < i) × ((page : ℕ) × HasPageAt ms j page × HasPageAt ms i page)
IsFaultOf version ms _ = ⊥

-- A text, or the document that it is, has the fault.
abbrev pub HasFault : Option Members → SettingsError → Type 0
HasFault None NotToml = Unit {0}
HasFault None _ = ⊥
HasFault (Some ms) e = IsFaultOf (version_of ms) ms e

-- ---- the order

-- The refusals at one key, and then the rest.
abbrev pub at_key : Spot → List SettingsError → List SettingsError
at_key spot rest = Missing spot ∷ Range spot ∷ rest

-- Those of the region with number i, and then the rest.
abbrev pub at_region : ℕ → List SettingsError → List SettingsError
at_region i rest =
    Unknown (Some i) ∷ at_key (InRegion i Name)
    (at_key (InRegion i First) (at_key (InRegion i Count) (at_key (InRegion i Class)
    (SameName i ∷ Overlap i ∷ rest))))

-- Those of n regions from i on.
unfoldable pub at_regions : ℕ → ℕ → List SettingsError
at_regions i zero = []
at_regions i (suc n) = at_region i (at_regions (i + 1) n)

-- Those of a document, one list for both versions: at `waiting` a document of version 1 has no fault. None is at `version`.
abbrev pub in_document : List SettingsError
in_document =
    Unknown None ∷ at_key (Top Frames) (at_key (Top PageBytes)
    (at_key (Top Workers) (at_key (Top Waiting) (at_key (Top Flushes) (at_key (Top Region)
    (at_regions 0 most_regions))))))

-- All refusals of a text, in the order in which they are told.
abbrev pub order : List SettingsError
order = NotToml ∷ in_document
