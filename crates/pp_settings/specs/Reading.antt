-- What a document gives: its settings, or the first refusal in the fixed order.
use Rattle.std.specs.Prelude.{ℕ, ◌+◌, ◌-◌, pos, List, [], ◌∷◌, ◌++◌, length, Bool, true, not, ◌&&◌, nat_le}
use Rattle.std.specs.Prelude.{if◌then◌else◌, Option, Some, None, is_some, Result, Ok}
use Rattle.std.specs.Option.{ok_or}
use Rattle.std.specs.List.{list_any}
use Rattle.std.specs.Str.{bytes_eq}
use Rattle.toml.specs.Data.{Data, string, integer, array, Items, no_items, item, Members, no_members, member}
use Rattle.toml.specs.Data.{get_member, as_table}
use Rattle.toml.specs.Parse.{parse_document}
use Rattle.pp_text.specs.Steps.{◌>>=◌, must}
use Rattle.pp_settings.specs.declared.extent.Extent.{Extent}
use Rattle.pp_settings.specs.declared.key.TopKey.TheVariants.{Frames, PageBytes, Workers, Waiting}
use Rattle.pp_settings.specs.declared.key.TopKey.TheVariants.{Flushes, Region}
use Rattle.pp_settings.specs.declared.key.RegionKey.TheVariants.{Name, First, Count, Class}
use Rattle.pp_settings.specs.declared.key.Spot.{Spot}
use Rattle.pp_settings.specs.declared.key.Spot.TheVariants.{Top, InRegion}
use Rattle.pp_settings.specs.declared.error.SettingsError.{SettingsError}
use Rattle.pp_settings.specs.declared.error.SettingsError.TheVariants.{NotToml, Missing, Unknown, Range, Overlap}
use Rattle.pp_settings.specs.declared.error.SettingsError.TheVariants.{SameName}
use Rattle.pp_settings.specs.Keys.{key_of, known_keys}
use Rattle.pp_settings.specs.declared.span.Span.TheVariants.{Bounded}
use Rattle.pp_settings.specs.declared.version.TextVersion.{TextVersion}
use Rattle.pp_settings.specs.declared.version.TextVersion.TheVariants.{One, Two}
use Rattle.pp_settings.specs.Limits.{most_frames, fewest_page_bytes, most_page_bytes, most_workers, most_waiting}
use Rattle.pp_settings.specs.Limits.{most_flushes, most_regions, greatest_class, first_frames, first_page_bytes}
use Rattle.pp_settings.specs.Limits.{first_workers, second_page_bytes}
use Rattle.pp_settings.specs.Layout.{shares_page}
use Rattle.pp_settings.specs.Settings.{NamedRegion, Configuration, is_region_name}
use Rattle.pp_settings.specs.Spans.{span_of, flush_limit}
use Rattle.pp_settings.specs.Versions.{is_second, page_limit}

-- ---- one key

-- A table of the document or of a region may have this key.
abbrev pub is_known : TextVersion → Option ℕ → List ℕ → Bool
is_known version region key = list_any (bytes_eq key) (known_keys version region)

-- Each key of the table is known.
abbrev pub keys_known : TextVersion → Option ℕ → Members → Bool
keys_known version region no_members = true
keys_known version region (member k d ms) = is_known version region k && keys_known version region ms

-- The table has no other key than the known ones.
abbrev pub only_known : TextVersion → Option ℕ → Members → Result (Unit {0}) SettingsError
only_known version region ms = must (keys_known version region ms) (Unknown region)

-- The value at a key.
abbrev pub value_at : Spot → Members → Result Data SettingsError
value_at spot ms = ok_or (get_member (key_of spot) ms) (Missing spot)

-- A whole number from low to high.
abbrev pub as_number : ℕ → ℕ → Data → Option ℕ
as_number low high (integer (pos n)) = if nat_le low n && nat_le n high then Some n else None
as_number low high _ = None

unfoldable pub number_at : Spot → ℕ → ℕ → Members → Result ℕ SettingsError
number_at spot low high ms = do
  d ← value_at spot ms
  ok_or (as_number low high d) (Range spot)

-- A text that is a name.
abbrev pub as_name : Data → Option (List ℕ)
as_name (string s) = if is_region_name s then Some s else None
as_name _ = None

unfoldable pub name_at : Spot → Members → Result (List ℕ) SettingsError
name_at spot ms = do
  d ← value_at spot ms
  ok_or (as_name d) (Range spot)

-- ---- regions

-- Where the region with number i lies.
unfoldable pub extent_at : TextVersion → ℕ → Members → Result Extent SettingsError
extent_at version i ms = do
  first ← number_at (InRegion i First) 0 (page_limit version - 1) ms
  count ← number_at (InRegion i Count) 1 (page_limit version - first) ms
  class ← number_at (InRegion i Class) 0 greatest_class ms
  Ok (record { first = first; count = count; class = class })

-- The region with number i.
unfoldable pub region_at : TextVersion → ℕ → Members → Result NamedRegion SettingsError
region_at version i ms = do
  known ← only_known version (Some i) ms
  name ← name_at (InRegion i Name) ms
  extent ← extent_at version i ms
  Ok (record { name = name; extent = extent })

-- The region has this name.
abbrev pub has_name : List ℕ → NamedRegion → Bool
has_name name r = bytes_eq r.name name

-- The region shares a page with the extent.
abbrev pub shares_page_with : Extent → NamedRegion → Bool
shares_page_with extent r = shares_page r.extent extent

-- A region beside the earlier ones: its name first, and then its pages.
unfoldable pub beside : List NamedRegion → NamedRegion → Result (Unit {0}) SettingsError
beside earlier r = do
  name ← must (not (list_any (has_name r.name) earlier)) (SameName (length earlier))
  must (not (list_any (shares_page_with r.extent) earlier)) (Overlap (length earlier))

-- One item's region, after the earlier ones.
unfoldable pub next_region : TextVersion → List NamedRegion → Data → Result NamedRegion SettingsError
next_region version earlier d = do
  ms ← ok_or (as_table d) (Range (Top Region))
  r ← region_at version (length earlier) ms
  passed ← beside earlier r
  Ok r

-- The earlier regions and then those of the items, one item after the other.
abbrev pub regions_from : TextVersion → List NamedRegion → Items → Result (List NamedRegion) SettingsError
regions_from version earlier no_items = Ok earlier
regions_from version earlier (item d ds) =
    next_region version earlier d >>= λ r. regions_from version (earlier ++ r ∷ []) ds

-- ---- the document

abbrev pub are_tables : Items → Bool
are_tables no_items = true
are_tables (item d ds) = is_some (as_table d) && are_tables ds

abbrev pub table_count : Items → ℕ
table_count no_items = 0
table_count (item d ds) = table_count ds + 1

-- An array of 1 to 64 tables.
abbrev pub are_regions : Items → Bool
are_regions ds = (nat_le 1 (table_count ds) && nat_le (table_count ds) most_regions) && are_tables ds

abbrev pub as_tables : Data → Option Items
as_tables (array ds) = if are_regions ds then Some ds else None
as_tables _ = None

unfoldable pub tables_at : Spot → Members → Result Items SettingsError
tables_at spot ms = do
  d ← value_at spot ms
  ok_or (as_tables d) (Range spot)

-- The settings of a document of version 1.
unfoldable pub first_of : Members → Result Configuration SettingsError
first_of ms = do
  known ← only_known One None ms
  frames ← number_at (Top Frames) 1 first_frames ms
  page_bytes ← number_at (Top PageBytes) fewest_page_bytes first_page_bytes ms
  workers ← number_at (Top Workers) 1 first_workers ms
  flushes ← number_at (Top Flushes) 0 most_flushes ms
  tables ← tables_at (Top Region) ms
  regions ← regions_from One [] tables
  Ok (record {
    frames = frames;
    page_bytes = page_bytes;
    workers = workers;
    span = Bounded;
    flushes = flushes;
    regions = regions;
  })

-- Those of a document of version 2.
unfoldable pub second_of : Members → Result Configuration SettingsError
second_of ms = do
  known ← only_known Two None ms
  frames ← number_at (Top Frames) 1 most_frames ms
  page_bytes ← number_at (Top PageBytes) second_page_bytes most_page_bytes ms
  workers ← number_at (Top Workers) 1 most_workers ms
  waiting ← number_at (Top Waiting) 0 most_waiting ms
  flushes ← number_at (Top Flushes) 0 (flush_limit (span_of waiting)) ms
  tables ← tables_at (Top Region) ms
  regions ← regions_from Two [] tables
  Ok (record {
    frames = frames;
    page_bytes = page_bytes;
    workers = workers;
    span = span_of waiting;
    flushes = flushes;
    regions = regions;
  })

abbrev pub configuration_of : Members → Result Configuration SettingsError
configuration_of ms = if is_second ms then second_of ms else first_of ms

-- The settings of a text.
abbrev pub reading : List ℕ → Result Configuration SettingsError
reading text = ok_or (parse_document text) NotToml >>= configuration_of
