-- What settings are, apart from the text that spells them: the sizes of a pool, and its regions with their names.
use Rattle.std.specs.Prelude.{◌≢◌, ℕ, ◌+◌, ◌≤◌, List, [], ◌∷◌, length, map, All, AllPairs, Bool, IsTrue, Option, option_map}
use Rattle.std.specs.Prelude.{slice_get, position}
use Rattle.std.specs.Str.{bytes_eq}
use Rattle.pp_text.specs.Names.{is_name}
use Rattle.pp_settings.specs.Limits.{most_frames, fewest_page_bytes, most_page_bytes, most_workers, most_regions}
use Rattle.pp_settings.specs.Limits.{longest_region_name, first_frames, first_page_bytes, first_workers}
use Rattle.pp_settings.specs.Limits.{first_page_numbers, second_page_bytes}
use Rattle.pp_settings.specs.declared.extent.Extent.{Extent}
use Rattle.pp_settings.specs.declared.span.Span.{Span}
use Rattle.pp_settings.specs.declared.version.TextVersion.{TextVersion}
use Rattle.pp_settings.specs.declared.version.TextVersion.TheVariants.{One, Two}
use Rattle.pp_settings.specs.Layout.{Geometry, IsExtent, IsApart}
use Rattle.pp_settings.specs.Spans.{IsSpan, flush_limit}

-- A region: the name by which plans ask for its pages, and where it lies.
pub record NamedRegion : Type 0 where
  pub name : List ℕ
  pub extent : Extent

-- The settings; a region's number is its place in the list, which has the order of the text.
pub record Configuration : Type 0 where
  pub frames : ℕ
  pub page_bytes : ℕ
  pub workers : ℕ
  pub span : Span
  pub flushes : ℕ
  pub regions : List NamedRegion

-- The regions with these names and extents, name by name beside extent by extent.
abbrev pub named : List (List ℕ) → List Extent → List NamedRegion
named (name ∷ names) (extent ∷ extents) = record { name = name; extent = extent } ∷ named names extents
named _ _ = []

-- ---- what is read from them

-- The layout of these frames and regions: their names are left out.
abbrev pub layout_of : ℕ → List NamedRegion → Geometry
layout_of frames rs = record { frames = frames; extents = map (λ r. r.extent) rs }

-- The layout of the settings.
abbrev pub geometry_of : Configuration → Geometry
geometry_of c = layout_of c.frames c.regions

-- The number of the region with this name, if there is one.
abbrev pub region_named : Configuration → List ℕ → Option ℕ
region_named c name = position (λ r. bytes_eq r.name name) c.regions

-- The name of the region with this number, if there is one.
abbrev pub name_of : Configuration → ℕ → Option (List ℕ)
name_of c region = option_map (λ r. r.name) (slice_get c.regions region)

-- ---- the limits

-- A region's name has 1 to 32 bytes: a letter, and then letters, digits and underscores.
abbrev pub is_region_name : List ℕ → Bool
is_region_name name = is_name longest_region_name name

-- The name is in form, and the extent within the limits.
pub record IsNamedRegion (r : NamedRegion) : Type 0 where
  pub name : IsTrue (is_region_name r.name)
  pub extent : IsExtent r.extent

-- Each region is in form, no two have the same name, and no two share a page.
pub record AreRegions (rs : List NamedRegion) : Type 0 where
  pub each : All IsNamedRegion rs
  pub names : AllPairs (λ q r. q.name ≢ r.name) rs
  pub apart : AllPairs (λ q r. IsApart q.extent r.extent) rs

-- What holds of all settings: 1 to 16,777,216 frames, pages of 64 to 1,048,576 bytes, 1 to 1,024 workers, a span and the
-- flushes within their limits, and 1 to 64 regions.
pub record IsConfiguration (c : Configuration) : Type 0 where
  pub frames : (1 ≤ c.frames) × (c.frames ≤ most_frames)
  pub page_bytes : (fewest_page_bytes ≤ c.page_bytes) × (c.page_bytes ≤ most_page_bytes)
  pub workers : (1 ≤ c.workers) × (c.workers ≤ most_workers)
  pub span : IsSpan c.span
  pub flushes : c.flushes ≤ flush_limit c.span
  pub count : (1 ≤ length c.regions) × (length c.regions ≤ most_regions)
  pub regions : AreRegions c.regions

-- A text of version 1 has at most 4,096 frames, 65,536 bytes of a page and 32 workers, and pages below 65,536.
pub record IsOfFirst (c : Configuration) : Type 0 where
  pub frames : c.frames ≤ first_frames
  pub page_bytes : c.page_bytes ≤ first_page_bytes
  pub workers : c.workers ≤ first_workers
  pub pages : All (λ r. r.extent.first + r.extent.count ≤ first_page_numbers) c.regions

-- The limits that a text of each version has besides those of all: in one of version 2 a page has at least 512 bytes.
abbrev pub IsOf : TextVersion → Configuration → Type 0
IsOf One c = IsOfFirst c
IsOf Two c = second_page_bytes ≤ c.page_bytes
