-- A layout: the frames of a pool, and the regions of pages, each a run of page numbers with a class.
use Rattle.std.specs.Prelude.{◌≡◌, ℕ, ◌+◌, ◌≤◌, ◌&&◌, ◌⊎◌, nat_le, nat_lt, Bool, Option, option_map, List, [], ◌∷◌, max}
use Rattle.std.specs.Prelude.{length, All, AllPairs, IsTrue, slice_get, position, find, Some, None}
use Rattle.pp_settings.specs.Limits.{most_frames, most_regions, page_numbers, greatest_class}
use Rattle.pp_settings.specs.declared.extent.Extent.{Extent}

-- The number of frames, and the regions' extents; a region's number is its place in this list.
pub record Geometry : Type 0 where
  pub frames : ℕ
  pub extents : List Extent

-- ---- pages and regions

-- Whether a page lies in an extent: from its first page on, as many as it counts.
abbrev pub has_page : ℕ → Extent → Bool
has_page page e = nat_le e.first page && nat_lt page (e.first + e.count)

-- Whether some page lies in both extents, where each has a page.
abbrev pub shares_page : Extent → Extent → Bool
shares_page d e = nat_lt d.first (e.first + e.count) && nat_lt e.first (d.first + d.count)

-- The region of a page: the number of the one region that has the page, if any has it.
abbrev pub region_of : Geometry → ℕ → Option ℕ
region_of g page = position (has_page page) g.extents

-- The class of a page: that of its region, if it has one.
abbrev pub class_of : Geometry → ℕ → Option ℕ
class_of g page = option_map (λ e. e.class) (find (has_page page) g.extents)

-- Region r has the page.
abbrev pub HasPage : Geometry → ℕ → ℕ → Type 0
HasPage g r page = (e : Extent) × (slice_get g.extents r ≡ Some e) × IsTrue (has_page page e)

-- Region r has the class.
abbrev pub HasClass : Geometry → ℕ → ℕ → Type 0
HasClass g r class = (e : Extent) × (slice_get g.extents r ≡ Some e) × (e.class ≡ class)

-- What is told of a page: the class of a region that has the page, and that alone has it; or that no region has it.
abbrev pub TellsClass : Geometry → ℕ → Option ℕ → Type 0
TellsClass g page (Some class) =
    (r : ℕ) × HasPage g r page × HasClass g r class × ((s : ℕ) → HasPage g s page → s ≡ r)
TellsClass g page None = (r : ℕ) → ¬ HasPage g r page

-- The first page number behind all of these extents.
abbrev pub end_of : List Extent → ℕ
end_of [] = 0
end_of (e ∷ es) = max (e.first + e.count) (end_of es)

-- How many page numbers there are: one more than the greatest page of any region.
abbrev pub page_count : Geometry → ℕ
page_count g = end_of g.extents

-- ---- what holds of every layout

-- A region has a page at least, its pages are numbered below 4,294,967,292, and its class is below 64.
pub record IsExtent (e : Extent) : Type 0 where
  pub some : 1 ≤ e.count
  pub ends : e.first + e.count ≤ page_numbers
  pub class : e.class ≤ greatest_class

-- Two regions share no page.
abbrev pub IsApart : Extent → Extent → Type 0
IsApart d e = (d.first + d.count ≤ e.first) ⊎ (e.first + e.count ≤ d.first)

-- 1 to 16,777,216 frames, and 1 to 64 regions, disjoint.
pub record IsLayout (g : Geometry) : Type 0 where
  pub frames : (1 ≤ g.frames) × (g.frames ≤ most_frames)
  pub count : (1 ≤ length g.extents) × (length g.extents ≤ most_regions)
  pub extents : All IsExtent g.extents
  pub apart : AllPairs IsApart g.extents
