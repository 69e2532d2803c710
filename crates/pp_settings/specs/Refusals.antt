-- Refusals: the row that a program prints of each, and the words of a spot.
use Rattle.std.specs.Prelude.{ℕ, Bool, true, false, List, ◌++◌, codes, None, Some}
use Rattle.std.specs.Fmt.{decimal}
use Rattle.pp_text.specs.Refusals.{Matter, nothing, key, region_key as key_of_region, top, region, Row, row}
use Rattle.pp_settings.specs.declared.key.Spot.{Spot}
use Rattle.pp_settings.specs.declared.key.Spot.TheVariants.{Top, InRegion}
use Rattle.pp_settings.specs.declared.error.SettingsError.{SettingsError}
use Rattle.pp_settings.specs.declared.error.SettingsError.TheVariants.{NotToml, Missing, Unknown, Range, Overlap}
use Rattle.pp_settings.specs.declared.error.SettingsError.TheVariants.{SameName, OutOfMemory}
use Rattle.pp_settings.specs.Keys.{top_key, region_key}

-- A spot, as what a refusal is about.
abbrev pub spot_matter : Spot → Matter
spot_matter (Top k) = key (top_key k)
spot_matter (InRegion i k) = key_of_region i (region_key k)

-- The number of each refusal, its name, and what it is about.
abbrev pub settings_error_row : SettingsError → Row
settings_error_row NotToml = row 1 (codes "NotToml") nothing
settings_error_row (Missing spot) = row 2 (codes "Missing") (spot_matter spot)
settings_error_row (Unknown None) = row 3 (codes "Unknown") top
settings_error_row (Unknown (Some i)) = row 3 (codes "Unknown") (region i)
settings_error_row (Range spot) = row 4 (codes "Range") (spot_matter spot)
settings_error_row (Overlap i) = row 5 (codes "Overlap") (region i)
settings_error_row (SameName i) = row 6 (codes "SameName") (region i)
settings_error_row OutOfMemory = row 7 (codes "OutOfMemory") nothing

-- That of what serves bounded lives alone, under settings of an endless life.
abbrev pub other_life_row : Row
other_life_row = row 8 (codes "OtherLife") nothing

-- Want of memory, which says nothing of the text.
abbrev pub is_settings_memory : SettingsError → Bool
is_settings_memory OutOfMemory = true
is_settings_memory _ = false

-- A spot for people: its key, with its region before it.
abbrev pub spot_text : Spot → List ℕ
spot_text (Top k) = top_key k
spot_text (InRegion i k) = codes "region " ++ decimal i ++ codes " " ++ region_key k
