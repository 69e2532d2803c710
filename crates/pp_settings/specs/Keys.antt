-- The keys of a settings text, as it writes them.
use Rattle.std.specs.Prelude.{ℕ, List, [], ◌∷◌, codes, Option, None, Some}
use Rattle.pp_settings.specs.declared.version.TextVersion.{TextVersion}
use Rattle.pp_settings.specs.declared.version.TextVersion.TheVariants.{One, Two}
use Rattle.pp_settings.specs.declared.key.TopKey.{TopKey}
use Rattle.pp_settings.specs.declared.key.TopKey.TheVariants.{Version, Frames, PageBytes, Workers, Waiting}
use Rattle.pp_settings.specs.declared.key.TopKey.TheVariants.{Flushes, Region}
use Rattle.pp_settings.specs.declared.key.RegionKey.{RegionKey}
use Rattle.pp_settings.specs.declared.key.RegionKey.TheVariants.{Name, First, Count, Class}
use Rattle.pp_settings.specs.declared.key.Spot.{Spot}
use Rattle.pp_settings.specs.declared.key.Spot.TheVariants.{Top, InRegion}

-- A key of the document itself.
abbrev pub top_key : TopKey → List ℕ
top_key Version = codes "version"
top_key Frames = codes "frames"
top_key PageBytes = codes "page_bytes"
top_key Workers = codes "workers"
top_key Waiting = codes "waiting"
top_key Flushes = codes "flushes"
top_key Region = codes "region"

-- A key of a region's table.
abbrev pub region_key : RegionKey → List ℕ
region_key Name = codes "name"
region_key First = codes "first"
region_key Count = codes "count"
region_key Class = codes "class"

-- The key at a spot.
abbrev pub key_of : Spot → List ℕ
key_of (Top k) = top_key k
key_of (InRegion i k) = region_key k

-- The keys of a document of each version.
abbrev pub document_keys : TextVersion → List (List ℕ)
document_keys One = top_key Frames ∷ top_key PageBytes ∷ top_key Workers ∷ top_key Flushes ∷ top_key Region ∷ []
document_keys Two =
    top_key Version ∷ top_key Frames ∷ top_key PageBytes ∷ top_key Workers ∷ top_key Waiting ∷ top_key Flushes
    ∷ top_key Region ∷ []

-- The keys of a region's table.
abbrev pub region_keys : List (List ℕ)
region_keys = region_key Name ∷ region_key First ∷ region_key Count ∷ region_key Class ∷ []

-- The keys that a table may have: the document's, or those of the region with this number.
abbrev pub known_keys : TextVersion → Option ℕ → List (List ℕ)
known_keys version None = document_keys version
known_keys version (Some i) = region_keys
