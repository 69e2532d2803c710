-- A cache of keys that lie far apart: each key that it knows has a name, and a cache of these names does the work.
-- Contracts see it as the cache of the keys.
use Rattle.std.specs.Prelude.{◌≡◌, ◌⊎◌, ℕ, ◌+◌, ◌*◌, ◌<◌, ◌≤◌, max, Bool, false, ◌&&◌, ◌||◌, nat_le, nat_lt, Option, None, Some, is_some, unwrap_or, List, ◌∷◌}
use Rattle.std.specs.Prelude.{length, replicate, slice_set, refl, if◌then◌else◌}
use Rattle.std.specs.Option.{option_map}
use Rattle.pp_arc.specs.FourLists.{empty_lists, place}
use Rattle.pp_cache.specs.declared.left.Left.{Left}
use Rattle.pp_cache.specs.declared.resident.Resident.{Resident}
use Rattle.pp_cache.specs.Frames.{page_of, with_free_frame}
use Rattle.pp_cache.specs.Cache.{PageCache, IsSound}
use Rattle.pp_names.specs.Names.{key_of, named_count, IsUnnamed, IsOneToOne}
use Rattle.pp_keyed.specs.Renamed.{lists_by}

-- Each key is below this number, 4294967292. (A definition of its own, so that no proof goes over a list of so many places.)
pub key_count : ℕ
key_count = 4294967292

-- That number, for proofs that compare with it.
pub key_count-is : key_count ≡ 4294967292
unfolding key_count
key_count-is = refl

-- ---- the cache of keys that a cache of names stands for

-- what a name stands for: its key; or, where it has none, a number past all keys
abbrev pub key_or_past : List (Option ℕ) → ℕ → ℕ
key_or_past names name = unwrap_or (key_of names name) (key_count + name)

-- The pages of the names, each at the place of the name's key, among so many places.
abbrev pub placed : ℕ → List (Option ℕ) → List (Option Resident) → List (Option Resident)
placed keys (Some key ∷ names) (page ∷ pages) = slice_set (placed keys names pages) key page
placed keys (None ∷ names) (page ∷ pages) = placed keys names pages
placed keys _ _ = replicate keys None

-- The cache in which each name gives way to its key.
abbrev pub by_keys : List (Option ℕ) → PageCache → PageCache
by_keys names c =
    record {
      lists = lists_by (key_or_past names) key_count c.lists;
      table = record { frames = c.table.frames; pages = placed key_count names c.table.pages };
    }

-- A cache of keys; for how many keys there is room, and how many of these places are used: each key that stands in a
-- list, or whose page stands in a frame, uses one.
pub record Keyed : Type 0 where
  pub cache : PageCache
  pub room : ℕ
  pub used : ℕ

-- What names and a cache of names stand for.
abbrev pub keyed : List (Option ℕ) → PageCache → Keyed
keyed names c = record { cache = by_keys names c; room = length names; used = named_count names }

-- Nothing is cached.
abbrev pub empty_keyed : ℕ → PageCache
empty_keyed size =
    record {
      lists = empty_lists size key_count;
      table = record { frames = 0; pages = replicate key_count None };
    }

-- There is a frame for one more page.
abbrev pub with_frame : PageCache → PageCache
with_frame s = record s { table = with_free_frame s.table }

-- ---- what holds whenever no call is under way

-- whether a name stands in a list, or its page in a frame
abbrev pub stands : PageCache → ℕ → Bool
stands c name = is_some (place c.lists name) || is_some (page_of c.table name)

-- Where there is room for so many names, the cache has room for none or for 16 at least, and for no more than 16 or twice as many:
-- names grow after the cache, and may find no memory.
abbrev pub IsSpare : ℕ → ℕ → Type 0
IsSpare names keys = (keys ≤ max (2 * names) 16) × (0 < keys → 16 ≤ keys)

-- The names stand for what a cache of names has.
pub record IsKeyed (names : List (Option ℕ)) (c : PageCache) : Type 0 where
  pub sound : IsSound c
  -- no key has two names, and each is below the number of keys
  pub one_to_one : IsOneToOne names
  pub below : (name key : ℕ) → key_of names name ≡ Some key → key < key_count
  -- there is room for each name in the cache
  pub room : length names ≤ length c.table.pages
  pub fits : length c.table.pages ≤ 4294967292
  pub spare : IsSpare (length names) (length c.table.pages)
  -- a name has a key while it stands in a list, or its page in a frame, and no longer
  pub named : (name : ℕ) → is_some (key_of names name) ≡ stands c name

-- ---- names are given and taken

-- The name has the key: it had it, or it is one that had none, and the key had none.
pub record IsGiven (old new : List (Option ℕ)) (key name : ℕ) : Type 0 where
  pub named : key_of new name ≡ Some key
  pub low : name < length old
  pub way : (new ≡ old) ⊎ ((key_of old name ≡ None) × IsUnnamed old key × (new ≡ slice_set old name (Some key)))

-- The page that left, by its key.
abbrev pub key_of_left : List (Option ℕ) → Option Left → Option Left
key_of_left names None = None
key_of_left names (Some left) = option_map (λ key. record left { key = key }) (key_of names left.key)

-- Its name.
abbrev pub name_of_left : Option Left → Option ℕ
name_of_left left = option_map (λ (page : Left). page.key) left

-- A name loses its key where it stands in no list and its page in no frame.
abbrev pub unused_taken : List (Option ℕ) → PageCache → Option ℕ → List (Option ℕ)
unused_taken names c None = names
unused_taken names c (Some name) = if stands c name then names else slice_set names name None

-- So it is with each name.
pub record IsSwept (old new : List (Option ℕ)) (c : PageCache) : Type 0 where
  pub size : length new ≡ length old
  pub each : (name : ℕ) → key_of new name ≡ (if stands c name then key_of old name else None)

-- ---- one of many keys

-- Whether an optional key is one from the limit on.
abbrev pub is_from : ℕ → Option ℕ → Bool
is_from limit None = false
is_from limit (Some key) = nat_le limit key

-- The lower of two keys, where the second one is at least `from`.
abbrev pub lower_key : Option ℕ → ℕ → Option ℕ → Option ℕ
lower_key first from None = first
lower_key None from (Some key) = if nat_le from key then Some key else None
lower_key (Some least) from (Some key) = if nat_le from key && nat_lt key least then Some key else Some least
