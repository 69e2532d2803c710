-- What calls from C answer, and what they do to the cache that a handle holds.
use Rattle.std.specs.Prelude.{◌≡◌, ◌≤◌, ◌<◌, ◌+◌, ◌*◌, ℕ, max, Option, None, Some, zero, suc}
use Rattle.std.specs.Option.{MatchOption}
use Rattle.pp_cache.specs.declared.create.Create.{Create}
use Rattle.pp_cache.specs.declared.create.Create.TheVariants.{Never, IfRoom, Always}
use Rattle.pp_cache.specs.declared.left.Left.{Left}
use Rattle.pp_cache.specs.Frames.{resident_count, pinned_count}
use Rattle.pp_keyed.specs.Keyed.{Keyed}
use Rattle.pp_cache_c.specs.declared.counts.Counts.{Counts}
use Rattle.pp_cache_c.specs.declared.place.Place.{Place}
use Rattle.pp_cache_c.specs.declared.handle.Kept.{Kept}
use Rattle.pp_cache_c.specs.declared.status.Status.{Status}
use Rattle.pp_cache_c.specs.declared.status.Status.TheVariants.{Done, Hit, New, Nothing, NoCache, NoRoom, BadArgument}

-- The number by which C knows a status.
abbrev pub code : Status → ℕ
code Done = 0
code Hit = 1
code New = 2
code Nothing = 3
code NoCache = 4
code NoRoom = 5
code BadArgument = 6

-- What C's number says of how a fetch may create: 0, 1 and 2 in this order, and no other.
abbrev pub create_of : ℕ → Option Create
create_of zero = Some Never
create_of (suc zero) = Some IfRoom
create_of (suc (suc zero)) = Some Always
create_of (suc (suc (suc _))) = None

-- What C sees of a fetch that pinned a page in this frame, for which this page left.
abbrev pub place_of : ℕ → Option Left → Place
place_of frame None = record { frame = frame; left_key = 4294967295; left_frame = 0 }
place_of frame (Some left) = record { frame = frame; left_key = left.key; left_frame = left.frame }

-- What C sees of how much a cache has.
abbrev pub counts_of : Keyed → Counts
counts_of k = record {
  size = k.cache.lists.c;
  pages = resident_count k.cache.table;
  pinned = pinned_count k.cache.table;
  frames = k.cache.table.frames;
  names = k.room;
  used = k.used;
}

-- There is as much room for keys as before, and no more of it is used: so room that was made for a fetch stays.
abbrev pub KeepsRoom : Keyed → Keyed → Type 0
KeepsRoom old new = (new.room ≡ old.room) × (new.used ≤ old.used)

-- No room is taken away. It grows where all of it is used, and in no other case, to twice as much at most, or 16 places.
abbrev pub GrowsRoom : Keyed → Keyed → Type 0
GrowsRoom old new =
    (old.room ≤ new.room) × (old.used < old.room → new.room ≡ old.room) × (new.room ≤ max (2 * old.room) 16)

-- A handle holds a cache after the call exactly where it held one before, and these two caches are so.
abbrev pub Goes : (Keyed → Keyed → Type 0) → Option Kept → Option Kept → Type 0
Goes are old new =
    MatchOption old (new ≡ None) (λ before. MatchOption new ⊥ (λ after. are before.cache after.cache))
