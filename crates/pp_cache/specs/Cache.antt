-- A page cache: ARC's four lists of keys, beside the frames of their pages.
use Rattle.std.specs.Prelude.{◌≡◌, ℕ, ◌+◌, ◌-◌, ◌*◌, ◌/◌, min, max, Bool, true, false, not, ◌&&◌, nat_lt, nat_le, ◌==◌}
use Rattle.std.specs.Prelude.{Option, None, Some, is_some, unwrap_or, IsSome, IsTrue, IsFalse, length, if◌then◌else◌, zero, suc}
use Rattle.std.specs.List.{filter}
use Rattle.std.specs.Option.{option_or}
use Rattle.pp_arc.specs.declared.answer.Answer.{Answer}
use Rattle.pp_arc.specs.declared.answer.Answer.TheVariants.{Evict}
use Rattle.pp_arc.specs.Pages.{last_page}
use Rattle.pp_arc.specs.FourLists.{FourLists, empty_lists, is_cached, cached_count}
use Rattle.pp_arc.specs.Bounds.{IsWithinBounds}
use Rattle.pp_arc.specs.Figure.{request, forget}
use Rattle.pp_arc.specs.Sizes.{with_pages, given_up, after_giving_up, resized, renamed}
use Rattle.pp_cache.specs.declared.create.Create.{Create}
use Rattle.pp_cache.specs.declared.create.Create.TheVariants.{Never, IfRoom, Always}
use Rattle.pp_cache.specs.declared.leaving.Leaving.{Leaving}
use Rattle.pp_cache.specs.declared.leaving.Leaving.TheVariants.{From, Idle}
use Rattle.pp_cache.specs.declared.left.Left.{Left}
use Rattle.pp_cache.specs.Frames.{FrameMap, no_frames, page_of, frame_of, is_pinned, pinned_count, with_page, with_pinned}
use Rattle.pp_cache.specs.Frames.{moved, with_keys, with_free_frame, IsOneToOne}

-- ARC's lists name keys. T1 and T2 are those of the pages that stand in frames, but for pages beyond the size of the
-- cache, which are all pinned; B1 and B2 are those of pages that left.
pub record PageCache : Type 0 where
  pub lists : FourLists
  pub table : FrameMap

-- Nothing is cached, and there is room for no key.
abbrev pub empty_cache : ℕ → PageCache
empty_cache size = record { lists = empty_lists size 0; table = no_frames }

-- ---- a page is asked for

-- ARC's request for the page of a key, while the pinned pages may not leave.
abbrev pub asked : PageCache → ℕ → Answer × FourLists
asked s key = request s.lists key (is_pinned s.table)

-- The page of a key, which stands in a frame, is pinned. ARC is asked for it, but where it was pinned already: fetches
-- during one use are one reference. (Correlated references, in the words of O'Neil, O'Neil and Weikum, "The LRU-K Page
-- Replacement Algorithm", SIGMOD 1993.)
abbrev pub after_pin : PageCache → ℕ → PageCache
after_pin s key =
    if is_pinned s.table key then s
    else record { lists = (asked s key).1; table = with_pinned s.table key true }

-- The victim of an answer has no frame any more.
abbrev pub without_victim : FrameMap → Answer → FrameMap
without_victim m (Evict victim) = with_page m victim None
without_victim m _ = m

-- Who left, by an answer of ARC's: its victim, and the frame that it had. (A victim is cached, so it has one.)
abbrev pub left_of : FrameMap → Answer → Option Left
left_of m (Evict victim) = Some (record { key = victim; frame = unwrap_or (frame_of m victim) 0 })
left_of m _ = None

-- The page of a key that stood in no frame gets this one, and is pinned. ARC is asked for it, and its victim leaves.
-- Where each cached page is pinned, the answer is AllBusy: the lists stay, and the page stands beyond the size of the
-- cache.
abbrev pub after_bring_in : PageCache → ℕ → ℕ → PageCache
after_bring_in s key frame =
    record {
      lists = (asked s key).1;
      table =
          with_page (without_victim s.table (asked s key).0) key (Some (record { frame = frame; is_pinned = true }));
    }

-- As many pages are pinned as nine of ten of the cache's size, rounded down: all that SQLite's own cache lets be dirty.
abbrev pub is_crowded : PageCache → Bool
is_crowded s = nat_le (s.lists.c * 9 / 10) (pinned_count s.table)

-- Whether a page that stands in no frame may be brought in.
abbrev pub may_bring_in : PageCache → Create → Bool
may_bring_in s Never = false
may_bring_in s IfRoom = not (is_crowded s)
may_bring_in s Always = true

-- ---- room for keys

-- Each key is below this number.
abbrev pub most_keys : ℕ
most_keys = 4294967292

-- There is room for so many keys.
abbrev pub grown : PageCache → ℕ → PageCache
grown s keys = record { lists = with_pages s.lists keys; table = with_keys s.table keys }

-- For how many keys there is room where this one comes: for twice as many as before at least, so that the cost of
-- growth is constant on average.
abbrev pub keys_for : ℕ → ℕ → ℕ
keys_for keys key = min (max (2 * keys) (key + 1)) most_keys

-- There is room for this key.
abbrev pub with_key : PageCache → ℕ → PageCache
with_key s key =
    if nat_lt key (length s.table.pages) then s else grown s (keys_for (length s.table.pages) key)

-- There is room for this key, and a frame for one more page.
abbrev pub with_room : PageCache → ℕ → PageCache
with_room s key = record (with_key s key) { table = with_free_frame (with_key s key).table }

-- ---- a page is let go

-- The page of a key leaves its frame, and its name leaves the lists.
abbrev pub dropped : PageCache → ℕ → PageCache
dropped s key = record { lists = forget s.lists key; table = with_page s.table key None }

-- The pin is taken off the page of a key. Where it is discarded, or stands beyond the size of the cache, it leaves its
-- frame; a discarded page isn't remembered. A page that isn't pinned stays as it is.
abbrev pub after_unpin : PageCache → ℕ → Bool → PageCache
after_unpin s key discard =
    if not (is_pinned s.table key) then s
    else
    (if discard then dropped s key
    else record s {
      table = if is_cached s.lists key then with_pinned s.table key false else with_page s.table key None;
    })

-- The page of the key `old` has the key `new` from now on, in its frame, and its name in its list. What had that key is
-- dropped.
abbrev pub moved_page : PageCache → ℕ → ℕ → PageCache
moved_page s old new =
    record { lists = renamed s.lists old new; table = moved (with_page s.table new None) old new }

-- The same, where these are two keys and the page stands in a frame.
abbrev pub after_rekey : PageCache → ℕ → ℕ → PageCache
after_rekey s old new =
    if (old == new) then s else (if is_some (page_of s.table old) then moved_page s old new else s)

-- ---- many pages at once

-- A list of keys without those that fail the test, and four such lists.
abbrev pub lists_where : (ℕ → Bool) → FourLists → FourLists
lists_where test s =
    record s { t1 = filter test s.t1; t2 = filter test s.t2; b1 = filter test s.b1; b2 = filter test s.b2 }

-- The new cache has the pages and names of the old one whose keys pass the test, and no others.
pub record KeepsOnly (test : ℕ → Bool) (old new : PageCache) : Type 0 where
  pub lists : new.lists ≡ lists_where test old.lists
  pub pages : (key : ℕ) → page_of new.table key ≡ (if test key then page_of old.table key else None)
  pub frames : new.table.frames ≡ old.table.frames

-- Whether the page of a key stands in a frame for no user.
abbrev pub is_idle : FrameMap → ℕ → Bool
is_idle m key = is_some (page_of m key) && not (is_pinned m key)

-- Whether the page of a key isn't one of those that leave.
abbrev pub stays : Leaving → FrameMap → ℕ → Bool
stays (From limit) m key = nat_lt key limit
stays Idle m key = not (is_idle m key)

-- The last page of T1, else of T2.
abbrev pub last_cached : FourLists → Option ℕ
last_cached s = option_or (last_page s.t1) (last_page s.t2)

-- One page fewer is cached: REPLACE's victim leaves its frame and is remembered. Where each cached page is pinned, the
-- last one leaves the lists, and stands beyond the size of the cache.
abbrev pub one_fewer_of : PageCache → Option ℕ → Option ℕ → PageCache
one_fewer_of s (Some victim) last =
    record { lists = after_giving_up s.lists (Some victim); table = with_page s.table victim None }
one_fewer_of s None (Some page) = record s { lists = forget s.lists page }
one_fewer_of s None None = s

abbrev pub one_fewer : PageCache → PageCache
one_fewer s = one_fewer_of s (given_up s.lists (is_pinned s.table)) (last_cached s.lists)

-- So many pages fewer are cached.
abbrev pub fewer : ℕ → PageCache → PageCache
fewer zero s = s
fewer (suc n) s = fewer n (one_fewer s)

-- The cache has this size from now on. Pages leave one by one until so many are cached at most, and then the lists are
-- cut to the bounds.
abbrev pub after_resize : PageCache → ℕ → PageCache
after_resize s size =
    record (fewer (cached_count s.lists - size) s) {
      lists = resized (fewer (cached_count s.lists - size) s).lists size;
    }

-- ---- what holds whatever calls were made

-- The lists and the frames speak of the same pages.
pub record IsTogether (s : PageCache) : Type 0 where
  -- there is room for as many keys in the lists as beside the frames
  pub keys : s.lists.pages ≡ length s.table.pages
  -- a page of T1 or T2 stands in a frame
  pub cached_has_frame : (key : ℕ) → IsTrue (is_cached s.lists key) → IsSome (page_of s.table key)
  -- a page that stands in a frame and isn't pinned is one of T1 or T2, which have c pages at most together
  pub unpinned_is_cached : (key : ℕ) → IsSome (page_of s.table key) → IsFalse (is_pinned s.table key)
      → IsTrue (is_cached s.lists key)

-- ARC's bounds hold, no frame has the pages of two keys, and the lists and the frames speak of the same pages.
pub record IsSound (s : PageCache) : Type 0 where
  pub bounds : IsWithinBounds s.lists
  pub frames : IsOneToOne s.table
  pub together : IsTogether s

-- Each pinned page stays pinned in its frame.
abbrev pub PinnedStay : FrameMap → FrameMap → Type 0
PinnedStay old new = (key : ℕ) → IsTrue (is_pinned old key) → page_of new key ≡ page_of old key

-- Each page and each list is as before. There may be room for more keys, and for one more page.
pub record SamePages (old new : PageCache) : Type 0 where
  pub lists : new.lists ≡ with_pages old.lists new.lists.pages
  pub pages : (key : ℕ) → page_of new.table key ≡ page_of old.table key
