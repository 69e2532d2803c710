-- Outsets: what a life of a pool begins with besides its settings. A new pool's is empty. A later life begins with what the
-- life before left.
use Rattle.std.specs.Prelude.{◌≡◌, ℕ, List, map, length, replicate, slice_index_or}
use Rattle.std.specs.List.{range_with_len}
use Rattle.pp_settings.specs.Layout.{page_count}
use Rattle.pp_arc.specs.FourLists.{FourLists, empty_lists}
use Rattle.pp_frames.specs.Marks.{PageMap, frame_of, is_dirty, stamp_of, page_count as marked_pages}
use Rattle.pp_model.specs.Pool.{Settings, State, Note, untouched, opening}
use Rattle.pp_core.specs.Parts as core

pub record Outset : Type 0 where
  -- ARC's lists and target
  pub lists : FourLists
  -- at place p the note of page p: its frame, whether it is newer than the device's, and its mark
  pub notes : List Note

-- The outset of a new pool: nothing is cached or remembered, and nothing was ever done with any page.
abbrev pub new_outset : Settings → Outset
new_outset k =
    record {
      lists = empty_lists k.layout.frames (page_count k.layout);
      notes = replicate (page_count k.layout) untouched;
    }

-- The outset that a life leaves which ends in this state.
abbrev pub outset_of : State → Outset
outset_of s = record { lists = s.lists; notes = s.notes }

-- The opening state of a life with this outset: each worker idle, no plan, no flush begun.
abbrev pub opens_with : Settings → Outset → State
opens_with k o = record (opening k) { lists = o.lists; notes = o.notes }

-- ---- the outset beside a core

-- The outset is of a pool with as many frames and pages as the core's. So it has room for what the core leaves.
pub record HasRoomFor (o : Outset) (f : core.Parts) : Type 0 where
  pub frames : o.lists.c ≡ f.lists.c
  pub pages : o.lists.pages ≡ f.lists.pages
  pub notes : length o.notes ≡ marked_pages f.marks

-- The note of a page in the map of the marks; and those of all pages.
abbrev pub note_in : PageMap → ℕ → Note
note_in m page = record { frame = frame_of m page; dirty = is_dirty m page; mark = stamp_of m page }

abbrev pub notes_in : PageMap → List Note
notes_in m = map (note_in m) (range_with_len 0 (marked_pages m))

-- The note of a page. A page past the last one is untouched.
abbrev pub note_at : Outset → ℕ → Note
note_at o page = slice_index_or o.notes page untouched
