-- What the flusher's moves do to what the core keeps.
use Rattle.std.specs.Prelude.{ℕ, ◌-◌, ◌==◌, ◌&&◌, Bool, true, false, None, Some}
use Rattle.pp_arc.specs.FourLists.{is_cached}
use Rattle.pp_frames.specs.Marks.{PageMap, is_dirty, with_dirty}
use Rattle.pp_core.specs.declared.table.Flush.{Flush}
use Rattle.pp_core.specs.Parts.{Parts}
use Rattle.pp_core.specs.Effects.{mark_at}

-- The page is cached and newer than the device's.
abbrev pub is_changed : Parts → ℕ → Bool
is_changed f page = is_cached f.lists page && is_dirty f.marks page

-- A flush of the page, which has this mark, is in flight.
abbrev pub flush_begun : Parts → (page mark : ℕ) → Parts
flush_begun f page mark =
    record f {
      flush = Some (record { page = page; began = mark });
      flushes_left = f.flushes_left - 1;
      budget = f.budget - 1;
    }

-- The device has the page as it is: it was written, and has the mark that it had as its flush began.
abbrev pub is_clean : PageMap → Bool → Flush → Bool
is_clean m ok f = ok && (mark_at m f.page == f.began)

-- The page is clean if it is told so; else nothing changes.
abbrev pub cleaned : PageMap → ℕ → Bool → PageMap
cleaned m page true = with_dirty m page false
cleaned m page false = m

-- The flush is over, and the page clean or not.
abbrev pub flush_ended : Parts → ℕ → Bool → Parts
flush_ended f page clean = record f { marks = cleaned f.marks page clean; flush = None; budget = f.budget - 1 }
