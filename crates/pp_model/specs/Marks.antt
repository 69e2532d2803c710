-- The marks of all pages as one function of the state: what the map of the frames' crate has to be.
use Rattle.std.specs.Prelude.{ℕ, length, map}
use Rattle.std.specs.List.{range_with_len}
use Rattle.pp_frames.specs.Marks.{PageMarks, PageMap}
use Rattle.pp_model.specs.Pool.{State, note_of}
use Rattle.pp_model.specs.Holders.{pins_of, latches_of}

-- What is marked of a page: its note, and its pins and latches counted over all slots.
abbrev pub marks_at : State → ℕ → PageMarks
marks_at s page =
    record {
      frame = (note_of s page).frame;
      pins = pins_of s page;
      latches = latches_of s page;
      dirty = (note_of s page).dirty;
      stamp = (note_of s page).mark;
    }

abbrev pub marks : State → PageMap
marks s =
    record { frames = s.settings.layout.frames; pages = map (marks_at s) (range_with_len 0 (length s.notes)) }
