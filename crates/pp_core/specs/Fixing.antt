-- What the calls of a fix need of what the core keeps, and what they do to it.
use Rattle.std.specs.Prelude.{◌≡◌, ℕ, ◌-◌, ◌<◌, ◌≤◌, true, Option, None, Some, IsSome, unwrap_or, length, slice_set}
use Rattle.pp_plan.specs.declared.action.Ask.{Ask}
use Rattle.pp_plan.specs.declared.action.Ask.TheVariants as ask
use Rattle.pp_model.specs.Fixing.{fixes}
use Rattle.pp_frames.specs.Marks.{PageMap, pins_of, frame_of, all_pins, least_free, with_frame}
use Rattle.pp_core.specs.declared.seat.Phase.TheVariants.{Writing, Reading}
use Rattle.pp_core.specs.declared.seat.Seat.{Seat}
use Rattle.pp_core.specs.Parts.{Parts}
use Rattle.pp_core.specs.Effects.{IsIn, CanAct, HasRecord, frame_at, placed}

-- The slot and the region for which an ask wants a page: a fix, or a gather.
abbrev pub wanted : Ask → Option (ℕ × ℕ)
wanted (ask.Fix slot region) = Some (slot, region)
wanted (ask.Gather slot region) = Some (slot, region)
wanted _ = None

-- The action by which the page goes into the slot can be done, and the page pinned.
pub record CanHit (f : Parts) (w : ℕ) (k : Ask) (slot page : ℕ) : Type 0 where
  pub can : CanAct f w (fixes k slot page)
  pub record_free : HasRecord w (fixes k slot page) f.bundles
  pub placed : IsSome (frame_of f.marks page)
  pub room : all_pins f.marks < f.marks.frames
  pub budget : 3 ≤ f.budget

-- The least frame in which no page stands.
abbrev pub free_frame : PageMap → ℕ
free_frame m = unwrap_or (least_free m) 0

-- The page can be put into a free frame, and pinned.
pub record CanFill (f : Parts) (w page : ℕ) : Type 0 where
  pub seat : (x : Seat) × IsIn f w x
  pub low : page < length f.marks.pages
  pub flight : page < length f.in_flight
  pub unpinned : pins_of f.marks page ≡ 0
  pub room : all_pins f.marks < f.marks.frames
  pub free : IsSome (least_free f.marks)
  pub budget : 2 ≤ f.budget

abbrev pub filled : Parts → ℕ → Seat → (slot page : ℕ) → Parts
filled f w x slot page =
    record f {
      seats = slice_set f.seats w (Some (record x { phase = Reading slot page }));
      marks = placed f.marks page (free_frame f.marks);
      in_flight = slice_set f.in_flight page true;
      budget = f.budget - 2;
    }

-- The victim has a frame and no pin, and the page can be put there and be pinned.
pub record CanTakeOver (m : PageMap) (page victim : ℕ) : Type 0 where
  pub victim_placed : frame_of m victim ≡ Some (frame_at m victim)
  pub victim_unpinned : pins_of m victim ≡ 0
  pub frame : frame_at m victim < m.frames
  pub low : page < length (with_frame m victim None).pages
  pub unpinned : pins_of (with_frame m victim None) page ≡ 0
  pub room : all_pins (with_frame m victim None) < m.frames

abbrev pub taken_over : PageMap → (page victim : ℕ) → PageMap
taken_over m page v = placed (with_frame m v None) page (frame_at m v)

pub record CanEvict (f : Parts) (w page victim : ℕ) : Type 0 where
  pub seat : (x : Seat) × IsIn f w x
  pub flight : page < length f.in_flight
  pub takes : CanTakeOver f.marks page victim
  pub budget : 2 ≤ f.budget

abbrev pub evicted : Parts → ℕ → Seat → (slot page victim : ℕ) → Parts
evicted f w x slot page v =
    record f {
      seats = slice_set f.seats w (Some (record x { phase = Reading slot page }));
      marks = taken_over f.marks page v;
      in_flight = slice_set f.in_flight page true;
      budget = f.budget - 2;
    }

pub record CanSend (f : Parts) (w page victim : ℕ) : Type 0 where
  pub seat : (x : Seat) × IsIn f w x
  pub flight : page < length f.in_flight
  pub victim_flight : victim < length f.in_flight
  pub takes : CanTakeOver f.marks page victim
  pub budget : 1 ≤ f.budget

abbrev pub sent : Parts → ℕ → Seat → (slot page victim : ℕ) → Parts
sent f w x slot page v =
    record f {
      seats = slice_set f.seats w (Some (record x { phase = Writing slot page v }));
      marks = taken_over f.marks page v;
      in_flight = slice_set (slice_set f.in_flight page true) v true;
      budget = f.budget - 1;
    }
