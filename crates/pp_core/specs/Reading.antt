-- Two moves of a worker that are made by one call: a fix that hits and the latch S of its slot, and the unlatch of a slot and its
-- unfix.
use Rattle.std.specs.Prelude.{◌≡◌, ℕ, Bool, true, false, ◌&&◌, ◌==◌, Option, Some, List, [], ◌∷◌, ◌++◌}
use Rattle.pp_plan.specs.declared.action.Action.{Action}
use Rattle.pp_plan.specs.declared.action.Action.TheVariants as action
use Rattle.pp_plan.specs.declared.action.Ask.{Ask}
use Rattle.pp_plan.specs.declared.action.Ask.TheVariants as ask
use Rattle.pp_plan.specs.declared.mode.Mode.TheVariants as mode
use Rattle.pp_cursor.specs.Asked.{asked, region_has}
use Rattle.pp_cursor.specs.Cursor.{StandsFor as CursorStandsFor}
use Rattle.pp_cert.specs.declared.note.Held.TheVariants.{S}
use Rattle.pp_cert.specs.Accepted.{Acceptance}
use Rattle.pp_frames.specs.Marks.{latches_of, is_compatible}
use Rattle.pp_frames.specs.declared.mode.Mode.TheVariants as latch_mode
use Rattle.pp_model.specs.declared.moves.Move.{Move}
use Rattle.pp_model.specs.declared.moves.Move.TheVariants.{Fix, Latch, Unlatch}
use Rattle.pp_model.specs.declared.reply.Reply.{Reply}
use Rattle.pp_model.specs.declared.reply.Reply.TheVariants.{Hit}
use Rattle.pp_model.specs.Pool.{State}
use Rattle.pp_model.specs.Moves.{reply_of, next_of, is_possible}
use Rattle.pp_core.specs.Parts.{Parts}
use Rattle.pp_core.specs.StandsFor.{IsKept, Moves, Asks}
use Rattle.pp_core.specs.Queries.{ask_of, ask_holding}
use Rattle.pp_core.specs.declared.seat.Seat.{Seat}
use Rattle.pp_core.specs.Effects.{Runs, is_flying}

-- ---- one move behind another

-- The first move is done and answered so, and then the second. Between them are parts to which the first leads, and from which
-- the second goes on. (Gray and Reuter, chapter 13, have a fix that latches as well.)
pub record MovesTwo (old : Parts) (first : Move) (one : Reply) (second : Move) (two : Reply) (new : Parts) : Type 0 where
  pub between : Parts
  pub kept : IsKept between
  pub begins : Moves old first one between
  pub goes_on : Moves between second two new

-- ---- what is asked, and what is answered

-- Whether the plan asks a fix of the slot, the latch S of it, its unlatch, or its unfix. A gather is no fix, and a scatter no
-- unfix.
abbrev pub asks_fix : (slot : ℕ) → Option Ask → Bool
asks_fix slot (Some (ask.Fix of region)) = slot == of
asks_fix slot _ = false

abbrev pub asks_share : (slot : ℕ) → Option Ask → Bool
asks_share slot (Some (ask.Latch of mode.S)) = slot == of
asks_share slot _ = false

abbrev pub asks_unlatch : (slot : ℕ) → Option Ask → Bool
asks_unlatch slot (Some (ask.Unlatch of)) = slot == of
asks_unlatch slot _ = false

abbrev pub asks_unfix : (slot : ℕ) → Option Ask → Bool
asks_unfix slot (Some (ask.Unfix of)) = slot == of
asks_unfix slot _ = false

-- Whether a fix was answered at once.
abbrev pub is_hit : Reply → Bool
is_hit (Hit frame mark) = true
is_hit _ = false

-- ---- whether both can be made

-- Whether worker w can fix the page and latch it S at once: its plan asks a fix of the slot, that is a hit, behind it the plan
-- asks the latch S of the slot, and that is possible.
abbrev pub can_read : State → (w slot page : ℕ) → Bool
can_read s w slot page =
    asks_fix slot (ask_of s w) && is_hit (reply_of s (Fix w page)) && asks_share slot (ask_of (next_of s (Fix w page)) w)
    && is_possible (next_of s (Fix w page)) (Latch w)

-- Whether worker w can take the latch S off the page and unfix it at once: the slot holds the page S, its plan asks the unlatch
-- of the slot, and behind it the unfix of it. (Both moves are possible then.)
abbrev pub can_end_read : State → (w slot page : ℕ) → Bool
can_end_read s w slot page =
    asks_unlatch slot (ask_holding s w slot page S) && asks_unfix slot (ask_of (next_of s (Unlatch w)) w)

-- ---- inside the core

-- The plan of worker w asks this behind the action, as the worker's cursor tells it.
pub record AsksBehind (f : Parts) (w : ℕ) (a : Action) (next : Ask) : Type 0 where
  pub seat : Seat
  pub accepted : Acceptance
  pub runs : Runs f w seat accepted
  pub told : (before : List Action) → CursorStandsFor accepted.plan seat.cursor before
      → next ≡ asked accepted.plan (before ++ a ∷ [])

-- Worker w can fix the page of the region into the slot if it is cached, and latch it S then.
pub record CanRead (f : Parts) (w slot page region : ℕ) : Type 0 where
  pub asks : Asks f w (ask.Fix slot region)
  pub has : region_has f.layout region page ≡ true
  pub free : is_flying f page ≡ false
  pub behind : AsksBehind f w (action.Fix slot page) (ask.Latch slot mode.S)
  pub goes : true ≡ is_compatible latch_mode.S (latches_of f.marks page)
