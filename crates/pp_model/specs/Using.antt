-- Unfix, Latch, Unlatch and Choose: what an acting worker does without the device. Where the plan asks a scatter, an unfix
-- gives the whole bundle back.
use Rattle.std.specs.Prelude.{ℕ, Bool, true, false, nat_lt}
use Rattle.pp_plan.specs.declared.mode.Mode.{Mode}
use Rattle.pp_plan.specs.declared.mode.Mode.TheVariants as mode
use Rattle.pp_plan.specs.declared.action.Action.TheVariants as action
use Rattle.pp_plan.specs.declared.action.Ask.{Ask}
use Rattle.pp_plan.specs.declared.action.Ask.TheVariants as ask
use Rattle.pp_frames.specs.declared.mode.Mode.TheVariants as latch_mode
use Rattle.pp_frames.specs.Marks.{is_compatible}
use Rattle.pp_model.specs.declared.refusals.Delay.TheVariants.{LatchHeld}
use Rattle.pp_model.specs.declared.refusals.Cause.TheVariants.{NotAsked}
use Rattle.pp_model.specs.declared.reply.Reply.TheVariants.{Did, Latched, Unlatched}
use Rattle.pp_model.specs.Pool.{Running, State, mark_at}
use Rattle.pp_model.specs.Holders.{page_in, held_in, latches_of}
use Rattle.pp_model.specs.Outcome.{Outcome, not_now, off_plan, did, released}

-- ---- Unfix

abbrev pub unfix_asked : State → ℕ → Running → Ask → Outcome
unfix_asked s w r (ask.Unfix slot) = record { reply = Did; state = did s w r (action.Unfix slot) }
unfix_asked s w r (ask.Scatter slot) = record { reply = Did; state = did s w r (action.Scatter slot) }
unfix_asked s w r _ = off_plan s NotAsked

-- ---- Latch

-- Whether the latch goes with those that stand on the page: S with S, and X with none. (The asking slot has none.)
abbrev pub goes_with : State → Mode → (page : ℕ) → Bool
goes_with s mode.S page = is_compatible latch_mode.S (latches_of s page)
goes_with s mode.X page = is_compatible latch_mode.X (latches_of s page)

abbrev pub latch_where : State → ℕ → Running → (slot : ℕ) → Mode → Bool → Outcome
latch_where s w r slot m true =
    record { reply = Latched (mark_at s (page_in r slot)); state = did s w r (action.Latch slot m) }
latch_where s w r slot m false = not_now s LatchHeld

abbrev pub latch_asked : State → ℕ → Running → Ask → Outcome
latch_asked s w r (ask.Latch slot m) = latch_where s w r slot m (goes_with s m (page_in r slot))
latch_asked s w r _ = off_plan s NotAsked

-- ---- Unlatch

-- The state without the latch.
abbrev pub unlatched : State → Running → (slot : ℕ) → State
unlatched s r slot = released s (held_in r slot) (page_in r slot)

abbrev pub unlatch_asked : State → ℕ → Running → Ask → Outcome
unlatch_asked s w r (ask.Unlatch slot) =
    record {
      reply = Unlatched (mark_at (unlatched s r slot) (page_in r slot));
      state = did (unlatched s r slot) w r (action.Unlatch slot);
    }
unlatch_asked s w r _ = off_plan s NotAsked

-- ---- Choose

-- Whether the choice has such a branch.
abbrev pub choose_where : State → ℕ → Running → (branch : ℕ) → Bool → Outcome
choose_where s w r i true = record { reply = Did; state = did s w r (action.Choose i) }
choose_where s w r i false = off_plan s NotAsked

abbrev pub choose_asked : State → ℕ → Running → (branch : ℕ) → Ask → Outcome
choose_asked s w r i (ask.Choose n) = choose_where s w r i (nat_lt i n)
choose_asked s w r i _ = off_plan s NotAsked
