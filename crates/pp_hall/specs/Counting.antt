-- What is counted of the moves of a pool.
use Rattle.std.specs.Prelude.{ℕ, ◌+◌, ◌-◌, ◌^◌, min, true, false, Option, None, Some}
use Rattle.pp_model.specs.declared.moves.Move.{Move}
use Rattle.pp_model.specs.declared.moves.Move.TheVariants.{Fix, FlushDone, Finish}
use Rattle.pp_model.specs.declared.reply.Ending.TheVariants.{Done, Gone}
use Rattle.pp_model.specs.declared.reply.Reply.{Reply}
use Rattle.pp_model.specs.declared.reply.Reply.TheVariants.{Hit, MustRead, MustWrite, Flushed, Finished}
use Rattle.pp_model.specs.declared.event.Event.{Event}
use Rattle.pp_model.specs.declared.event.Event.TheVariants.{Submit, Step}
use Rattle.pp_hall.specs.declared.counts.Counts.{Counts}

-- One more, up to the greatest number of 64 bits.
abbrev pub raised : ℕ → ℕ
raised n = min (n + 1) (2 ^ 64 - 1)

-- Nothing was counted yet.
abbrev pub no_counts : Counts
no_counts = record {
  hits = 0;
  misses = 0;
  write_backs = 0;
  flushes = 0;
  failed_flushes = 0;
  done = 0;
  gone = 0;
}

-- What a move that was answered so adds: a fix of a page that was cached, or for which the device has to read, and
-- perhaps first to write its victim back; a flush that ended, well or not; and a plan that ended, at its end or before
-- it.
abbrev pub counted_step : Counts → Move → Reply → Counts
counted_step c (Fix w page) (Hit frame mark) = record c { hits = raised c.hits }
counted_step c (Fix w page) (MustRead frame) = record c { misses = raised c.misses }
counted_step c (Fix w page) (MustWrite frame victim) =
    record c { misses = raised c.misses; write_backs = raised c.write_backs }
counted_step c (FlushDone true) (Flushed clean) = record c { flushes = raised c.flushes }
counted_step c (FlushDone false) (Flushed clean) = record c { failed_flushes = raised c.failed_flushes }
counted_step c (Finish w) (Finished Done) = record c { done = raised c.done }
counted_step c (Finish w) (Finished Gone) = record c { gone = raised c.gone }
counted_step c _ _ = c

-- What an event adds; a submit adds nothing.
abbrev pub counted : Counts → Event → Counts
counted c (Submit plan) = c
counted c (Step did reply) = counted_step c did reply

-- The same of one event, or none.
abbrev pub counted_in : Counts → Option Event → Counts
counted_in c None = c
counted_in c (Some e) = counted c e
