-- What an event tells of the costs of a pool.
use Rattle.std.specs.Prelude.{Bool, true, false}
use Rattle.pp_model.specs.declared.event.Event.{Event}
use Rattle.pp_model.specs.declared.event.Event.TheVariants.{Step}
use Rattle.pp_model.specs.declared.moves.Move.TheVariants.{WriteDone, FlushDone}
use Rattle.pp_model.specs.declared.reply.Reply.TheVariants.{Hit, Loaded}

-- A page that is fixed was cached.
abbrev pub is_hit : Event → Bool
is_hit (Step did (Hit frame mark)) = true
is_hit _ = false

-- A page was read.
abbrev pub is_load : Event → Bool
is_load (Step did (Loaded mark)) = true
is_load _ = false

-- A changed page was written, because its frame was wanted.
abbrev pub is_write_back : Event → Bool
is_write_back (Step (WriteDone worker true) reply) = true
is_write_back _ = false

-- A page was written by the flusher.
abbrev pub is_flush : Event → Bool
is_flush (Step (FlushDone true) reply) = true
is_flush _ = false
