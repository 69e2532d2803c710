use Rattle.pp_hall.specs.Closing.{ComesBy}
use Rattle.pp_hall.proofs.closing.flush_all.Given as goal

abbrev pub invariant-loop : goal.invariant-loop
invariant-loop g l = ComesBy l.fn.flusher.site l.flusher.site
