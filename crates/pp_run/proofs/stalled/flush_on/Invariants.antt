use Rattle.pp_run.specs.GoingOn.{GoesOn}
use Rattle.pp_run.proofs.stalled.flush_on.Given as goal

abbrev pub invariant-loop : goal.invariant-loop
invariant-loop g l = GoesOn l.fn.flusher.site.book l.flusher.site.book
