use Rattle.std.proofs.Common.{IfSome}
use Rattle.std.specs.List.{Contains}
use Rattle.pp_locate.specs.Words.{texts}
use Rattle.pp_locate.proofs.words.nearest.Given as goal

abbrev pub invariant-loop-other : goal.invariant-loop-other
invariant-loop-other l = IfSome l.found (λ other. Contains (texts l.known) other.now)
