-- What the loop in lengthened keeps true.
use Rattle.pp_names.specs.Ordered.{IsLengthened}
use Rattle.pp_names.proofs.names.lengthened.Given as goal

abbrev pub invariant-loop-name : goal.invariant-loop-name
invariant-loop-name l = IsLengthened l.order l.longer.items l.name
