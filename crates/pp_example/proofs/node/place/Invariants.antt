use Rattle.pp_example.specs.Node.{AreOthers}
use Rattle.pp_example.proofs.node.place.Given as goal

-- None of the entries so far has the key.
abbrev pub invariant-loop-number : goal.invariant-loop-number
invariant-loop-number l = AreOthers l.body l.number l.key
