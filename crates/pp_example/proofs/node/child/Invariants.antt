use Rattle.std.proofs.Common.{◌≡◌, IfSome, None}
use Rattle.pp_example.specs.Node.{LeadsTo, AreAbove}
use Rattle.pp_example.proofs.node.child.Given as goal

-- Of the entries so far, the last whose key isn't above the one that is looked for.
abbrev pub invariant-loop-number : goal.invariant-loop-number
invariant-loop-number l = record {
  some : IfSome l.found (λ page. LeadsTo l.body l.number l.key page);
  none : l.found ≡ None → AreAbove l.body l.number l.key;
}
