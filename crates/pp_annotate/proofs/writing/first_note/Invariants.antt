use Rattle.std.proofs.Common.{◌≡◌}
use Rattle.pp_plan.specs.Rules.{uses_bundle}
use Rattle.pp_annotate.specs.Growth.{risen_below}
use Rattle.pp_annotate.proofs.writing.first_note.Given as goal

abbrev pub invariant-loop-slot : goal.invariant-loop-slot
invariant-loop-slot l = l.first.items ≡ risen_below l.stop l.slot (uses_bundle l.plan.body) l.turns l.body l.before
