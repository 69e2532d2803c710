use Rattle.std.proofs.Common.{drop}
use Rattle.pp_words.specs.CommandLine.{texts}
use Rattle.pp_cli.specs.Clashes.{IsApart}
use Rattle.pp_cli.proofs.clashing.named_again.Given as goal

abbrev pub invariant-loop-other : goal.invariant-loop-other
invariant-loop-other g l = IsApart l.word (texts (drop l.other-index l.others)) → IsApart l.word (texts l.others)
