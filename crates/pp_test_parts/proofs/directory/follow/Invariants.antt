-- What the loop keeps true: the directory's page numbers.
use Rattle.std.proofs.Common.{◌≡◌}
use Rattle.pp_test_parts.proofs.directory.follow.Given as goal

abbrev pub invariant-loop-row : goal.invariant-loop-row
invariant-loop-row g l = l.directory.pages ≡ 64
