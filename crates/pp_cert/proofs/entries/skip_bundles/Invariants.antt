use Rattle.std.proofs.Common.{◌≡◌, length}
use Rattle.pp_cert.specs.Notes.{skipped}
use Rattle.pp_cert.proofs.entries.skip_bundles.Given as goal

abbrev pub invariant-loop-first : goal.invariant-loop-first
invariant-loop-first l = skipped l.left ≡ skipped l.note

abbrev pub decreases-loop-first : goal.decreases-loop-first
decreases-loop-first l = length l.left
