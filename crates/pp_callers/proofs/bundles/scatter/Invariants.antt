-- What the loop of scatter keeps true: the other bundles are as before. The bundle itself gets shorter.
use Rattle.std.proofs.Common.{◌≡◌, ◌≢◌, ℕ, length}
use Rattle.pp_bundles.specs.Bundles.{pages_at}
use Rattle.pp_callers.proofs.bundles.scatter.Given as goal

abbrev pub invariant-loop-page : goal.invariant-loop-page
invariant-loop-page l = (k : ℕ) → k ≢ l.bundle → pages_at l.bundles k ≡ pages_at l.fn.bundles k

abbrev pub decreases-loop-page : goal.decreases-loop-page
decreases-loop-page l = length (pages_at l.bundles l.bundle)
