-- What NumberSet::full keeps as it goes on.
use Rattle.std.proofs.Common.{ℕ, ◌≡◌, ◌<◌, length, true}
use Rattle.pp_frames.specs.Numbers.{is_member}
use Rattle.pp_frames.proofs.number_set.NumberSet.full.Given as goal

abbrev pub invariant-loop-number : goal.invariant-loop-number
invariant-loop-number l = (length l.set ≡ l.limit) × ((k : ℕ) → k < l.number → is_member l.set k ≡ true)
