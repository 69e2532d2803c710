use Rattle.std.proofs.Common.{◌≡◌, ℕ, ◌<◌, false}
use Rattle.pp_frames.specs.Marks.{stamp_of, has_reached}
use Rattle.pp_frames.proofs.marks.Marks.first_stamped.Given as goal

abbrev pub invariant-loop-page : goal.invariant-loop-page
invariant-loop-page l = (k : ℕ) → k < l.page → has_reached l.limit (stamp_of l.self k) ≡ false
