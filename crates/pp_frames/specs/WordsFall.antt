-- The set of the words has a smaller limit than the set of the numbers.
use Rattle.std.specs.Prelude.{ℕ, ◌≤◌, max, List, length}
use Rattle.std.proofs.Common.{arith}
use Rattle.std.proofs.lemmas.List.FromFn.{length-map-range_with_len}
use Rattle.pp_frames.specs.declared.number_set.Above.{Above}
use Rattle.pp_frames.specs.declared.number_set.Above.TheVariants.{Nothing, Words}
use Rattle.pp_frames.specs.declared.number_set.NumberSet.TheDeep.{deep-Above}
use Rattle.pp_frames.specs.Words.{is_set, members_of, IsSummed}

pub depth_falls : (limit : ℕ) (words : List ℕ) (above : Above) → IsSummed limit words above
    → max (deep-Above above) 0 ≤ length (members_of limit words)
depth_falls limit words Nothing h = omega arith
depth_falls limit words (Words above) h =
    omega (arith, h.fewer, h.each, length-map-range_with_len (is_set words) 0 limit)
