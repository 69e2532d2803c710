use Rattle.std.proofs.Common.{◌≡◌, All, length, map}
use Rattle.std.specs.List.{range_with_len}
use Rattle.pp_test_durable.specs.Leaves.{blank_leaf}
use Rattle.pp_test_durable.proofs.crashing.Crashing.new.Given as goal

abbrev pub invariant-loop-page : goal.invariant-loop-page
invariant-loop-page l =
    (l.leaves.items ≡ map (blank_leaf l.page_bytes) (range_with_len 0 l.page)) × All (λ image. length image.shown ≡ l.page_bytes) l.leaves.items
