-- What is left to show: a search that has passed over no page knows nothing wrong.
use Rattle.std.proofs.Common.{ap, arith}
use Rattle.pp_arc.specs.FourLists.{FourLists}
use Rattle.pp_bench.proofs.pinned.play_held.Goals as goal

pub misses-requires-clause-knows : goal.misses-requires-clause-knows
misses-requires-clause-knows c =
    c.in_ok-search.ensures.knows c.in_ok-directory.directory _
    (omega (arith, ap (λ (w : FourLists). w.pages) c.in_ok-directory.ensures.empty))
