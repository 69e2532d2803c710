-- What is left to show: a search that has passed over no page knows nothing wrong.
use Rattle.std.proofs.Common.{ap, arith}
use Rattle.pp_arc.specs.FourLists.{FourLists}
use Rattle.pp_test_parts.proofs.directory.looks.Goals as goal

pub victims-victims-requires-clause-knows : goal.victims-victims-requires-clause-knows
victims-victims-requires-clause-knows c =
    c.in_ok-search.ensures.knows c.in_ok-directory.directory _
    (omega (arith, ap (λ (w : FourLists). w.pages) c.in_ok-directory.ensures.empty))
