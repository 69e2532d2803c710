-- What is left to show of misses: a search that has passed over no page knows nothing wrong.
use Rattle.std.proofs.Common.{false, refl, ap, arith}
use Rattle.pp_arc.specs.FourLists.{FourLists}
use Rattle.pp_callers.proofs.directory.misses.Goals as goal

pub loop-page-init : goal.loop-page-init
loop-page-init c = record {
  pages = ap (λ (w : FourLists). w.pages) c.in_ok-directory.ensures.empty;
  knows =
      c.in_ok-search.ensures.knows c.in_ok-directory.directory (λ x. false)
      (omega (arith, ap (λ (w : FourLists). w.pages) c.in_ok-directory.ensures.empty));
  misses = omega arith;
}
