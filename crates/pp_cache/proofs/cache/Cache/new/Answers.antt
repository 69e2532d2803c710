-- What is left to show of Cache::new: an empty cache is sound, and its search passes over no page.
use Rattle.std.proofs.Common.{ap, subst, sym, arith}
use Rattle.pp_arc.specs.FourLists.{FourLists, empty_lists}
use Rattle.pp_arc.specs.Bounds.{IsWithinBounds}
use Rattle.pp_cache.specs.Frames.{FrameMap, is_pinned}
use Rattle.pp_cache.specs.Cache.{IsSound}
use Rattle.pp_cache.proofs.SearchTies.{sound-empty}
use Rattle.pp_cache.proofs.cache.Cache.new.Goals as goal

pub invariant_of-result : goal.invariant_of-result
invariant_of-result c = record {
  sound =
      subst (λ (l : FourLists). IsSound (record { lists = l; table = c.new-2.result })) (sym c.in_ok-growing.ensures.empty)
      (subst (λ (m : FrameMap). IsSound (record { lists = empty_lists c.args.size 0; table = m })) (sym c.new-2.ensures)
      (sound-empty c.args.size (subst IsWithinBounds c.in_ok-growing.ensures.empty c.in_ok-growing.ensures.bounds)));
  knows =
      c.in_ok-new.ensures.knows c.in_ok-growing.field-0 (is_pinned c.new-2.result)
      (omega (arith, ap (λ (w : FourLists). w.pages) c.in_ok-growing.ensures.empty));
}
