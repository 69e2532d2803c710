-- What is left to show of Cache::new: a search that has passed over no page knows nothing wrong.
use Rattle.std.proofs.Common.{ap, arith, rules}
use Rattle.pp_arc.specs.FourLists.{FourLists}
use Rattle.pp_callers.specs.Cache.{is_pinned}
use Rattle.pp_callers.proofs.cache.Cache.new.Goals as goal

pub returns-clause-knows : goal.returns-clause-knows
returns-clause-knows c =
    c.in_ok-new-2.ensures.knows c.in_ok-new.field-0 (is_pinned c.in_ok-new-3.field-0)
    (omega (arith, ap (λ (w : FourLists). w.pages) c.in_ok-new.ensures.empty))

pub returns-clause-sound : goal.returns-clause-sound
returns-clause-sound c = rw (c.in_ok-new.ensures.empty, c.in_ok-new-3.ensures.exact) (record {
  pages = search rules;
  marked_pages = search rules;
  frames = search rules;
  cached = search rules;
  unlatched = search rules;
})
