-- What is left to show of Cache::move_page: the page is cached under its new key where it was cached before.
use Rattle.std.proofs.Common.{◌<◌, length, subst, sym, ap, ◌∙◌}
use Rattle.pp_arc.specs.FourLists.{FourLists}
use Rattle.pp_cache.specs.Cache.{PageCache}
use Rattle.pp_cache.proofs.CacheLemmas.{together-rekey, pages-renamed}
use Rattle.pp_cache.proofs.SearchTies.{Knows-moved}
use Rattle.pp_cache.proofs.cache.Cache.move_page.Goals as goal

pub returns-clause-sound : goal.returns-clause-sound
returns-clause-sound c =
    let s : PageCache = record { lists = c.self.inside.directory; table = c.self.inside.frames } in
    let low : c.args.new < length c.self.inside.frames.pages =
    subst (λ (w : PageCache). c.args.new < length w.table.pages) (sym c.self.view_is) c.requires.room in
    record {
      bounds = c.rename-2.ensures.bounds;
      frames = c.rename.ensures.one_to_one;
      together =
          rw (c.rename.ensures.exact, c.release.ensures.exact) (together-rekey s c.rename-2.new.self c.args.old
          c.args.new c.self.invariant.sound.together c.requires.other low
          (ap (λ (w : FourLists). w.pages) c.rename-2.ensures.lists
          ∙ pages-renamed c.self.inside.directory c.args.old c.args.new)
          c.rename-2.ensures.cache);
    }

pub invariant_of-self : goal.invariant_of-self
invariant_of-self c = record {
  sound = returns-clause-sound c;
  knows = Knows-moved c.self.inside.directory c.rename-2.new.self c.self.inside.search c.rename-2.new.search
      c.self.inside.frames c.release.new.self c.rename.new.self c.args.old c.args.new c.release.ensures.exact
      c.rename.ensures.exact c.rename-2.ensures.knows c.self.invariant.knows;
}
