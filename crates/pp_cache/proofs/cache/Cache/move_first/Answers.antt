-- What is left to show of Cache::move_first: the same pages are cached.
use Rattle.std.proofs.Common.{◌<◌, length, arith, ap, ◌∙◌, subst, sym}
use Rattle.pp_arc.specs.FourLists.{FourLists}
use Rattle.pp_cache.specs.Frames.{is_pinned}
use Rattle.pp_cache.specs.Cache.{PageCache}
use Rattle.pp_cache.proofs.CacheLemmas.{together-first, pages-renamed}
use Rattle.pp_cache.proofs.cache.Cache.move_first.Goals as goal

pub rename-requires : goal.rename-requires
rename-requires c =
    let low : c.args.key < length c.self.inside.frames.pages =
    subst (λ (w : PageCache). c.args.key < length w.table.pages) (sym c.self.view_is) c.requires.below in
    record { below = omega (arith, low, c.self.invariant.sound.together.keys) }

pub invariant_of-self : goal.invariant_of-self
invariant_of-self c =
    let s : PageCache = record { lists = c.self.inside.directory; table = c.self.inside.frames } in
    record {
      sound = record {
        bounds = c.rename.ensures.bounds;
        frames = c.self.invariant.sound.frames;
        together = together-first s c.rename.new.self c.args.key c.self.invariant.sound.together
            (ap (λ (w : FourLists). w.pages) c.rename.ensures.lists
            ∙ pages-renamed c.self.inside.directory c.args.key c.args.key)
            c.rename.ensures.cache;
      };
      knows = c.rename.ensures.knows (is_pinned c.self.inside.frames) (is_pinned c.self.inside.frames)
          c.self.invariant.knows (λ x no nn held. held);
    }
