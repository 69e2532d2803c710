-- What is left to show of Cache::drop_page: what leaves the lists leaves its frame, and the search was told.
use Rattle.std.proofs.Common.{ap}
use Rattle.std.specs.Prelude.{None}
use Rattle.pp_arc.specs.FourLists.{FourLists}
use Rattle.pp_cache.specs.Cache.{PageCache}
use Rattle.pp_cache.proofs.CacheLemmas.{together-release}
use Rattle.pp_cache.proofs.SearchTies.{Knows-told}
use Rattle.pp_cache.proofs.cache.Cache.drop_page.Goals as goal

pub invariant_of-self : goal.invariant_of-self
invariant_of-self c =
    let s : PageCache = record { lists = c.self.inside.directory; table = c.self.inside.frames } in
    record {
      sound = record {
        bounds = c.forget.ensures.bounds;
        frames = c.release.ensures.one_to_one;
        together =
            rw c.release.ensures.exact (together-release s c.forget.new.self c.args.key c.self.invariant.sound.together
            (ap (λ (w : FourLists). w.pages) c.forget.ensures.lists)
            (λ x here. (c.forget.ensures.cache x).0 here)
            (λ x here ne. (c.forget.ensures.cache x).1 (here, ne)));
      };
      knows =
          Knows-told c.self.inside.directory c.forget.new.self c.self.inside.search c.forget.new.search
          c.self.inside.frames c.release.new.self c.args.key None c.release.ensures.exact c.forget.ensures.knows
          c.self.invariant.knows;
    }
