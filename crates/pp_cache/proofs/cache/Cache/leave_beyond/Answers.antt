-- What is left to show of Cache::leave_beyond: the page was none of T1 or T2, and the search was told.
use Rattle.std.proofs.Common.{◌≡◌, true, false, refl, sym, subst, ◌∙◌}
use Rattle.std.specs.Prelude.{None}
use Rattle.pp_arc.specs.FourLists.{is_cached}
use Rattle.pp_cache.specs.Cache.{PageCache}
use Rattle.pp_cache.proofs.CacheLemmas.{together-release}
use Rattle.pp_cache.proofs.SearchTies.{Knows-told}
use Rattle.pp_cache.proofs.cache.Cache.leave_beyond.Goals as goal

pub invariant_of-self : goal.invariant_of-self
invariant_of-self c =
    let s : PageCache = record { lists = c.self.inside.directory; table = c.self.inside.frames } in
    let away : is_cached s.lists c.args.key ≡ false =
    subst (λ (w : PageCache). is_cached w.lists c.args.key ≡ false) (sym c.self.view_is) c.requires.beyond in
    record {
      sound = record {
        bounds = c.self.invariant.sound.bounds;
        frames = c.release.ensures.one_to_one;
        together =
            rw c.release.ensures.exact (together-release s c.self.inside.directory c.args.key
            c.self.invariant.sound.together refl
            (λ x here. (here, λ e. let n : false ≡ true = sym away ∙ (rw e at here) in cc))
            (λ x here ne. here));
      };
      knows =
          Knows-told c.self.inside.directory c.self.inside.directory c.self.inside.search c.freed.new.search
          c.self.inside.frames c.release.new.self c.args.key None c.release.ensures.exact c.freed.ensures.knows
          c.self.invariant.knows;
    }
