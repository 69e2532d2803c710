-- What is left to show of Cache::give_up_page: the victim, which isn't pinned, leaves its frame.
use Rattle.std.proofs.Common.{◌≡◌, false, ap, ◌∙◌}
use Rattle.std.specs.Prelude.{None}
use Rattle.pp_arc.specs.FourLists.{FourLists}
use Rattle.pp_cache.specs.Frames.{is_pinned}
use Rattle.pp_cache.specs.Cache.{PageCache}
use Rattle.pp_cache.proofs.CacheLemmas.{together-release, pages-given_up}
use Rattle.pp_cache.proofs.SearchTies.{Knows-page}
use Rattle.pp_cache.proofs.cache.Cache.give_up_page.Goals as goal

pub invariant_of-self : goal.invariant_of-self
invariant_of-self c =
    let s : PageCache = record { lists = c.self.inside.directory; table = c.self.inside.frames } in
    record {
      sound = record {
        bounds = c.give_up.ensures.bounds;
        frames = c.release.ensures.one_to_one;
        together =
            rw c.release.ensures.exact (together-release s c.give_up.new.self c.in-Some.victim
            c.self.invariant.sound.together
            (ap (λ (w : FourLists). w.pages) c.in-Some.ensures.lists
            ∙ pages-given_up c.self.inside.directory c.in-Some.victim)
            (λ x here. (c.in-Some.ensures.cache x).0 here)
            (λ x here ne. (c.in-Some.ensures.cache x).1 (here, ne)));
      };
      knows =
          Knows-page c.give_up.new.self c.give_up.new.search c.self.inside.frames c.release.new.self c.in-Some.victim None
          c.release.ensures.exact
          (λ was. let is : is_pinned c.self.inside.frames c.in-Some.victim ≡ false = c.in-Some.ensures.is_not_busy in
          absurd (cc))
          c.give_up.ensures.knows;
    }

pub returns-in-Some-clause-sound : goal.returns-in-Some-clause-sound
returns-in-Some-clause-sound c = (invariant_of-self c).sound
