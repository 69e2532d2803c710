-- What is left to show of Cache::let_go: what isn't pinned any more is one of T1 or T2, and the search was told.
use Rattle.std.proofs.Common.{◌≡◌, true, false, rules}
use Rattle.pp_arc.specs.FourLists.{is_cached}
use Rattle.pp_cache.specs.Frames.{page_of, pinned_to}
use Rattle.pp_cache.specs.Cache.{PageCache}
use Rattle.pp_cache.proofs.CacheLemmas.{together-unpin}
use Rattle.pp_cache.proofs.SearchTies.{Knows-told}
use Rattle.pp_cache.proofs.cache.Cache.let_go.Goals as goal

pub invariant_of-self : goal.invariant_of-self
invariant_of-self c =
    let s : PageCache = record { lists = c.self.inside.directory; table = c.self.inside.frames } in
    let cached : is_cached c.self.inside.directory c.args.key ≡ true = search rules in
    record {
      sound = record {
        bounds = c.self.invariant.sound.bounds;
        frames = c.set_pinned.ensures.one_to_one;
        together =
            rw c.set_pinned.ensures.exact
            (together-unpin s c.args.key c.self.invariant.sound.together cached);
      };
      knows =
          Knows-told c.self.inside.directory c.self.inside.directory c.self.inside.search c.freed.new.search
          c.self.inside.frames c.set_pinned.new.self c.args.key
          (pinned_to false (page_of c.self.inside.frames c.args.key)) c.set_pinned.ensures.exact c.freed.ensures.knows
          c.self.invariant.knows;
    }
