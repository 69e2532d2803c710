-- What is left to show of Cache::forget_last: the page keeps its frame, and its pin.
use Rattle.std.proofs.Common.{ap, subst, sym}
use Rattle.std.specs.Prelude.{IsTrue}
use Rattle.pp_arc.specs.FourLists.{FourLists, is_cached}
use Rattle.pp_arc.specs.Laws.{AllCachedAreBusy}
use Rattle.pp_cache.specs.Frames.{is_pinned}
use Rattle.pp_cache.specs.Cache.{PageCache}
use Rattle.pp_cache.proofs.CacheLemmas.{together-beyond}
use Rattle.pp_cache.proofs.cache.Cache.forget_last.Goals as goal

pub invariant_of-self : goal.invariant_of-self
invariant_of-self c =
    let s : PageCache = record { lists = c.self.inside.directory; table = c.self.inside.frames } in
    let all : AllCachedAreBusy s.lists (is_pinned s.table) =
    subst (λ (w : PageCache). AllCachedAreBusy w.lists (is_pinned w.table)) (sym c.self.view_is) c.requires.all_pinned in
    let here : IsTrue (is_cached s.lists c.in-Some.page) =
    subst (λ (w : PageCache). IsTrue (is_cached w.lists c.in-Some.page)) (sym c.self.view_is)
    (c.last_cached.ensures.cached c.in-Some.page c.in-Some.is) in
    record {
      sound = record {
        bounds = c.forget.ensures.bounds;
        frames = c.self.invariant.sound.frames;
        together =
            together-beyond s c.forget.new.self c.in-Some.page c.self.invariant.sound.together
            (ap (λ (w : FourLists). w.pages) c.forget.ensures.lists) all here c.forget.ensures.cache;
      };
      knows =
          c.forget.ensures.knows (is_pinned c.self.inside.frames) (is_pinned c.self.inside.frames) c.self.invariant.knows
          (λ x ne held. held);
    }
