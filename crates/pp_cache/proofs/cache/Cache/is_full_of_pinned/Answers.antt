-- What is left to show of Cache::is_full_of_pinned: where as many pages are pinned as stand in frames, each one is.
use Rattle.std.proofs.Common.{subst}
use Rattle.pp_arc.specs.Laws.{AllCachedAreBusy}
use Rattle.pp_cache.specs.Frames.{is_pinned}
use Rattle.pp_cache.specs.Cache.{PageCache}
use Rattle.pp_cache.proofs.LawLemmas.{all_pinned}
use Rattle.pp_cache.proofs.cache.Cache.is_full_of_pinned.Goals as goal

pub returns-then-is_full-clause-all_pinned : goal.returns-then-is_full-clause-all_pinned
returns-then-is_full-clause-all_pinned c = λ same.
    let s : PageCache = record { lists = c.self.inside.directory; table = c.self.inside.frames } in
    subst (λ (w : PageCache). AllCachedAreBusy w.lists (is_pinned w.table)) c.self.view_is
    (all_pinned s c.resident.result c.pinned.result c.self.invariant.sound.together c.resident.ensures c.pinned.ensures same)
