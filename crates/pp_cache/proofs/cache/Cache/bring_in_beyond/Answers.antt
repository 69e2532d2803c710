-- What is left to show of Cache::bring_in_beyond: ARC finds nobody who may leave, and changes nothing.
use Rattle.std.proofs.Common.{subst, sym, ap, ◌∙◌}
use Rattle.std.specs.Prelude.{Some}
use Rattle.pp_arc.specs.declared.answer.Answer.{Answer}
use Rattle.pp_arc.specs.FourLists.{FourLists}
use Rattle.pp_cache.specs.Frames.{with_page, IsFree}
use Rattle.pp_cache.specs.Cache.{PageCache, IsSound, without_victim, left_of}
use Rattle.pp_cache.proofs.FrameLemmas.{new_page}
use Rattle.pp_cache.proofs.LawLemmas.{nobody_leaves, brought_beyond}
use Rattle.pp_cache.proofs.cache.Cache.bring_in_beyond.Goals as goal

pub returns-clause-exact : goal.returns-clause-exact
returns-clause-exact c =
    let sound : IsSound c.args.self.now = subst IsSound c.self.view_is c.self.invariant.sound in
    ap (λ table. record { lists = c.self.inside.directory; table = table }) c.take.ensures.exact
    ∙ ap (λ (w : PageCache). record {
      lists = w.lists;
      table = with_page w.table c.args.key (Some (new_page c.take.result));
    }) c.self.view_is
    ∙ sym (brought_beyond c.args.self.now c.args.key c.take.result sound c.requires.absent c.requires.full
    c.requires.all_pinned)

pub returns-clause-free : goal.returns-clause-free
returns-clause-free c =
    let sound : IsSound c.args.self.now = subst IsSound c.self.view_is c.self.invariant.sound in
    subst (λ (done : Answer × FourLists). IsFree (without_victim c.args.self.now.table done.0) c.take.result)
    (sym (nobody_leaves c.args.self.now c.args.key sound c.requires.absent c.requires.full c.requires.all_pinned))
    (subst (λ (w : PageCache). IsFree w.table c.take.result) c.self.view_is c.take.ensures.free)

pub returns-clause-left : goal.returns-clause-left
returns-clause-left c =
    let sound : IsSound c.args.self.now = subst IsSound c.self.view_is c.self.invariant.sound in
    ap (λ (done : Answer × FourLists). left_of c.args.self.now.table done.0)
    (sym (nobody_leaves c.args.self.now c.args.key sound c.requires.absent c.requires.full c.requires.all_pinned))
