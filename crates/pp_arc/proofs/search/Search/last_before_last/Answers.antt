-- What is left to show of Search::last_before_last: what is known once the search passed over the last page.
use Rattle.std.proofs.Common.{sym, subst}
use Rattle.pp_arc.specs.FourLists.{list_of}
use Rattle.pp_arc.specs.Search.{SearchMarks, KnowsBusy, NoneFreed}
use Rattle.pp_arc.proofs.SizeLemmas.{contains-last}
use Rattle.pp_arc.proofs.SearchLemmas.{room_for, none_passed, KnowsBusy-start}
use Rattle.pp_arc.proofs.search.Search.last_before_last.Goals as goal

pub pass-requires-clause-below : goal.pass-requires-clause-below
pass-requires-clause-below g c =
    room_for (g.L.Lists.lists c.args.links.now) c.args.list c.args.last c.args.self.now (g.B.Busy.busy c.args.busy.now)
    c.requires.below (contains-last (list_of (g.L.Lists.lists c.args.links.now) c.args.list) c.args.last
    c.requires.last) c.requires.knows

pub last_before-requires-clause-knows : goal.last_before-requires-clause-knows
last_before-requires-clause-knows g c =
    subst (λ (w : SearchMarks). KnowsBusy (g.L.Lists.lists c.args.links.now) w (g.B.Busy.busy c.args.busy.now)) (sym
    (c.pass.ensures.exact c.if-pass.true))
    (KnowsBusy-start (g.L.Lists.lists c.args.links.now) c.args.list c.args.last c.args.self.now (g.B.Busy.busy
    c.args.busy.now)
    c.requires.once c.requires.below c.requires.cached c.requires.none_freed c.requires.busy c.pass.ensures.low
    c.requires.last c.requires.knows)

pub last_before-requires-clause-none_freed : goal.last_before-requires-clause-none_freed
last_before-requires-clause-none_freed g c =
    subst (λ (w : SearchMarks). NoneFreed w c.args.list) (sym (c.pass.ensures.exact c.if-pass.true))
    (none_passed c.args.self.now c.args.list c.args.last 4294967295 c.requires.none_freed)
