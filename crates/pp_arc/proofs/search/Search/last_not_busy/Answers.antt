-- What is left to show of Search::last_not_busy: where no page has a number, there is no mark and no freed page.
use Rattle.pp_arc.proofs.SearchLemmas.{blank_mark, blank_freed, unmarked}
use Rattle.pp_arc.proofs.search.Search.last_not_busy.Goals as goal

pub last_of_all-requires-clause-no_mark : goal.last_of_all-requires-clause-no_mark
last_of_all-requires-clause-no_mark g c =
    blank_mark (g.L.Lists.lists c.args.links.now) c.args.list c.args.self.now (g.B.Busy.busy c.args.busy.now)
    c.requires.cached
    (c.is_blank.ensures c.if-is_blank.true) c.requires.knows

pub last_of_all-requires-clause-none_freed : goal.last_of_all-requires-clause-none_freed
last_of_all-requires-clause-none_freed g c =
    blank_freed (g.L.Lists.lists c.args.links.now) c.args.list c.args.self.now (g.B.Busy.busy c.args.busy.now)
    c.requires.cached
    (c.is_blank.ensures c.if-is_blank.true) c.requires.knows

pub returns-then-is_blank-clause-marks : goal.returns-then-is_blank-clause-marks
returns-then-is_blank-clause-marks g c =
    unmarked (g.L.Lists.lists c.args.links.now) c.args.list c.last_of_all.new.self (g.B.Busy.busy c.args.busy.now)
    c.last_of_all.result
    c.requires.once c.requires.cached c.last_of_all.ensures.last c.last_of_all.ensures.mark c.last_of_all.ensures.knows
