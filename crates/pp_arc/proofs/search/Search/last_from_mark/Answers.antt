-- What is left to show of Search::last_from_mark: no mark is at the page that was found.
use Rattle.pp_arc.proofs.SearchLemmas.{unmarked}
use Rattle.pp_arc.proofs.search.Search.last_from_mark.Goals as goal

pub returns-in-Some-clause-marks : goal.returns-in-Some-clause-marks
returns-in-Some-clause-marks g c =
    unmarked (g.L.Lists.lists c.args.links.now) c.args.list c.last_before.new.self (g.B.Busy.busy c.args.busy.now)
    c.last_before.result
    c.requires.once c.requires.cached c.last_before.ensures.last c.last_before.ensures.mark c.last_before.ensures.knows

pub returns-in-None-clause-marks : goal.returns-in-None-clause-marks
returns-in-None-clause-marks g c =
    unmarked (g.L.Lists.lists c.args.links.now) c.args.list c.last_of_all.new.self (g.B.Busy.busy c.args.busy.now)
    c.last_of_all.result
    c.requires.once c.requires.cached c.last_of_all.ensures.last c.last_of_all.ensures.mark c.last_of_all.ensures.knows
