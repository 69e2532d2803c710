-- What is left to show of Directory::page_to_give_up: REPLACE's victim is cached and not busy, or all are busy.
use Rattle.pp_arc.specs.FourLists.{FourLists}
use Rattle.pp_arc.proofs.SizeLemmas.{gives_up}
use Rattle.pp_arc.proofs.directory.Directory.page_to_give_up.Goals as goal

pub returns-clause-all_busy : goal.returns-clause-all_busy
returns-clause-all_busy g c =
    let s : FourLists = record c.args.self.now { target = c.self.inside.target } in
    (gives_up s (g.B.Busy.busy c.args.busy.now) c.victim.result c.victim.ensures.victim).all_busy

pub returns-clause-is_cached : goal.returns-clause-is_cached
returns-clause-is_cached g c =
    let s : FourLists = record c.args.self.now { target = c.self.inside.target } in
    (gives_up s (g.B.Busy.busy c.args.busy.now) c.victim.result c.victim.ensures.victim).cached

pub returns-clause-is_not_busy : goal.returns-clause-is_not_busy
returns-clause-is_not_busy g c =
    let s : FourLists = record c.args.self.now { target = c.self.inside.target } in
    (gives_up s (g.B.Busy.busy c.args.busy.now) c.victim.result c.victim.ensures.victim).idle
