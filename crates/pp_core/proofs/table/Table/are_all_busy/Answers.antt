use Rattle.std.proofs.Common.{◌≤◌, rules}
use Rattle.pp_frames.specs.Marks.{page_count}
use Rattle.pp_core.specs.Parts.{parts_of}
use Rattle.pp_core.proofs.RefusalTies.{all_below}
use Rattle.pp_core.proofs.table.Table.are_all_busy.Goals as goal

pub returns-clause-all : goal.returns-clause-all
returns-clause-all c e =
    let f = parts_of c.args.self.now in
    let le : page_count f.marks ≤ c.loop-page.page = search rules in
    all_below f c.requires c.loop-page.page le c.loop-page.invariant
