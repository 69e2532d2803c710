-- What is left to show of Table::unpin: the search is told of the page.
use Rattle.pp_frames.specs.Marks.{marks_of, pins_of}
use Rattle.pp_core.specs.Busy.{page_of}
use Rattle.std.proofs.Common.{◌-◌}
use Rattle.pp_core.proofs.KnowsTies.{Knows-unpin}
use Rattle.pp_core.proofs.table.Table.unpin.Goals as goal

pub invariant_of-self-clause-knows : goal.invariant_of-self-clause-knows
invariant_of-self-clause-knows c =
    Knows-unpin c.args.self.now.directory c.args.self.now.search c.freed.new.search c.args.self.now.marks
    c.unpin.new.self (page_of c.args.self.now.flush) c.args.page
    (record (marks_of c.args.self.now.marks c.args.page) { pins = pins_of c.args.self.now.marks c.args.page - 1 })
    c.unpin.ensures.exact c.freed.ensures.knows c.args.self.now.knows
