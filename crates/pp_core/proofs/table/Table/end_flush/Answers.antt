-- What is left to show of Table::end_flush: the search is told of the page.
use Rattle.std.proofs.Common.{ap, ◌∙◌}
use Rattle.pp_core.specs.Parts.{Parts}
use Rattle.pp_core.specs.Busy.{page_of}
use Rattle.pp_core.proofs.KnowsTies.{Knows-flush_over}
use Rattle.pp_core.proofs.table.Table.end_flush.Goals as goal

pub invariant_of-self-clause-knows : goal.invariant_of-self-clause-knows
invariant_of-self-clause-knows c =
    Knows-flush_over c.set_clean_if.new.self.directory c.set_clean_if.new.self.search c.freed.new.search
    c.set_clean_if.new.self.marks (page_of c.set_clean_if.new.self.flush) c.args.page
    (ap (λ (f : Parts). page_of f.flush) c.set_clean_if.ensures ∙ c.requires.flush) c.freed.ensures.knows
    c.set_clean_if.new.self.knows
