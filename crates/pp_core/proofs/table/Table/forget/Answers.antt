-- What is left to show of Table::forget: what the search knows stays so.
use Rattle.pp_core.specs.Busy.{is_busy_in, page_of}
use Rattle.pp_core.proofs.table.Table.forget.Goals as goal

pub invariant_of-self-clause-knows : goal.invariant_of-self-clause-knows
invariant_of-self-clause-knows c =
    c.forget.ensures.knows (is_busy_in c.displace.new.self.marks (page_of c.displace.new.self.flush))
    (is_busy_in c.displace.new.self.marks (page_of c.displace.new.self.flush)) c.displace.new.self.knows (λ y ne h. h)
