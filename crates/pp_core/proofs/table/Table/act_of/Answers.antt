use Rattle.pp_core.specs.Draining.{host_of}
use Rattle.pp_core.specs.Parts.{parts_of}
use Rattle.pp_core.proofs.DrainTies.{goes, leaving_decided}
use Rattle.pp_core.proofs.table.Table.act_of.Goals as goal

pub leave-requires-clause-open : goal.leave-requires-clause-open
leave-requires-clause-open g c =
    goes (parts_of c.args.self.now) c.args.worker c.in-Err.field-0 c.requires.open c.in-Err.ensures.cause

pub returns-in-Err-clause-decided : goal.returns-in-Err-clause-decided
returns-in-Err-clause-decided g c =
    let d = g.D.Decide in
    leaving_decided (host_of d.picks d.chooses d.reads d.writes d.flushes) (parts_of c.args.self.now) c.args.worker
    c.args.decide.now c.leave.result c.leave.ensures.goes
