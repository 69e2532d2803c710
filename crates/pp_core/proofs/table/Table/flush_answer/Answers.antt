use Rattle.pp_core.specs.Draining.{host_of}
use Rattle.pp_core.specs.Parts.{parts_of}
use Rattle.pp_core.proofs.DrainTies.{flush_decided, some_flush}
use Rattle.pp_core.proofs.table.Table.flush_answer.Goals as goal

pub unreachable-requires : goal.unreachable-requires
unreachable-requires g c = some_flush (parts_of c.args.self.now) c.requires.kept c.requires.open c.in-None.is

pub returns-clause-decided : goal.returns-clause-decided
returns-clause-decided g c =
    let d = g.D.Decide in
    flush_decided (host_of d.picks d.chooses d.reads d.writes d.flushes) (parts_of c.args.self.now) c.in-Some.flush
    c.flushed.result c.args.decide.now c.flushed.new.self c.in-Some.is c.flushed.ensures.told
