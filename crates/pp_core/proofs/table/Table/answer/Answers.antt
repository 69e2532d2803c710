use Rattle.std.proofs.Common.{◌∙◌, sym}
use Rattle.pp_core.specs.Draining.{host_of}
use Rattle.pp_core.specs.Parts.{parts_of}
use Rattle.pp_core.proofs.DrainTies.{write_answer, read_answer, write_decided, read_decided, some_errand}
use Rattle.pp_core.proofs.table.Table.answer.Goals as goal

pub unreachable-requires : goal.unreachable-requires
unreachable-requires g c =
    some_errand (parts_of c.args.self.now) c.args.worker c.requires.kept c.requires.open
    (sym c.in-None.is ∙ c.errand.ensures)

pub returns-in-Some-default-default-Some-clause-possible : goal.returns-in-Some-default-default-Some-clause-possible
returns-in-Some-default-default-Some-clause-possible g c =
    let out = c.in-Some-default-default-Some in
    write_answer (parts_of c.args.self.now) c.args.worker out.field-0-0 out.field-0-1 out.victim out.field-0-2
    c.wrote.result c.requires.open (sym out.is ∙ c.errand.ensures) out.field-0-2-is

pub returns-in-Some-default-default-Some-clause-decided : goal.returns-in-Some-default-default-Some-clause-decided
returns-in-Some-default-default-Some-clause-decided g c =
    let out = c.in-Some-default-default-Some in
    let d = g.D.Decide in
    write_decided (host_of d.picks d.chooses d.reads d.writes d.flushes) (parts_of c.args.self.now) c.args.worker
    out.field-0-0 out.field-0-1 out.victim out.field-0-2 c.wrote.result c.args.decide.now c.wrote.new.self
    c.requires.open (sym out.is ∙ c.errand.ensures) out.field-0-2-is c.wrote.ensures.told

pub returns-in-Some-default-default-None-clause-possible : goal.returns-in-Some-default-default-None-clause-possible
returns-in-Some-default-default-None-clause-possible g c =
    let out = c.in-Some-default-default-None in
    read_answer (parts_of c.args.self.now) c.args.worker out.field-0-0 out.page out.field-0-2 c.came.result
    c.requires.open (sym out.is ∙ c.errand.ensures) out.field-0-2-is

pub returns-in-Some-default-default-None-clause-decided : goal.returns-in-Some-default-default-None-clause-decided
returns-in-Some-default-default-None-clause-decided g c =
    let out = c.in-Some-default-default-None in
    let d = g.D.Decide in
    read_decided (host_of d.picks d.chooses d.reads d.writes d.flushes) (parts_of c.args.self.now) c.args.worker
    out.field-0-0 out.page out.field-0-2 c.came.result c.args.decide.now c.came.new.self c.requires.open
    (sym out.is ∙ c.errand.ensures) out.field-0-2-is c.came.ensures.given
