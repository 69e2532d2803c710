use Rattle.std.proofs.Common.{◌≡◌, Some, None, rules}
use Rattle.pp_core.specs.declared.seat.Phase.TheVariants.{Acting}
use Rattle.pp_core.specs.Parts.{parts_of}
use Rattle.pp_core.specs.Effects.{phase_of, acting_fault}
use Rattle.pp_core.proofs.Asking.{in_phase, acts, asks_this, cannot}
use Rattle.pp_core.proofs.table.Table.asked.Goals as goal

pub next_ask-requires : goal.next_ask-requires
next_ask-requires c =
    let f = parts_of c.args.self.now in
    let none : acting_fault (phase_of f c.args.worker) ≡ None = search rules in
    let at = in_phase f c.args.worker Acting (acts f c.args.worker none) in
    (at.seat, at.is_in)

pub returns-in-Some-clause-cause : goal.returns-in-Some-clause-cause
returns-in-Some-clause-cause c =
    let f = parts_of c.args.self.now in
    let some : acting_fault (phase_of f c.args.worker) ≡ Some c.in-Some.cause = search rules in
    cannot f c.args.worker c.in-Some.cause some

pub returns-in-None-clause-asks : goal.returns-in-None-clause-asks
returns-in-None-clause-asks c =
    let f = parts_of c.args.self.now in
    let none : acting_fault (phase_of f c.args.worker) ≡ None = search rules in
    asks_this f c.args.worker c.next_ask.result (acts f c.args.worker none) c.next_ask.ensures
