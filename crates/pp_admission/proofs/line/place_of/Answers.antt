use Rattle.std.proofs.Common.{arith}
use Rattle.pp_admission.proofs.Lines.{blank, found_at, not_at, nobody_holds}
use Rattle.pp_admission.proofs.line.place_of.Goals as goal

pub returns-then-one-ticket-clause-some : goal.returns-then-one-ticket-clause-some
returns-then-one-ticket-clause-some c = found_at c.args.ticket c.args.line.now c.loop-place.place blank (omega arith)
    c.loop-place.invariant (omega arith)

pub loop-place-preserved : goal.loop-place-preserved
loop-place-preserved c = not_at c.args.ticket c.args.line.now c.loop-place.place blank (omega arith)
    c.loop-place.invariant c.if-one-ticket.false

pub returns-clause-none : goal.returns-clause-none
returns-clause-none c = λ _. nobody_holds c.args.ticket c.args.line.now c.loop-place.place (omega arith)
    c.loop-place.invariant
