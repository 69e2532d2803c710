use Rattle.std.proofs.Common.{arith, subst}
use Rattle.pp_report.specs.Lines.{HasNumbers}
use Rattle.pp_report.proofs.Whole.{one_before}
use Rattle.pp_served.proofs.numbers.have_numbers.Goals as goal

pub loop-place-preserved : goal.loop-place-preserved
loop-place-preserved c = λ rest.
    c.loop-place.invariant
    (one_before HasNumbers c.args.events.now.items c.loop-place.place c.event.result
    (omega (arith, c.loop-place-test.true, c.len-place-end.ensures))
    (subst HasNumbers c.event.ensures c.has_numbers.ensures) rest)
