use Rattle.std.proofs.Common.{arith}
use Rattle.pp_admission.specs.Queues.{marked}
use Rattle.pp_admission.proofs.Lines.{blank, one_more, all_changed}
use Rattle.pp_admission.proofs.line.mark.Goals as goal

pub loop-one-preserved : goal.loop-one-preserved
loop-one-preserved c = one_more (marked c.args.ticket c.args.is_asleep) c.args.line.now c.loop-one.one-items
    c.loop-one.one-index c.marked.result blank c.loop-one-test.true c.loop-one.invariant c.marked.ensures

pub returns : goal.returns
returns c =
    all_changed (marked c.args.ticket c.args.is_asleep) c.args.line.now c.loop-one.one-items c.loop-one.one-index
    (omega arith) c.loop-one.invariant
