use Rattle.std.proofs.Common.{arith}
use Rattle.pp_admission.proofs.Lines.{blank, fits_at, stops_at, passes_at, nobody_next}
use Rattle.pp_admission.proofs.line.next_of.Goals as goal

pub returns-then-one-room : goal.returns-then-one-room
returns-then-one-room c = fits_at c.args.bypass c.args.room c.args.line.now c.loop-one.one-index blank (omega arith)
    c.loop-one.invariant (omega arith)

pub returns-then-one-bypass : goal.returns-then-one-bypass
returns-then-one-bypass c = stops_at c.args.bypass c.args.room c.args.line.now c.loop-one.one-index blank (omega arith)
    c.loop-one.invariant (omega arith) (omega arith)

pub loop-one-preserved : goal.loop-one-preserved
loop-one-preserved c = passes_at c.args.bypass c.args.room c.args.line.now c.loop-one.one-index blank (omega arith)
    c.loop-one.invariant (omega arith) (omega arith)

pub returns : goal.returns
returns c =
    nobody_next c.args.bypass c.args.room c.args.line.now c.loop-one.one-index (omega arith) c.loop-one.invariant
