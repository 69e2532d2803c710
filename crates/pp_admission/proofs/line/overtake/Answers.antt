use Rattle.std.proofs.Common.{◌≡◌, ◌<◌, get_or, arith, subst, sym}
use Rattle.pp_admission.specs.declared.waiting.Waiting.{Waiting}
use Rattle.pp_admission.specs.Queues.{overtaken_by}
use Rattle.pp_admission.proofs.Lines.{blank, one_more, as_it_was, all_changed, below_at}
use Rattle.pp_admission.proofs.line.overtake.Goals as goal

pub overtaken_by-requires : goal.overtaken_by-requires
overtaken_by-requires c =
    let i = c.loop-one.one-index in
    let same : get_or c.loop-one.one-items i blank ≡ get_or c.args.line.now i blank =
    as_it_was (overtaken_by c.args.ticket) c.args.line.now c.loop-one.one-items i blank (omega arith)
    c.loop-one.invariant in
    subst (λ (w : Waiting). w.ticket < c.args.ticket → w.overtaken < 4294967295) (sym same)
    (below_at 4294967295 c.args.ticket c.args.line.now i blank c.requires (omega arith))

pub loop-one-preserved : goal.loop-one-preserved
loop-one-preserved c = one_more (overtaken_by c.args.ticket) c.args.line.now c.loop-one.one-items c.loop-one.one-index
    c.overtaken_by.result blank c.loop-one-test.true c.loop-one.invariant c.overtaken_by.ensures

pub returns : goal.returns
returns c =
    all_changed (overtaken_by c.args.ticket) c.args.line.now c.loop-one.one-items c.loop-one.one-index (omega arith)
    c.loop-one.invariant
