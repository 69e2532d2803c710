use Rattle.std.proofs.Common.{get_or, sym, subst, arith}
use Rattle.pp_run.specs.Agreeing.{Agrees}
use Rattle.pp_run.proofs.Agreements.{agrees_first, none_yet}
use Rattle.pp_run.proofs.comparing.agreement.Goals as goal

pub loop-place-init : goal.loop-place-init
loop-place-init g c w count x low long =
    let log = (get_or c.args.worked.now w x).log.items in
    subst (λ o. Agrees o log w c.args.events.now.items 0) (sym (none_yet 32 w count low)) (agrees_first log w c.args.events.now.items)

pub loop-place-preserved : goal.loop-place-preserved
loop-place-preserved g c = c.compare.ensures c.loop-place.invariant

pub returns : goal.returns
returns g c w count x low long =
    subst (λ i. Agrees (get_or c.loop-place.counts w count) (get_or c.args.worked.now w x).log.items w c.args.events.now.items i)
    (omega (arith, c.loop-place-test.false, c.loop-place.auto.place-end)) (c.loop-place.invariant w count x low long)
