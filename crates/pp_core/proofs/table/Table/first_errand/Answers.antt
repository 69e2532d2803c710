use Rattle.std.proofs.Common.{◌∙◌, true, false, sym, ap, arith}
use Rattle.std.specs.Option.{is_some}
use Rattle.pp_core.specs.Parts.{parts_of}
use Rattle.pp_core.proofs.TurnTies.{Tells, errands, seats_few, none_below_next, least_found, none_found, errand_tells}
use Rattle.pp_core.proofs.table.Table.first_errand.Goals as goal

pub workers-worker-end-requires : goal.workers-worker-end-requires
workers-worker-end-requires c = seats_few (parts_of c.args.self.now) c.requires

pub returns-then-is_some : goal.returns-then-is_some
returns-then-is_some c =
    let f = parts_of c.args.self.now in
    let w = c.loop-worker.worker in
    let tells : Tells f errands w true =
    errand_tells f w true (sym c.if-is_some.true ∙ c.is_some.ensures ∙ ap is_some c.errand.ensures) in
    least_found f errands w c.loop-worker.invariant tells (omega (arith, c.workers-worker-end.ensures))

pub loop-worker-preserved : goal.loop-worker-preserved
loop-worker-preserved c =
    let f = parts_of c.args.self.now in
    let w = c.loop-worker.worker in
    let tells : Tells f errands w false =
    errand_tells f w false (sym c.if-is_some.false ∙ c.is_some.ensures ∙ ap is_some c.errand.ensures) in
    none_below_next f errands w c.loop-worker.invariant tells

pub returns : goal.returns
returns c =
    none_found (parts_of c.args.self.now) errands c.loop-worker.worker c.loop-worker.invariant
    (omega (arith, c.workers-worker-end.ensures))
