use Rattle.std.proofs.Common.{◌∙◌, true, false, sym, arith}
use Rattle.pp_core.specs.Parts.{parts_of}
use Rattle.pp_core.proofs.TurnTies.{Tells, idles, seats_few, none_below_next, least_found, none_found, idle_tells}
use Rattle.pp_core.proofs.table.Table.first_idle.Goals as goal

pub workers-worker-end-requires : goal.workers-worker-end-requires
workers-worker-end-requires c = seats_few (parts_of c.args.self.now) c.requires

pub returns-then-is_idle : goal.returns-then-is_idle
returns-then-is_idle c =
    let f = parts_of c.args.self.now in
    let w = c.loop-worker.worker in
    let tells : Tells f idles w true =
    idle_tells f w true (sym c.if-is_idle.true ∙ c.is_idle.ensures) in
    least_found f idles w c.loop-worker.invariant tells (omega (arith, c.workers-worker-end.ensures))

pub loop-worker-preserved : goal.loop-worker-preserved
loop-worker-preserved c =
    let f = parts_of c.args.self.now in
    let w = c.loop-worker.worker in
    let tells : Tells f idles w false =
    idle_tells f w false (sym c.if-is_idle.false ∙ c.is_idle.ensures) in
    none_below_next f idles w c.loop-worker.invariant tells

pub returns : goal.returns
returns c =
    none_found (parts_of c.args.self.now) idles c.loop-worker.worker c.loop-worker.invariant
    (omega (arith, c.workers-worker-end.ensures))
