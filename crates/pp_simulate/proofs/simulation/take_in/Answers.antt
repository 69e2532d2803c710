use Rattle.pp_simulate.specs.Simulating.{TakeFails}
use Rattle.pp_simulate.specs.declared.error.SimulateError.TheVariants.{Submit}
use Rattle.pp_simulate.proofs.Submits.{handed_on, prepared_in, prepared_not}
use Rattle.pp_simulate.proofs.simulation.take_in.Goals as goal

pub returns-in_err-submit_prepared-in-Ok-prepare-clause-error :
    goal.returns-in_err-submit_prepared-in-Ok-prepare-clause-error
returns-in_err-submit_prepared-in-Ok-prepare-clause-error c =
    let refused = c.in_err-submit_prepared-in-Ok-prepare in
    handed_on (TakeFails c.args.vault.now c.args.plan) c.from_residual.result (Submit refused.field-0.0)
    c.from_residual.ensures.1
    (prepared_not c.args.vault.now c.prepare.new.self c.args.plan c.in-Ok-prepare.prepared refused.field-0.0
    c.in-Ok-prepare.ensures.ok refused.ensures.error)

pub returns-in_ok-submit_prepared-in-Ok-prepare-clause-ok :
    goal.returns-in_ok-submit_prepared-in-Ok-prepare-clause-ok
returns-in_ok-submit_prepared-in-Ok-prepare-clause-ok c =
    let taken = c.in_ok-submit_prepared-in-Ok-prepare.ensures.ok in
    prepared_in c.args.vault.now c.prepare.new.self c.submit_prepared.new.self c.args.plan taken.0
    c.in-Ok-prepare.prepared _ c.in-Ok-prepare.ensures.ok taken.1
