use Rattle.std.proofs.Common.{◌≢◌, rules}
use Rattle.pp_run.specs.declared.error.RunError.TheVariants.{OutOfMemory}
use Rattle.pp_run.specs.Verdicts.{IsVerdict}
use Rattle.pp_run.proofs.life.give_back.Goals as goal

pub returns-clause-devices : goal.returns-clause-devices
returns-clause-devices g c = record {
  back = c.in_ok-back.back.items;
  workers = search rules;
  flusher = search rules;
  all_are = search rules;
}

pub returns-in_err-back-clause-error : goal.returns-in_err-back-clause-error
returns-in_err-back-clause-error g c =
    let said : c.in_err-back.field-0.0 ≢ OutOfMemory
    → IsVerdict c.args.worked.items c.args.flushed c.args.events.now.items c.args.left c.in_err-back.field-0.0
    = λ _. c.in_err-back.ensures.error in
    search rules
