use Rattle.std.proofs.Common.{rules}
use Rattle.pp_steps.proofs.steps.Steps.take_flusher.Goals as goal

pub returns-clause-some : goal.returns-clause-some
returns-clause-some c = record {
  home = search rules;
  flusher = record { flusher = c.over_site-flusher.result.1 };
  new_is = search rules;
  pass_is = search rules;
}
