use Rattle.std.proofs.Common.{◌∙◌, ap}
use Rattle.pp_run.specs.Rested.{Rested}
use Rattle.pp_run.proofs.pool.Pool.workers.Goals as goal

pub returns : goal.returns
returns c = c.workers.ensures ∙ ap (λ (p : Rested). p.settings.workers) c.self.view_is
