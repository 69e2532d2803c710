use Rattle.std.proofs.Common.{◌∙◌, ap}
use Rattle.pp_run.specs.Rested.{Rested}
use Rattle.pp_run.proofs.pool.Pool.flushes.Goals as goal

pub returns : goal.returns
returns c = c.flushes.ensures ∙ ap (λ (p : Rested). p.settings.flushes) c.self.view_is
