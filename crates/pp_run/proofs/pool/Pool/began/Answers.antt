use Rattle.std.proofs.Common.{◌∙◌, ap}
use Rattle.pp_run.specs.Rested.{Rested}
use Rattle.pp_run.proofs.pool.Pool.began.Goals as goal

pub returns : goal.returns
returns c = c.began.ensures ∙ ap (λ (p : Rested). p.began) c.self.view_is
