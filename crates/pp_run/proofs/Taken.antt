-- Plans that are submitted one behind another.
use Rattle.std.proofs.Common.{◌≡◌, List, ◌∷◌, ap}
use Rattle.std.specs.Prelude.{None}
use Rattle.pp_cert.specs.Accepted.{Acceptance}
use Rattle.pp_model.specs.Pool.{State}
use Rattle.pp_model.specs.Submitting.{submit_error, submitted, unless_refused, after_submits}
use Rattle.pp_text.specs.Steps.{◌>>=◌}

pub taken_next : (s : State) (plan : Acceptance) (plans : List Acceptance) → submit_error s plan ≡ None
    → after_submits s (plan ∷ plans) ≡ after_submits (submitted s plan) plans
taken_next s plan plans none =
    ap (λ o. unless_refused o (submitted s plan) >>= λ after. after_submits after plans) none
