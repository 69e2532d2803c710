-- What renewing does to a vault.
use Rattle.std.specs.Prelude.{◌≡◌, None}
use Rattle.pp_model.specs.Pool.{State}
use Rattle.pp_model.specs.Renewing.{renew_error, renewed}
use Rattle.pp_core.specs.Renewals.{renewed_parts}
use Rattle.pp_vault.specs.Parts.{Parts}
use Rattle.pp_vault.specs.StandsFor.{StandsFor}

-- From every state that the old parts stand for, the pool is renewed, and the new parts stand for the state in which the
-- next life begins. The core is renewed, and nothing else has changed: each image is where it was.
pub record Renews (old new : Parts) : Type 0 where
  pub allowed : (s : State) → StandsFor old s → renew_error s ≡ None
  pub stands : (s : State) → StandsFor old s → StandsFor new (renewed s)
  pub parts : new ≡ record old { core = renewed_parts old.core }
