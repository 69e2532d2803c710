-- Renewing a core: why it isn't renewed, by what it keeps, and what is so after it was.
use Rattle.std.specs.Prelude.{◌≡◌, ◌*◌, ◌&&◌, ◌==◌, Bool, Option, None, is_none, List, [], length}
use Rattle.std.specs.List.{list_all}
use Rattle.pp_cert.specs.Accepted.{Acceptance}
use Rattle.pp_frames.specs.Marks.{first_stamped}
use Rattle.pp_settings.specs.declared.span.Span.{Span}
use Rattle.pp_settings.specs.declared.span.Span.TheVariants.{Bounded, Endless}
use Rattle.pp_model.specs.declared.refusals.RenewError.{RenewError}
use Rattle.pp_model.specs.Pool.{State}
use Rattle.pp_settings.specs.Limits.{mark_limit}
use Rattle.pp_model.specs.Renewing.{renew_error_where, renew_error, renewed}
use Rattle.pp_core.specs.Parts.{Parts}
use Rattle.pp_core.specs.StandsFor.{StandsFor}

-- No plan waits, each seat is empty, and no flush is in flight.
abbrev pub is_resting : Parts → Bool
is_resting f = (length f.waiting == 0) && list_all is_none f.seats && is_none f.flush

-- Why it isn't renewed, by what it keeps; None where it is.
abbrev pub renew_fault : Parts → Option RenewError
renew_fault f = renew_error_where (is_resting f) (first_stamped f.marks mark_limit)

-- The plans that are kept over a renewal: those that were prepared, in an endless life.
abbrev pub kept_plans : Span → List Acceptance → List Acceptance
kept_plans Bounded plans = []
kept_plans (Endless waiting) plans = plans

-- What it keeps then: the plans that outlast a renewal, no plan that waits, none taken, all flushes, and a need and a bound of these
-- alone; the rest as before.
abbrev pub renewed_parts : Parts → Parts
renewed_parts f =
    record f {
      flushes_left = f.flushes;
      plans = kept_plans f.span f.plans;
      waiting = [];
      taken = 0;
      need = 2 * f.flushes;
      budget = 2 * f.flushes;
    }

-- From every state that the old parts stand for, the pool is renewed, and the new parts stand for the state in which the
-- next life begins.
pub record Renews (old new : Parts) : Type 0 where
  pub allowed : (s : State) → StandsFor old s → renew_error s ≡ None
  pub stands : (s : State) → StandsFor old s → StandsFor new (renewed s)
  pub parts : new ≡ renewed_parts old
