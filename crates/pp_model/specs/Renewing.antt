-- Renewing a pool that is at rest. Its plans go, and so does how each of them ended; plans are numbered from 0 again, and all
-- flushes may begin again. What is cached, ARC's lists and target, which pages are newer than the device's, and every known
-- mark stay.
use Rattle.std.specs.Prelude.{◌&&◌, ℕ, Bool, true, false, nat_le, Option, None, Some, option_map, is_none, [], length}
use Rattle.std.specs.List.{list_all}
use Rattle.pp_settings.specs.Limits.{mark_limit}
use Rattle.pp_frames.specs.Least.{least_below}
use Rattle.pp_frames.specs.Marks.{has_reached}
use Rattle.pp_model.specs.declared.refusals.RenewError.{RenewError}
use Rattle.pp_model.specs.declared.refusals.RenewError.TheVariants.{NotAtRest, MarkTooHigh}
use Rattle.pp_model.specs.Pool.{State, known_mark}
use Rattle.pp_model.specs.Turns.{is_idle}

-- No plan waits, every worker is idle, and no flush is in flight.
abbrev pub is_at_rest : State → Bool
is_at_rest s = nat_le (length s.plans) s.taken && list_all is_idle s.seats && is_none s.flush

-- The least page whose known mark isn't below the limit.
abbrev pub first_high_page : State → Option ℕ
first_high_page s = least_below (λ page. has_reached mark_limit (known_mark s page)) (length s.notes)

-- By whether the pool is at rest, and by the least page whose mark is too high.
abbrev pub renew_error_where : (rests : Bool) → (high : Option ℕ) → Option RenewError
renew_error_where false high = Some NotAtRest
renew_error_where true high = option_map MarkTooHigh high

-- Why a pool isn't renewed; None where it is.
abbrev pub renew_error : State → Option RenewError
renew_error s = renew_error_where (is_at_rest s) (first_high_page s)

-- The state in which the next life begins.
abbrev pub renewed : State → State
renewed s = record s { plans = []; taken = 0; finished = []; flushes_left = s.settings.flushes }

-- A pool that isn't renewed stays as it is.
abbrev pub renewed_unless : Option RenewError → State → State
renewed_unless None s = renewed s
renewed_unless (Some error) s = s

abbrev pub after_renewal : State → State
after_renewal s = renewed_unless (renew_error s) s
