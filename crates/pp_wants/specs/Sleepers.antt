-- What clauses see of sleepers: at place w worker w, if it sleeps.
use Rattle.std.specs.Prelude.{◌≡◌, ℕ, Bool, true, false, not, ◌&&◌, Option, None, Some, option_map, List}
use Rattle.std.specs.Prelude.{length}
use Rattle.pp_vault.specs.Holding.{placed}
use Rattle.pp_wants.specs.declared.want.Want.{Want}
use Rattle.pp_wants.specs.declared.sleepers.Sleeper.{Sleeper}

-- One that sleeps with this want, and wasn't told.
abbrev pub untold : Want → Sleeper
untold want = record { want = want; is_told = false }

-- One that does, and was told.
abbrev pub told : Want → Sleeper
told want = record { want = want; is_told = true }

-- What the worker in a place sleeps for, if one does.
abbrev pub want_in : Option Sleeper → Option Want
want_in place = option_map (λ x. x.want) place

-- Whether one sleeps there that was told.
abbrev pub is_told : Option Sleeper → Bool
is_told None = false
is_told (Some x) = x.is_told

-- Whether one sleeps there that wasn't told.
abbrev pub is_untold : Option Sleeper → Bool
is_untold None = false
is_untold (Some x) = not x.is_told

-- Whether the worker in place w was told between the two.
abbrev pub is_told_anew : (old new : List (Option Sleeper)) → (worker : ℕ) → Bool
is_told_anew old new worker = is_told (placed new worker) && not (is_told (placed old worker))

-- The same workers sleep, with the same wants, and whoever was told is told still.
pub record Keeps (old new : List (Option Sleeper)) : Type 0 where
  pub places : length new ≡ length old
  pub wants : (worker : ℕ) → want_in (placed new worker) ≡ want_in (placed old worker)
  pub told : (worker : ℕ) → is_told (placed old worker) ≡ true → is_told (placed new worker) ≡ true
