-- How sleepers are kept.
use Rattle.std.specs.Prelude.{◌≡◌, ℕ, ◌<◌, ◌^◌, Bool, false, ◌&&◌, cond, Option, None, Some, List, length, count_by}
use Rattle.pp_model.specs.Pool.{State}
use Rattle.pp_wants.specs.declared.want.Want.{Want}
use Rattle.pp_wants.specs.declared.sleepers.Sleeper.{Sleeper}
use Rattle.pp_wants.specs.Sleepers.{is_untold}
use Rattle.pp_wants.specs.WakeUps.{is_alike}

-- Places have numbers of 32 bits, and so many of those who sleep weren't told.
pub record IsCounted (places : List (Option Sleeper)) (untold : ℕ) : Type 0 where
  pub few : length places < 2 ^ 32
  pub same : count_by is_untold places ≡ untold

-- 1 where one sleeps in the place that wasn't told, else 0.
abbrev pub counts_in : Option Sleeper → ℕ
counts_in place = cond (is_untold place) 1 0

-- Whether one that was told sleeps in this place for what this want is for.
abbrev pub is_told_alike : State → Want → Option Sleeper → Bool
is_told_alike s want None = false
is_told_alike s want (Some x) = x.is_told && is_alike s want x.want
