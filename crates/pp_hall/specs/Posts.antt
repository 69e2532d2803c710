-- Which parked workers are there.
use Rattle.std.specs.Prelude.{◌≡◌, ℕ, ◌+◌, ◌<◌, ◌≤◌, Bool, true, false, Option, Some, IfSome, List, [], length, sum_by}
use Rattle.pp_vault.specs.declared.stage.Hand.{Hand}
use Rattle.pp_vault.specs.Holding.{placed, is_free}
use Rattle.pp_vault.specs.Stages.{stage_worker}
use Rattle.pp_pool.specs.declared.worker.Worker.{Worker}

-- What is told of them.
pub record Parts : Type 0 where
  -- at place w whether the parked worker of chair w is there
  pub there : List Bool
  pub is_flusher_home : Bool

-- One where it is so, and else none.
abbrev pub one_if : Bool → ℕ
one_if true = 1
one_if false = 0

-- How many devices are there: one with each worker that is there, and the flusher's, if it is home.
abbrev pub devices_there : Parts → ℕ
devices_there p = sum_by one_if p.there + one_if p.is_flusher_home

-- In place w, if anything, there is a worker of that number, and its place among the vault's hands is free. There is
-- memory for the devices of all of them, and for one more.
pub record ArePosts {S D : Type 0} (places : List (Option (Worker S D))) (hands : List (Option Hand)) (devices : List D)
    (capacity : ℕ) : Type 0 where
  pub own : (w : ℕ) → IfSome (placed places w) (λ post. stage_worker post.hand.stage ≡ Some w)
  pub free : (w : ℕ) → w < length places → is_free hands w ≡ true
  pub none : devices ≡ []
  pub room : length places + 1 ≤ capacity
