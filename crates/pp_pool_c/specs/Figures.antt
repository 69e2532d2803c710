-- Numbers of a pool, as C sees them.
use Rattle.std.specs.Prelude.{◌≡◌, ◌<◌, ◌≤◌, ◌+◌, ℕ, Bool, min, List, length, Some, slice_get}
use Rattle.pp_settings.specs.Settings.{Configuration, geometry_of}
use Rattle.pp_settings.specs.Layout.{page_count}
use Rattle.pp_vault.specs.Parts as vault
use Rattle.pp_hall.specs.declared.counts.Stats.{Stats}
use Rattle.pp_hall.specs.declared.policy.Policy.{Policy}
use Rattle.pp_hall.specs.Calls.{StatsAre}
use Rattle.pp_hall.specs.Closing.{IsDirtyPage}
use Rattle.pp_steps.specs.declared.plans.KeptPlan.{KeptPlan}
use Rattle.pp_steps.specs.Parts.{Parts}
use Rattle.pp_pool_c.specs.declared.figures.Dirty.{Dirty}
use Rattle.pp_pool_c.specs.declared.figures.Figures.{Figures}
use Rattle.pp_pool_c.specs.declared.figures.Policy.{Policy as Given}
use Rattle.pp_pool_c.specs.declared.figures.PreparedPlan.{PreparedPlan}
use Rattle.pp_pool_c.specs.declared.figures.Sizes.{Sizes}
use Rattle.pp_pool_c.specs.Asks.{one_if}

-- The policy that C gives.
abbrev pub policy_of : Given → Policy
policy_of p = record { queue = p.queue; bypass = p.bypass; flush_from = p.flush_from; flush_to = p.flush_to }

-- The plan of this number, to C.
abbrev pub prepared_of : (number : ℕ) → KeptPlan → PreparedPlan
prepared_of number plan = record { plan = number; unused = 0; peak = plan.peak; cost = plan.cost }

-- What stays as it is, to C.
abbrev pub sizes_of : Parts → Configuration → Sizes
sizes_of x c = record {
  workers = x.line.first;
  bells = x.line.first + length x.line.places + 1;
  frames = c.frames;
  page_bytes = c.page_bytes;
  pages = page_count (geometry_of c);
  unused = 0;
}

-- What was done, and how it stands, to C.
abbrev pub figures_of : Stats → (is_stopped : Bool) → Figures
figures_of stats is_stopped = record {
  hits = stats.counts.hits;
  misses = stats.counts.misses;
  write_backs = stats.counts.write_backs;
  flushes = stats.counts.flushes;
  failed_flushes = stats.counts.failed_flushes;
  done = stats.counts.done;
  gone = stats.counts.gone;
  running_peaks = stats.running_peaks;
  dirty = stats.dirty;
  waiting = stats.waiting;
  chairs = min stats.chairs 4294967295;
  is_stopped = one_if is_stopped;
}

-- These are the figures of the pool.
pub record FiguresAre (x : Parts) (figures : Figures) : Type 0 where
  pub stats : Stats
  pub are : StatsAre x.hall stats
  pub figures_are : figures ≡ figures_of stats x.hall.waiters.is_stopped

-- ---- pages that are newer than the device's

-- The page with this mark, to C.
abbrev pub dirty_of : ℕ × ℕ → Dirty
dirty_of found = record { mark = found.1; page = found.0; unused = 0 }

-- The page stands with this mark in one of the first places.
pub record IsListed (count : ℕ) (places : List Dirty) (page mark : ℕ) : Type 0 where
  pub at : ℕ
  pub first : at < count
  pub there : slice_get places at ≡ Some (dirty_of (page, mark))

-- So many places are written, from the first one on: each has a page that is newer than the device's, and where places are left,
-- each such page has one. The other places stay.
pub record AreListed (v : vault.Parts) (count : ℕ) (old new : List Dirty) : Type 0 where
  pub few : count ≤ length old
  pub each : (k : ℕ) (found : Dirty) → k < count → slice_get new k ≡ Some found
      → IsDirtyPage v found.page found.mark × (found.unused ≡ 0)
  pub all : count < length old → (page mark : ℕ) → IsDirtyPage v page mark → IsListed count new page mark
  pub rest : (k : ℕ) → count ≤ k → slice_get new k ≡ slice_get old k
