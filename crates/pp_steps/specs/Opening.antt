-- A pool that is opened.
use Rattle.std.specs.Prelude.{◌≡◌, ◌⊎◌, ◌+◌, ◌<◌, ◌≤◌, Option, None, Some, [], replicate}
use Rattle.pp_settings.specs.Settings.{Configuration}
use Rattle.pp_hall.specs.declared.policy.Policy.{Policy}
use Rattle.pp_hall.specs.declared.error.OpenError.{OpenError as HallError}
use Rattle.pp_hall.specs.Calls.{IsFresh, open_fault}
use Rattle.pp_steps.specs.declared.error.OpenError.{OpenError}
use Rattle.pp_steps.specs.declared.error.OpenError.TheVariants as error
use Rattle.pp_steps.specs.Parts.{Parts}

-- The queue is 1 to 65,000 long.
abbrev pub QueueFits : Policy → Type 0
QueueFits kept = (1 ≤ kept.queue) × (kept.queue ≤ 65000)

-- The first fault of the settings, with a device for each worker and the flusher.
abbrev pub fault_of : Configuration → Option HallError
fault_of c = open_fault c (c.workers + 1)

-- The settings have no fault, and the queue fits. Nothing was done yet, no plan is kept, nobody waits or runs, and the flusher is home.
pub record IsOpened (c : Configuration) (kept : Policy) (x : Parts) : Type 0 where
  pub fits : fault_of c ≡ None
  pub queue : QueueFits kept
  pub hall : IsFresh c kept x.hall
  pub plans : x.plans ≡ []
  pub line : x.line
      ≡ record { first = c.workers; places = replicate kept.queue (record { turn = 0; waiter = None }) }
  pub seats : x.seats ≡ replicate c.workers (record { turn = 0; seated = None })
  pub flushed : x.flushed ≡ 0
  pub flusher : x.flusher ≡ None

-- Why it isn't opened: the queue, else the settings' first fault; or there is neither, and memory ran out.
abbrev pub OpenFails : Configuration → Policy → OpenError → Type 0
OpenFails c kept error.BadQueue = (kept.queue ≡ 0) ⊎ (65000 < kept.queue)
OpenFails c kept (error.Hall why) = QueueFits kept × (fault_of c ≡ Some why)
OpenFails c kept error.OutOfMemory = QueueFits kept × (fault_of c ≡ None)
