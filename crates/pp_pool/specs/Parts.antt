-- What clauses see of a book: what it keeps.
use Rattle.std.specs.Prelude.{ℕ, List}
use Rattle.pp_settings.specs.declared.span.Span.TheVariants.{Bounded}
use Rattle.pp_cert.specs.Accepted.{Acceptance}
use Rattle.pp_model.specs.declared.event.Event.{Event}
use Rattle.pp_journal.specs.Events.{Events}
use Rattle.pp_model.specs.Pool.{State, Settings}
use Rattle.pp_model.specs.Journals.{replay}
use Rattle.pp_outset.specs.Outsets.{Outset, opens_with}
use Rattle.pp_vault.specs.Parts as vault

pub record Parts : Type 0 where
  -- what its vault keeps
  pub vault : vault.Parts
  -- how many workers the pool has
  pub workers : ℕ
  -- what was done in its life, the first event first
  pub journal : List Event
  -- how many events the journal has memory for
  pub capacity : ℕ
  -- the greatest cost of a submitted plan
  pub most : ℕ
  -- how many flushes may begin in one life
  pub flushes : ℕ
  -- what its life began with besides the settings
  pub began : Outset

-- What the pool keeps of its settings. Its lives are bounded.
abbrev pub settings_of : Parts → Settings
settings_of b =
    record { layout = b.vault.core.layout; workers = b.workers; flushes = b.flushes; span = Bounded }

-- All plans that were submitted in its life, in order.
abbrev pub plans_of : Parts → List Acceptance
plans_of b = b.vault.core.plans

-- The opening state of its life.
abbrev pub opening_of : Parts → State
opening_of b = opens_with (settings_of b) b.began

-- The state that the journal leads to, from the opening state of the life. A submit of number k is of plan k.
abbrev pub state_of : Parts → State
state_of b = replay (plans_of b) (opening_of b) b.journal

-- What is kept, with the journal as its events and for how many there is memory.
abbrev pub parts_with : vault.Parts → (workers : ℕ) → Events → (most flushes : ℕ) → Outset → Parts
parts_with v workers journal most flushes began = record {
  vault = v;
  workers = workers;
  journal = journal.items;
  capacity = journal.capacity;
  most = most;
  flushes = flushes;
  began = began;
}
