-- The states that a pool can be in.
use Rattle.std.specs.Prelude.{◌≤◌, List, All}
use Rattle.pp_settings.specs.Limits.{most_workers}
use Rattle.pp_settings.specs.Layout.{IsLayout}
use Rattle.pp_settings.specs.Spans.{IsSpan, flush_limit}
use Rattle.pp_cert.specs.Accepted.{IsAccepted}
use Rattle.pp_model.specs.declared.event.Event.{Event}
use Rattle.pp_model.specs.Pool.{State, Settings, opening}
use Rattle.pp_model.specs.Journals.{IsJournalFrom}
use Rattle.pp_model.specs.Lives.{Life, AreLives, after_lives}

-- The settings are within their limits.
pub record IsSettings (k : Settings) : Type 0 where
  pub layout : IsLayout k.layout
  pub workers : (1 ≤ k.workers) × (k.workers ≤ most_workers)
  pub flushes : k.flushes ≤ flush_limit k.span
  pub span : IsSpan k.span

-- A state that a true journal leads to, under settings within their limits, where every submitted plan was accepted by
-- the checker. The journal is that of the pool's present life. This life began where the pool was last renewed, or, if it
-- never was, in the opening state of the settings.
pub record IsReached (s : State) : Type 0 where
  pub settings : IsSettings s.settings
  pub accepted : All IsAccepted s.plans
  pub before : List Life
  pub lived : AreLives (opening s.settings) before
  pub journal : List Event
  pub told : IsJournalFrom (after_lives (opening s.settings) before) s journal
