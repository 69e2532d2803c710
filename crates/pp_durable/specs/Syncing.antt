-- What a sync answers, and how syncs are counted.
use Rattle.std.specs.Prelude.{ℕ, ◌+◌, Result, is_err, if◌then◌else◌}
use Rattle.pp_durable.specs.declared.fault.SyncFault.{SyncFault}

-- That it was done, with nothing more to tell, or that it failed.
abbrev pub SyncAnswer : Type 0
SyncAnswer = Result (Unit {0}) SyncFault

-- How many syncs were asked, and how many of these failed.
pub record SyncCounts : Type 0 where
  pub asked : ℕ
  pub failed : ℕ

-- None was asked.
abbrev pub no_syncs : SyncCounts
no_syncs = record { asked = 0; failed = 0 }

-- The counts after one more, which was answered so.
abbrev pub counted_sync : SyncCounts → SyncAnswer → SyncCounts
counted_sync s answer = record { asked = s.asked + 1; failed = if is_err answer then s.failed + 1 else s.failed }
