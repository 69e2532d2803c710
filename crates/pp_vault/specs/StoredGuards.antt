-- What guards and hands are that are stored as plain data.
use Rattle.std.specs.Prelude.{ℕ}
use Rattle.pp_vault.specs.declared.guards.Guard.{Guard}
use Rattle.pp_vault.specs.declared.guards.Guard.TheVariants as guard
use Rattle.pp_vault.specs.declared.stored.StoredLatch.{StoredLatch}
use Rattle.pp_vault.specs.declared.stored.StoredLatch.TheVariants.{Free, Shared, Exclusive, Bundle}
use Rattle.pp_vault.specs.declared.stored.StoredGuard.TheInside as stored_guard

-- The guard of this worker, slot and page that is latched so; a bundle's has no page.
abbrev pub guard_by : (worker slot page : ℕ) → StoredLatch → Guard
guard_by worker slot page Free = guard.Pin (record { worker = worker; slot = slot; page = page })
guard_by worker slot page (Shared mark) = guard.Read (record { worker = worker; slot = slot; page = page; mark = mark })
guard_by worker slot page (Exclusive mark image) =
    guard.Write (record { worker = worker; slot = slot; page = page; mark = mark; image = image })
guard_by worker slot page Bundle = guard.Bundle (record { worker = worker; slot = slot })

-- The guard that was stored.
abbrev pub guard_of : stored_guard.Inside → Guard
guard_of k = guard_by k.worker k.slot k.page k.latch
