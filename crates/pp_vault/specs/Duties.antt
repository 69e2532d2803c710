-- Whom a duty of a device is for.
use Rattle.std.specs.Prelude.{ℕ, Bool, true, false, Option, None, Some}
use Rattle.pp_vault.specs.declared.tokens.Duty.{Duty}
use Rattle.pp_vault.specs.declared.tokens.Duty.TheVariants.{Read, Write, Flush}

-- The worker that a device works for; none for a flush.
abbrev pub duty_worker : Duty → Option ℕ
duty_worker (Read w slot page) = Some w
duty_worker (Write w slot page victim) = Some w
duty_worker (Flush page) = None

-- The slot into which the worker's page comes; none for a flush.
abbrev pub duty_slot : Duty → Option ℕ
duty_slot (Read w slot page) = Some slot
duty_slot (Write w slot page victim) = Some slot
duty_slot (Flush page) = None

-- The page that the device is called with: where a victim is to be written back, the victim.
abbrev pub duty_page : Duty → ℕ
duty_page (Read w slot page) = page
duty_page (Write w slot page victim) = victim
duty_page (Flush page) = page

-- Whether the device is to read the page; else it is to write it.
abbrev pub is_reading : Duty → Bool
is_reading (Read w slot page) = true
is_reading (Write w slot page victim) = false
is_reading (Flush page) = false
