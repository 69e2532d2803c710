-- The host's device.
use Rattle.std.specs.Prelude.{◌≡◌, ℕ, ◌+◌, ◌==◌, ◌&&◌, Bool, true, false, List, length, if◌then◌else◌}
use Rattle.pp_device.specs.declared.fault.Fault.TheVariants.{Read, Write}
use Rattle.pp_device.specs.declared.device.Device as Device
use Rattle.pp_device.specs.Answers.{Answer as Came}
use Rattle.pp_device.specs.Disk.{answer_of}
use Rattle.pp_steps.specs.declared.device.Answer.{Answer}
use Rattle.pp_steps.specs.declared.device.Answer.TheVariants as answer

-- The bytes that the host has brought, what it has told of its own call, how many calls were made, and how many of them failed.
pub record Parts : Type 0 where
  pub image : List ℕ
  pub told : Answer
  pub calls : ℕ
  pub failures : ℕ

-- Whether the host has told that it has read.
abbrev pub has_come : Answer → Bool
has_come answer.Came = true
has_come answer.Fails = false
has_come answer.Wrote = false

-- Whether the host has told that it has written.
abbrev pub has_written : Answer → Bool
has_written answer.Wrote = true
has_written answer.Came = false
has_written answer.Fails = false

-- One more call, which is well or fails.
abbrev pub counted : Parts → Bool → Parts
counted d well = record d { calls = d.calls + 1; failures = if well then d.failures else d.failures + 1 }

-- Whether a reading into so many bytes is well.
abbrev pub can_give : Parts → ℕ → Bool
can_give d len = has_come d.told && (len == length d.image)

-- A reading gives the bytes that the host has brought, where it has, and there are as many; else it fails, and the slice stays.
pub record HostReads (d : Parts) (page : ℕ) (slice : List ℕ) (came : Came) (given : List ℕ) (e : Parts) : Type 0 where
  pub answer_is : came ≡ answer_of (can_give d (length slice)) Read
  pub given_is : given ≡ (if can_give d (length slice) then d.image else slice)
  pub after : e ≡ counted d (can_give d (length slice))

-- A writing is well where the host has told so.
pub record HostWrites (d : Parts) (page : ℕ) (slice : List ℕ) (came : Came) (e : Parts) : Type 0 where
  pub answer_is : came ≡ answer_of (has_written d.told) Write
  pub after : e ≡ counted d (has_written d.told)

-- The host's device, as turns know it.
abbrev pub host_device : Device.Ghosts Parts
host_device = record {
  calls = λ d. d.calls;
  failures = λ d. d.failures;
  read_gives = HostReads;
  write_leaves = HostWrites;
}
