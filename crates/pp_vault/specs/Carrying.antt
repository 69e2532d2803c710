-- What a device does where an errand is carried out.
use Rattle.std.specs.Prelude.{◌≡◌, ℕ, List}
use Rattle.pp_device.specs.declared.fault.Fault.{Fault}
use Rattle.pp_device.specs.declared.fault.Fault.TheVariants as fault
use Rattle.pp_device.specs.Answers.{Answer}
use Rattle.pp_vault.specs.declared.tokens.Duty.{Duty}
use Rattle.pp_vault.specs.declared.tokens.Duty.TheVariants.{Read, Write, Flush}

-- One call is made of the device: a reading of the page gives the bytes, or a writing of the victim or of the flusher's
-- page leaves the device so, and the bytes are those that were written.
abbrev pub CarriesOut : {D : Type 0} → (D → ℕ → List ℕ → Answer → List ℕ → D → Type 0)
    → (D → ℕ → List ℕ → Answer → D → Type 0) → Duty → D → List ℕ → Answer → List ℕ → D → Type 0
CarriesOut reads writes (Read w slot page) d image answer given e = reads d page image answer given e
CarriesOut reads writes (Write w slot page victim) d image answer given e =
    writes d victim image answer e × (given ≡ image)
CarriesOut reads writes (Flush page) d image answer given e = writes d page image answer e × (given ≡ image)

-- The fault that a device tells of where it fails at this.
abbrev pub fault_of : Duty → Fault
fault_of (Read w slot page) = fault.Read
fault_of (Write w slot page victim) = fault.Write
fault_of (Flush page) = fault.Write
