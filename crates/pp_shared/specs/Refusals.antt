-- The number and the name of why no ends were made onto a file: those of the fault, or of want of memory.
use Rattle.std.specs.Prelude.{ℕ, List, codes}
use Rattle.pp_device.specs.Faults.{fault_number, fault_name}
use Rattle.pp_shared.specs.declared.error.OpenError.{OpenError}
use Rattle.pp_shared.specs.declared.error.OpenError.TheVariants.{Fault, OutOfMemory}

abbrev pub open_error_number : OpenError → ℕ
open_error_number (Fault fault) = fault_number fault
open_error_number OutOfMemory = 19

abbrev pub open_error_name : OpenError → List ℕ
open_error_name (Fault fault) = fault_name fault
open_error_name OutOfMemory = codes "OutOfMemory"
