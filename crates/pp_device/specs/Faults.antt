-- The number and the name of a fault, where a fix fails by it.
use Rattle.std.specs.Prelude.{ℕ, List, codes}
use Rattle.pp_device.specs.declared.fault.Fault.{Fault}
use Rattle.pp_device.specs.declared.fault.Fault.TheVariants.{Read, Write}

abbrev pub fault_number : Fault → ℕ
fault_number Read = 71
fault_number Write = 72

abbrev pub fault_name : Fault → List ℕ
fault_name Read = codes "ReadFault"
fault_name Write = codes "WriteFault"
