-- What a call of a device answers.
use Rattle.std.specs.Prelude.{Result}
use Rattle.pp_device.specs.declared.fault.Fault.{Fault}

-- That it was done, with nothing more to tell, or a fault.
abbrev pub Answer : Type 0
Answer = Result (Unit {0}) Fault
