use Rattle.std.proofs.Common.{◌≡◌, drop}
use Rattle.pp_run_command.specs.Endings.{went_well}
use Rattle.pp_run_command.proofs.telling.went_well.Given as goal

abbrev pub invariant-loop-place : goal.invariant-loop-place
invariant-loop-place l = went_well l.events.items ≡ went_well (drop l.place l.events.items)
