use Rattle.std.proofs.Common.{◌≡◌, vec_len, vec_capacity}
use Rattle.pp_steps.proofs.steps.devices_of.Given as goal

abbrev pub invariant-loop : goal.invariant-loop
invariant-loop l = (vec_len l.devices ≡ l.counter) × (vec_capacity l.devices ≡ l.count)
