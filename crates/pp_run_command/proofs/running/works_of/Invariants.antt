use Rattle.std.proofs.Common.{◌≡◌, vec_len}
use Rattle.pp_run_command.specs.Choices.{new_works}
use Rattle.pp_run_command.proofs.running.works_of.Given as goal

abbrev pub invariant-loop-worker : goal.invariant-loop-worker
invariant-loop-worker l = (vec_len l.works ≡ l.worker) × (l.works.items ≡ new_works l.seed l.worker)
