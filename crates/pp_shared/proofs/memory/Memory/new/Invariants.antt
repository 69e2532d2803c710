use Rattle.std.proofs.Common.{◌≡◌, vec_len}
use Rattle.pp_shared.proofs.memory.Memory.new.Given as goal

abbrev pub invariant-loop-page : goal.invariant-loop-page
invariant-loop-page l = vec_len l.images ≡ l.page
