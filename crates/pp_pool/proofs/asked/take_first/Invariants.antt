use Rattle.std.proofs.Common.{◌≡◌, ◌<◌, ℕ, None}
use Rattle.pp_vault.specs.Holding.{placed}
use Rattle.pp_pool.proofs.asked.take_first.Given as goal

abbrev pub invariant-loop-slot : goal.invariant-loop-slot
invariant-loop-slot l =
    record {
      same : l.guards ≡ l.initial.guards;
      none : (k : ℕ) → k < l.slot → placed l.guards k ≡ None;
    }
