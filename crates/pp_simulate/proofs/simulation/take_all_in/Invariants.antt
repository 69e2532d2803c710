use Rattle.std.proofs.Common.{◌≡◌, reverse, vec_len}
use Rattle.pp_model.specs.Pool.{State}
use Rattle.pp_vault.specs.Hands.{HandsFit}
use Rattle.pp_vault.specs.StandsFor.{StandsFor, IsKept}
use Rattle.pp_vault.specs.declared.hands.Hands.{Hands}
use Rattle.pp_simulate.proofs.Submits.{SoFar}
use Rattle.pp_simulate.proofs.simulation.take_all_in.Given as goal

abbrev pub invariant-loop-plan : goal.invariant-loop-plan
invariant-loop-plan l = record {
  so_far : (s : State) → StandsFor l.fn.vault s → SoFar s l.fn.plans.items l.vault (reverse l.waiting.items);
  kept : IsKept l.vault;
  fit : (h : Hands) → HandsFit l.fn.vault h → HandsFit l.vault h;
  length : l.vault.page_bytes ≡ l.fn.vault.page_bytes;
}

abbrev pub decreases-loop-plan : goal.decreases-loop-plan
decreases-loop-plan l = vec_len l.waiting
