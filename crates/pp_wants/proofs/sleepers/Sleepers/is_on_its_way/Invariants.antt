use Rattle.std.proofs.Common.{◌≡◌, ℕ, ◌<◌, false}
use Rattle.pp_model.specs.Pool.{State}
use Rattle.pp_vault.specs.Holding.{placed}
use Rattle.pp_vault.specs.StandsFor.{StandsFor}
use Rattle.pp_wants.specs.Inside.{is_told_alike}
use Rattle.pp_wants.proofs.sleepers.Sleepers.is_on_its_way.Given as goal

-- none of those before was told of the same thing
abbrev pub invariant-loop-place : goal.invariant-loop-place
invariant-loop-place l =
    (k : ℕ) → k < l.place-index → (s : State) → StandsFor l.vault s → is_told_alike s l.want (placed l.place-items k) ≡ false
