use Rattle.std.proofs.Common.{◌≡◌, List, subst, arith}
use Rattle.std.specs.Prelude.{Option}
use Rattle.pp_wants.specs.declared.sleepers.Sleeper.{Sleeper}
use Rattle.pp_wants.specs.WakeUps.{IsOnItsWay}
use Rattle.pp_wants.proofs.Settling.{no_way}
use Rattle.pp_wants.proofs.sleepers.Sleepers.is_on_its_way.Goals as goal

pub returns-clause-no : goal.returns-clause-no
returns-clause-no c = λ _ s stands.
    let same : c.deref-place-items.result.now ≡ c.args.self.now = cc in
    subst (λ (xs : List (Option Sleeper)). IsOnItsWay s xs c.args.want → ⊥) same
    (no_way s c.args.want c.deref-place-items.result.now (λ k lt. c.loop-place.invariant k (omega arith) s stands))
