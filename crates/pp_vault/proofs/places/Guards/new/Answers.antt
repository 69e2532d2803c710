use Rattle.std.proofs.Common.{◌≡◌, ◌∙◌, None, sym, subst}
use Rattle.pp_vault.specs.Holding.{GuardPlaces, no_guards}
use Rattle.pp_vault.proofs.Placed.{none_placed, no_guard_places}
use Rattle.pp_vault.proofs.places.Guards.new.Goals as goal

none : (c : goal.In-Ok) → c.in-Ok.places.value ≡ no_guards
none c =
    c.in-Ok.ensures.ok
    ∙ none_placed c.default-places.result 32 c.default-places.ensures.long (λ i low. c.default-places.ensures.at i None low)

pub returns-in-Ok : goal.returns-in-Ok
returns-in-Ok c = none c

pub invariant_of-result : goal.invariant_of-result
invariant_of-result c = subst GuardPlaces (sym (none c)) no_guard_places
