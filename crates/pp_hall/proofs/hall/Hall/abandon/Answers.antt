use Rattle.std.proofs.Common.{◌≡◌, ap, subst}
use Rattle.pp_model.specs.Pool.{State, dirty_pages}
use Rattle.pp_vault.specs.Parts as vault
use Rattle.pp_vault.specs.StandsFor.{StandsFor}
use Rattle.pp_hall.specs.Halls.{Parts}
use Rattle.pp_hall.proofs.hall.Hall.abandon.Goals as goal

pub returns-clause-dirty : goal.returns-clause-dirty
returns-clause-dirty g c =
    subst (λ (v : vault.Parts). (s : State) → StandsFor v s → c.dirty-dirty.result ≡ dirty_pages s)
    (ap (λ (h : Parts). h.seating.vault) c.self.view_is) c.dirty-dirty.ensures
