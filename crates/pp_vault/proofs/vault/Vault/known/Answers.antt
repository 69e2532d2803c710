use Rattle.std.proofs.Common.{subst}
use Rattle.pp_vault.specs.Parts.{parts_of}
use Rattle.pp_vault.specs.Headline.{Holds}
use Rattle.pp_vault.proofs.Kept.{holds}
use Rattle.pp_vault.proofs.vault.Vault.known.Goals as goal

pub returns : goal.returns
returns c = record { holds = subst Holds c.self.view_is (holds (parts_of c.self.inside.store) c.self.invariant) }
