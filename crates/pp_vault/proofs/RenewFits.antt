-- Hands that fit still do after a renewal, and after a plan was prepared.
use Rattle.std.proofs.Common.{◌≡◌, ℕ, refl, ap}
use Rattle.pp_cert.specs.Accepted.{Acceptance}
use Rattle.pp_model.specs.Pool.{State}
use Rattle.pp_model.specs.Renewing.{renewed}
use Rattle.pp_vault.specs.declared.hands.Hands.{Hands}
use Rattle.pp_vault.specs.Parts.{Parts}
use Rattle.pp_vault.specs.StandsFor.{IsKept}
use Rattle.pp_vault.specs.Submits.{Prepares}
use Rattle.pp_vault.specs.Renewals.{Renews}
use Rattle.pp_vault.specs.Hands.{HandsFit}
use Rattle.pp_vault.proofs.AllStill.{SameAll, all_still_fit}

same_renewed : (s : State) → SameAll s (renewed s)
same_renewed s =
    record {
      each = λ v. record {
        stays = record { idle = refl; leaving = refl; asks = refl; held = λ slot. refl; bundles = λ slot. refl; pending = refl; errand = refl };
        shared = λ slot page held. refl;
        exclusive = λ slot page held. refl;
        victim = λ slot page victim out. refl;
      };
      flush = refl;
      count = refl;
    }

same_prepared : (s : State) → SameAll s s
same_prepared s =
    record {
      each = λ v. record {
        stays = record { idle = refl; leaving = refl; asks = refl; held = λ slot. refl; bundles = λ slot. refl; pending = refl; errand = refl };
        shared = λ slot page held. refl;
        exclusive = λ slot page held. refl;
        victim = λ slot page victim out. refl;
      };
      flush = refl;
      count = refl;
    }

pub prepares_still_fit : (old new : Parts) (a : Acceptance) (place : ℕ) → IsKept old → Prepares old a place new → (hands : Hands)
    → HandsFit old hands → HandsFit new hands
prepares_still_fit old new a place k prepares =
    all_still_fit old new k.state k.state k.stands (prepares.stands k.state k.stands) (same_prepared k.state)
    (ap (λ (v : Parts). v.page_bytes) prepares.rest)

pub renewals_still_fit : (old new : Parts) → IsKept old → Renews old new → (hands : Hands) → HandsFit old hands
    → HandsFit new hands
renewals_still_fit old new k renews =
    all_still_fit old new k.state (renewed k.state) k.stands (renews.stands k.state k.stands) (same_renewed k.state)
    (ap (λ (v : Parts). v.page_bytes) renews.parts)
