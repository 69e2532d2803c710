-- A renewal leaves all images where they are.
use Rattle.std.proofs.Common.{◌≡◌, ◌∙◌, None, Result, Ok, Err, refl, sym, ap, subst}
use Rattle.std.specs.Prelude.{OnOk, OnErr}
use Rattle.pp_model.specs.declared.refusals.RenewError.{RenewError}
use Rattle.pp_model.specs.Pool.{State}
use Rattle.pp_model.specs.Renewing.{renewed}
use Rattle.pp_core.specs.Parts as core
use Rattle.pp_core.specs.Renewals as core_renewals
use Rattle.pp_vault.specs.Parts.{Parts}
use Rattle.pp_vault.specs.StandsFor.{StandsFor, IsKept}
use Rattle.pp_vault.specs.Renewals.{Renews}
use Rattle.pp_vault.proofs.Images.{fit_stays}

pub renews : (old : Parts) (k : core.Parts) → core_renewals.Renews old.core k → Renews old (record old { core = k })
renews old k does =
    record {
      allowed = λ s st. does.allowed s st.core;
      stands = λ s st. record {
        core = does.stands s st.core;
        images =
            fit_stays old.page_bytes old.images old.spare s (renewed s) st.images refl
            (record { ready = λ q. refl; away = λ f. refl }) (λ e. e);
      };
      parts = ap (λ c. record old { core = c }) does.parts;
    }

pub renews_by : {A E : Type 0} (old : Parts) (k : core.Parts) (r : Result A E) → OnOk r (core_renewals.Renews old.core k)
    → OnOk r (Renews old (record old { core = k }))
renews_by old k (Ok x) does = renews old k does
renews_by old k (Err e) does = does

pub kept_by : {A E : Type 0} (old new : Parts) (r : Result A E) → IsKept old → OnOk r (Renews old new)
    → OnErr r (new ≡ old) → IsKept new
kept_by old new (Ok x) k does same = record { state = renewed k.state; stands = does.stands k.state k.stands }
kept_by old new (Err e) k does same = subst IsKept (sym same) k
