-- A plan that is submitted leaves all images where they are.
use Rattle.std.proofs.Common.{◌≡◌, ◌∙◌, ℕ, Some, Result, Ok, Err, refl, sym, ap, subst}
use Rattle.std.specs.Prelude.{IfOk, OnErr}
use Rattle.pp_cert.specs.Accepted.{Acceptance}
use Rattle.pp_model.specs.Submitting.{after_submit}
use Rattle.pp_model.proofs.Alone.{submit_leaves}
use Rattle.pp_model.proofs.ReadyLaws.{submit_keeps}
use Rattle.pp_core.specs.Parts as core
use Rattle.pp_core.specs.Submits as core_submits
use Rattle.pp_vault.specs.Parts.{Parts}
use Rattle.pp_vault.specs.StandsFor.{IsKept}
use Rattle.pp_vault.specs.Submits.{TakesIn, TakesPrepared, Prepares}
use Rattle.pp_vault.proofs.Images.{fit_stays}

pub takes_in : (old : Parts) (a : Acceptance) (number : ℕ) (k : core.Parts)
    → core_submits.TakesIn old.core a number k → TakesIn old a number (record old { core = k })
takes_in old a number k takes =
    record {
      allowed = λ s st. takes.allowed s st.core;
      numbered = λ s st. takes.numbered s st.core;
      stands = λ s st. record {
        core = takes.stands s st.core;
        images =
            fit_stays old.page_bytes old.images old.spare s (after_submit s a) st.images
            (ap (λ k. k.layout.frames) ((submit_leaves s a).1)) (submit_keeps s a).0 (λ e. sym (submit_leaves s a).0 ∙ e);
      };
      rest = refl;
    }

pub kept_in : (old new : Parts) (a : Acceptance) (number : ℕ) → IsKept old → TakesIn old a number new → IsKept new
kept_in old new a number k takes = record { state = after_submit k.state a; stands = takes.stands k.state k.stands }

pub takes_by : {E : Type 0} (old : Parts) (a : Acceptance) (k : core.Parts) (r : Result ℕ E)
    → IfOk r (λ id. core_submits.TakesIn old.core a id k) → IfOk r (λ id. TakesIn old a id (record old { core = k }))
takes_by old a k (Ok id) takes = takes_in old a id k takes
takes_by old a k (Err e) takes = takes

pub kept_by : {E : Type 0} (old new : Parts) (a : Acceptance) (r : Result ℕ E) → IsKept old
    → IfOk r (λ id. TakesIn old a id new) → OnErr r (new ≡ old) → IsKept new
kept_by old new a (Ok id) k takes same = kept_in old new a id k takes
kept_by old new a (Err e) k takes same = subst IsKept (sym same) k

-- ---- plans that are prepared

-- A prepared plan that is submitted leaves all images where they are, too.
prepared_in : (old : Parts) (place number : ℕ) (a : Acceptance) (k : core.Parts)
    → core_submits.TakesPrepared old.core place number a k → TakesPrepared old place number a (record old { core = k })
prepared_in old place number a k takes =
    record {
      core = takes;
      takes = record {
        allowed = λ s st. takes.allowed s st.core;
        numbered = λ s st. takes.numbered s st.core;
        stands = λ s st. record {
          core = takes.stands s st.core;
          images =
              fit_stays old.page_bytes old.images old.spare s (after_submit s a) st.images
              (ap (λ k. k.layout.frames) ((submit_leaves s a).1)) (submit_keeps s a).0 (λ e. sym (submit_leaves s a).0 ∙ e);
        };
        rest = refl;
      };
    }

pub prepared_by : {E : Type 0} (old : Parts) (place : ℕ) (k : core.Parts) (r : Result ℕ E)
    → IfOk r (λ id. (a : Acceptance) × core_submits.TakesPrepared old.core place id a k)
    → IfOk r (λ id. (a : Acceptance) × TakesPrepared old place id a (record old { core = k }))
prepared_by old place k (Ok id) t = (t.0, prepared_in old place id t.0 k t.1)
prepared_by old place k (Err e) t = t

pub kept_prepared : {E : Type 0} (old new : Parts) (place : ℕ) (r : Result ℕ E) → IsKept old
    → IfOk r (λ id. (a : Acceptance) × TakesPrepared old place id a new) → OnErr r (new ≡ old) → IsKept new
kept_prepared old new place (Ok id) k t same = kept_in old new t.0 id k t.1.takes
kept_prepared old new place (Err e) k t same = subst IsKept (sym same) k

-- A plan that is prepared changes no state.
pub kept_preparing : {E : Type 0} (old new : Parts) (a : Acceptance) (r : Result ℕ E) → IsKept old
    → IfOk r (λ place. Prepares old a place new) → OnErr r (new ≡ old) → IsKept new
kept_preparing old new a (Ok place) k t same = record { state = k.state; stands = t.stands k.state k.stands }
kept_preparing old new a (Err e) k t same = subst IsKept (sym same) k
