-- Calls that are done, and calls that are refused.
use Rattle.std.proofs.Common.{◌≡◌, ◌∙◌, Bool, true, false, not, Some, None, refl, sym, ap, subst}
use Rattle.std.specs.Prelude.{if◌then◌else◌}
use Rattle.std.proofs.lemmas.Bool.{false≢true}
use Rattle.pp_model.specs.declared.moves.Move.{Move}
use Rattle.pp_model.specs.declared.reply.Reply.{Reply}
use Rattle.pp_model.specs.declared.reply.Reply.TheVariants as reply
use Rattle.pp_model.specs.Pool.{State}
use Rattle.pp_model.specs.Moves.{reply_of, next_of, is_refusal}
use Rattle.pp_core.specs.StandsFor as core
use Rattle.pp_vault.specs.declared.refusal.Refusal.{Refusal}
use Rattle.pp_vault.specs.Parts.{Parts}
use Rattle.pp_vault.specs.StandsFor.{StandsFor, ImagesFit}
use Rattle.pp_vault.specs.Calls.{Call, asks, stranger, refusal_in, refusal_of, after_call, told}
use Rattle.pp_vault.specs.Fits.{guard_call}
use Rattle.pp_vault.specs.Steps.{Stepped, Refused}
use Rattle.pp_vault.specs.Events.{Refuses, Does, Tells}
use Rattle.pp_vault.proofs.FitTests.{guard_asks}

-- A reply that is no refusal gives none.
pub not_refused : (r : Reply) → is_refusal r ≡ false → refusal_in r ≡ None
not_refused (reply.Taken plan) e = refl
not_refused (reply.Hit frame mark) e = refl
not_refused (reply.MustRead frame) e = refl
not_refused (reply.MustWrite frame victim) e = refl
not_refused (reply.Failed failure) e = refl
not_refused (reply.Loaded mark) e = refl
not_refused reply.Did e = refl
not_refused (reply.Latched mark) e = refl
not_refused (reply.Unlatched mark) e = refl
not_refused (reply.Finished ending) e = refl
not_refused (reply.Flushing mark) e = refl
not_refused (reply.Flushed clean) e = refl
not_refused (reply.NotNow delay) e = absurd (false≢true (sym e))
not_refused (reply.OffPlan cause) e = absurd (false≢true (sym e))

module _ (old new : Parts) (call : State → Call) (m : Move) (r : Reply)
    (moves : core.Moves old.core m r new.core) (done : is_refusal r ≡ false)
    (bytes : new.page_bytes ≡ old.page_bytes)
    (calls : (s : State) → StandsFor old s → call s ≡ asks m)
    (fits : (s : State) → StandsFor old s → ImagesFit new.page_bytes new.images new.spare (next_of s m)) where
  answers : (s : State) → StandsFor old s → reply_of s m ≡ r
  answers s st = sym (moves.replies s st.core)

  pub does : Does old call new
  does =
      record {
        allowed = λ s st.
            ap (refusal_of s) (calls s st) ∙ ap refusal_in (answers s st) ∙ not_refused r done;
        stands = λ s st.
            subst (StandsFor new) (sym (ap (after_call s) (calls s st)))
            (record { core = moves.stands s st.core; images = fits s st });
        page_bytes = bytes;
        plans = λ s st. moves.plans s st.core;
      }

-- ---- what is answered

module _ (old new : Parts) (m : Move) (r : Reply) (did : Stepped old new m r) where
  -- A call that is this move.
  pub tells : (call : State → Call) → ((s : State) → StandsFor old s → call s ≡ asks m) → Tells old call (m, r)
  tells call calls s st =
      ap (told s) (calls s st)
      ∙ ap (λ x. if not (is_refusal x) then Some (m, x) else None) (sym (did.moves.replies s st.core))
      ∙ ap (λ b. if not b then Some (m, r) else None) did.done

  -- One that a test allows.
  pub tells_tested : (test : State → Bool) → ((s : State) → StandsFor old s → test s ≡ true)
      → Tells old (λ s. if test s then asks m else stranger) (m, r)
  tells_tested test pass =
      tells (λ s. if test s then asks m else stranger)
      (λ s st. ap (λ b. if b then asks m else stranger) (pass s st))

  -- One with a guard that fits, for which the plan asks.
  pub tells_asked : (fits asked : State → Bool) → ((s : State) → StandsFor old s → fits s ≡ true)
      → ((s : State) → StandsFor old s → asked s ≡ true) → Tells old (λ s. guard_call (fits s) (asked s) (asks m)) (m, r)
  tells_asked fits asked fit wanted =
      tells (λ s. guard_call (fits s) (asked s) (asks m))
      (λ s st. guard_asks (fits s) (asked s) (asks m) (fit s st) (wanted s st))

-- ---- refused

pub refuses : (old new : Parts) (call : State → Call) (m : Move) (why : Refusal) → Refused old new m why
    → ((s : State) → StandsFor old s → call s ≡ asks m) → Refuses old call why
refuses old new call m why h calls s st =
    ap (refusal_of s) (calls s st) ∙ ap refusal_in (sym (h.moves.replies s st.core)) ∙ h.refused
