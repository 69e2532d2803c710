-- What holds of the opening state, and is kept by moves, by plans that are taken in and by renewals, holds of every reached
-- state.
use Rattle.std.proofs.Common.{◌≡◌, ℕ, Option, Some, None, List, []}
use Rattle.std.proofs.Common.{◌∷◌, refl, sym, subst}
use Rattle.std.specs.Prelude.{slice_get, All}
use Rattle.std.proofs.lemmas.Option.{slice_get_within, get_or_from_slice_get}
use Rattle.pp_cert.specs.Accepted.{Acceptance, IsAccepted}
use Rattle.pp_model.specs.declared.event.Event.{Event}
use Rattle.pp_model.specs.declared.event.Event.TheVariants.{Submit, Step}
use Rattle.pp_model.specs.declared.refusals.SubmitError.{SubmitError}
use Rattle.pp_model.specs.Pool.{State, Settings, opening}
use Rattle.pp_model.specs.Moves.{next_of}
use Rattle.pp_model.specs.Submitting.{submit_error, submitted, submitted_unless, after_submit}
use Rattle.pp_model.specs.Journals.{after_plan, after_event, replay}
use Rattle.pp_model.specs.Renewing.{renew_error, renewed}
use Rattle.pp_model.specs.Lives.{Life, life_end, AreLives, after_lives}
use Rattle.pp_model.specs.Reached.{IsSettings, IsReached}
use Rattle.pp_model.proofs.Changes.{Change, change}
use Rattle.pp_model.proofs.Crews.{crew_of, turn, turn_plans}

-- ---- what is kept holds

pub record IsKept (P : State → Type 0) : Type 0 where
  pub opens : (k : Settings) → IsSettings k → P (opening k)
  pub moves : (s t : State) → Change s t → P s → P t
  pub submits : (s : State) (a : Acceptance) → IsAccepted a → submit_error s a ≡ None → P s → P (submitted s a)
  pub renews : (s : State) → IsSettings s.settings → renew_error s ≡ None → P s → P (renewed s)

taken_in : (P : State → Type 0) (s : State) (a : Acceptance) (o : Option SubmitError) → IsKept P → submit_error s a ≡ o
    → IsAccepted a → P s → P (submitted_unless o s a)
taken_in P s a None k e ok p = k.submits s a ok e p
taken_in P s a (Some error) k e ok p = p

pub submit_keeps : (P : State → Type 0) (s : State) (a : Acceptance) → IsKept P → IsAccepted a → P s
    → P (after_submit s a)
submit_keeps P s a k ok p = taken_in P s a (submit_error s a) k refl ok p

plan_keeps : (P : State → Type 0) (plans : List Acceptance) (s : State) (k : ℕ) (o : Option Acceptance) → IsKept P
    → slice_get plans k ≡ o → All IsAccepted plans → P s → P (after_plan s o)
plan_keeps P plans s k None kept e all p = p
plan_keeps P plans s k (Some a) kept e all p =
    let ok = subst IsAccepted (get_or_from_slice_get plans k a a e) (all k a (slice_get_within plans k a e)) in
    submit_keeps P s a kept ok p

event_keeps : (P : State → Type 0) (plans : List Acceptance) (s : State) (e : Event) → IsKept P → All IsAccepted plans
    → P s → P (after_event plans s e)
event_keeps P plans s (Submit k) kept all p = plan_keeps P plans s k (slice_get plans k) kept refl all p
event_keeps P plans s (Step m reply) kept all p = kept.moves s (next_of s m) (change s m) p

replay_keeps : (P : State → Type 0) (plans : List Acceptance) (s : State) (es : List Event) → IsKept P
    → All IsAccepted plans → P s → P (replay plans s es)
replay_keeps P plans s [] kept all p = p
replay_keeps P plans s (e ∷ es) kept all p =
    replay_keeps P plans (after_event plans s e) es kept all (event_keeps P plans s e kept all p)

-- ---- settings

settings_kept : IsKept (λ s. IsSettings s.settings)
settings_kept = record {
  opens = λ k ok. ok;
  moves = λ s t c h. subst IsSettings (sym (turn_plans (crew_of s) (crew_of t) (turn s t c)).1) h;
  submits = λ s a ok e h. h;
  renews = λ s ok e h. h;
}

-- ---- lives

lives_keep : (P : State → Type 0) (o : State) (ls : List Life) → IsKept P → IsSettings o.settings → AreLives o ls → P o
    → P (after_lives o ls)
lives_keep P o [] kept ok are p = p
lives_keep P o (l ∷ ls) kept ok are p =
    let still = replay_keeps (λ x. IsSettings x.settings) l.plans o l.journal settings_kept are.0.accepted ok in
    lives_keep P (renewed (life_end o l)) ls kept still are.1
    (kept.renews (life_end o l) still are.0.renews (replay_keeps P l.plans o l.journal kept are.0.accepted p))

pub holds : (P : State → Type 0) (s : State) → IsKept P → IsReached s → P s
holds P s kept h =
    let o = opening s.settings in
    subst P h.told.leads_here
    (replay_keeps P s.plans (after_lives o h.before) h.journal kept h.accepted
    (lives_keep P o h.before kept h.settings h.lived (kept.opens s.settings h.settings)))

-- What is kept where something else is that is kept.
pub record IsKeptUnder (Q P : State → Type 0) : Type 0 where
  pub opens : (k : Settings) → IsSettings k → P (opening k)
  pub moves : (s t : State) → Change s t → Q s → P s → P t
  pub submits : (s : State) (a : Acceptance) → IsAccepted a → submit_error s a ≡ None → Q s → P s → P (submitted s a)
  pub renews : (s : State) → IsSettings s.settings → renew_error s ≡ None → Q s → P s → P (renewed s)

pub both : (Q P : State → Type 0) → IsKept Q → IsKeptUnder Q P → IsKept (λ s. Q s × P s)
both Q P q p = record {
  opens = λ k ok. (q.opens k ok, p.opens k ok);
  moves = λ s t c h. (q.moves s t c h.0, p.moves s t c h.0 h.1);
  submits = λ s a ok e h. (q.submits s a ok e h.0, p.submits s a ok e h.0 h.1);
  renews = λ s ok e h. (q.renews s ok e h.0, p.renews s ok e h.0 h.1);
}
