-- In the true journal of a bounded life no plan has a number past the most plans that it takes in.
use Rattle.std.proofs.Common.{◌≡◌, ◌∙◌, ◌+◌, ◌≤◌, ◌<◌, ℕ, Bool, true, false, Option, Some, None, List, [], ◌∷◌, length}
use Rattle.std.proofs.Common.{length-append, refl, sym, ap, subst, arith}
use Rattle.std.specs.Prelude.{slice_get, nat_le, nat_lt, IsTrue}
use Rattle.std.proofs.lemmas.Bool.{leb-false}
use Rattle.std.proofs.lemmas.Option.{slice_get_within}
use Rattle.pp_settings.specs.declared.span.Span.{Span}
use Rattle.pp_settings.specs.declared.span.Span.TheVariants.{Bounded}
use Rattle.pp_cert.specs.Accepted.{Acceptance}
use Rattle.pp_cert.specs.Walk.{same_layout}
use Rattle.pp_model.specs.declared.event.Event.{Event}
use Rattle.pp_model.specs.declared.event.Event.TheVariants.{Submit, Step}
use Rattle.pp_model.specs.declared.moves.Came.TheVariants.{Fault, Image}
use Rattle.pp_model.specs.declared.moves.Move.{Move}
use Rattle.pp_model.specs.declared.moves.Move.TheVariants as move
use Rattle.pp_model.specs.declared.reply.Reply.TheVariants.{Taken}
use Rattle.pp_model.specs.Pool.{Running, Settings, State}
use Rattle.pp_model.specs.Budget.{cost_of, journal_need}
use Rattle.pp_model.specs.Moves.{seat_of, reply_of}
use Rattle.pp_model.specs.Shapes.{fits_reply}
use Rattle.pp_model.specs.Submitting.{counted_plans, plan_limit, most_events, error_where, submit_error, submitted_unless, after_submit}
use Rattle.pp_model.specs.Taking.{has_room, take_where, take_by}
use Rattle.pp_model.specs.Journals.{after_plan, after_event, replay, IsTrueAt, IsTrueFrom}
use Rattle.pp_model.proofs.Journeys.{same_plans, same_settings}
use Rattle.pp_model.proofs.Shapes.{reply_fits}

-- The life is bounded, and no more plans were submitted than it takes in.
pub record Few (s : State) : Type 0 where
  pub span : s.settings.span ≡ Bounded
  pub plans : length s.plans ≤ 256

-- A plan that is taken in comes behind fewer.
not_many : (same many long : Bool) → error_where same many long ≡ None → many ≡ false
not_many false many long e = cc
not_many true true long e = cc
not_many true false true e = cc
not_many true false false e = refl

few_submitted : (s : State) (a : Acceptance) → Few s → submit_error s a ≡ None → Few (after_submit s a)
few_submitted s a few e =
    let same = same_layout s.settings.layout a.plan.layout in
    let need = journal_need s.settings s.plans + cost_of a in
    let bounded : error_where same (nat_le 256 (length s.plans)) (nat_lt 4000000 need) ≡ None
    = subst (λ (k : Span). error_where same (nat_le (plan_limit k) (counted_plans k (length s.plans) s.taken))
    (nat_lt (most_events k) need) ≡ None) few.span e in
    let fewer : length s.plans < 256
    = leb-false 256 (length s.plans) (not_many same (nat_le 256 (length s.plans)) (nat_lt 4000000 need) bounded) in
    subst (λ o. Few (submitted_unless o s a)) (sym e)
    (record { span = few.span; plans = omega (arith, fewer, length-append s.plans (a ∷ [])) })

pub few_after : (plans : List Acceptance) (s : State) (e : Event) → IsTrueAt plans s e → Few s
    → Few (after_event plans s e)
few_after plans s (Submit k) t few =
    subst (λ o. Few (after_plan s o)) (sym t.named) (few_submitted s t.plan few t.taken_in)
few_after plans s (Step did reply) t few = record {
  span = ap (λ (k : Settings). k.span) (same_settings s did) ∙ few.span;
  plans = subst (λ ps. length ps ≤ 256) (sym (same_plans s did)) few.plans;
}

pub few_from : (plans : List Acceptance) (s : State) (es : List Event) → IsTrueFrom plans s es → Few s
    → Few (replay plans s es)
few_from plans s [] t few = few
few_from plans s (e ∷ es) t few = few_from plans (after_event plans s e) es t.1 (few_after plans s e t.0 few)

-- ---- the plan that is taken

taken_where : (s : State) (w : ℕ) (a : Acceptance) (k : ℕ) (b : Bool) → (take_where s w a b).reply ≡ Taken k
    → s.taken ≡ k
taken_where s w a k true e = cc
taken_where s w a k false e = cc

taken_by : (s : State) (w k : ℕ) (o : Option (Option Running)) (next : Option Acceptance)
    → slice_get s.plans s.taken ≡ next → (take_by s w o next).reply ≡ Taken k → k < length s.plans
taken_by s w k None next at e = cc
taken_by s w k (Some (Some r)) next at e = cc
taken_by s w k (Some None) None at e = cc
taken_by s w k (Some None) (Some a) at e =
    let is = taken_where s w a k (has_room s a) e in
    omega (arith, is, slice_get_within s.plans s.taken a at)

-- Only a take is answered so.
by_fit : (s : State) (did : Move) (k : ℕ) → IsTrue (fits_reply did (Taken k)) → reply_of s did ≡ Taken k
    → k < length s.plans
by_fit s (move.Take w) k fits e = taken_by s w k (seat_of s w) (slice_get s.plans s.taken) refl e
by_fit s (move.Fix w page) k fits e = absurd (cc)
by_fit s (move.WriteDone w true) k fits e = absurd (cc)
by_fit s (move.WriteDone w false) k fits e = absurd (cc)
by_fit s (move.ReadDone w Fault) k fits e = absurd (cc)
by_fit s (move.ReadDone w (Image page stamp)) k fits e = absurd (cc)
by_fit s (move.Unfix w) k fits e = absurd (cc)
by_fit s (move.Latch w) k fits e = absurd (cc)
by_fit s (move.Unlatch w) k fits e = absurd (cc)
by_fit s (move.Choose w i) k fits e = absurd (cc)
by_fit s (move.Unwind w slot) k fits e = absurd (cc)
by_fit s (move.Finish w) k fits e = absurd (cc)
by_fit s (move.FlushBegin page) k fits e = absurd (cc)
by_fit s (move.FlushDone ok) k fits e = absurd (cc)

-- The plan that is told as taken was submitted.
pub taken_submitted : (s : State) (did : Move) (k : ℕ) → Taken k ≡ reply_of s did → k < length s.plans
taken_submitted s did k e =
    by_fit s did k (subst (λ r. IsTrue (fits_reply did r)) (sym e) (reply_fits s did)) (sym e)
