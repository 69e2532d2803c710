-- A true journal between two reached states has at most 2^62 events.
use Rattle.std.proofs.Common.{◌≡◌, ℕ, ◌+◌, ◌^◌, ◌≤◌, List, [], ◌∷◌, length, count_by, cond, sym, subst, arith}
use Rattle.std.specs.Prelude.{All}
use Rattle.std.proofs.lemmas.List.Sums.{sum_by-cons}
use Rattle.pp_cert.specs.Accepted.{Acceptance, IsAccepted}
use Rattle.pp_model.specs.declared.event.Event.{Event}
use Rattle.pp_model.specs.declared.event.Event.TheVariants.{Submit, Step}
use Rattle.pp_model.specs.Pool.{State}
use Rattle.pp_model.specs.Budget.{bound, journal_need}
use Rattle.pp_model.specs.Moves.{next_of}
use Rattle.pp_model.specs.Journals.{after_event, replay, IsTrueAt, IsTrueFrom, IsJournalFrom}
use Rattle.pp_model.specs.Reached.{IsReached}
use Rattle.pp_model.proofs.BoundLaws.{bound_falls}
use Rattle.pp_model.proofs.BoundSteps.{bound_fits, need_small, plans_small, submit_bound, submit_need}
use Rattle.pp_model.proofs.Journeys.{same_plans, same_settings, event_reached}
use Rattle.pp_report.specs.declared.figure.Figure.TheVariants as figure
use Rattle.pp_report.specs.Reports.{counts}
use Rattle.pp_totals.proofs.Sums.{each_counted}
use Rattle.pp_totals.proofs.Complete.{complete, submits}

-- What the journal of the state may need.
abbrev need : State → ℕ
need s = journal_need s.settings s.plans

abbrev moves : List Event → ℕ
moves es = count_by (counts figure.Moves) es

-- The moves, and the bound on those that are left, are paid for: by the bound before them, and by what the plans cost
-- that were submitted meanwhile.
abbrev IsPaid : State → State → (moves : ℕ) → Type 0
IsPaid s t moves = moves + bound t + need s ≤ bound s + need t

one_paid : (plans : List Acceptance) (s : State) (e : Event) → IsReached s → IsTrueAt plans s e
    → IsPaid s (after_event plans s e) (cond (counts figure.Moves e) 1 0)
one_paid plans s (Submit k) h is =
    subst (λ t. IsPaid s t 0) (sym (submits plans s k is))
    (omega (arith, submit_bound s h is.plan, submit_need s is.plan))
one_paid plans s (Step m reply) h is =
    let same : need (next_of s m) ≡ need s = λ i. journal_need (same_settings s m i) (same_plans s m i) in
    omega (arith, bound_falls s h m is.0, same)

paid : (plans : List Acceptance) (s : State) (es : List Event) → All IsAccepted plans → IsReached s
    → IsTrueFrom plans s es → IsPaid s (replay plans s es) (moves es)
paid plans s [] all h is = omega arith
paid plans s (e ∷ es) all h is =
    let t = after_event plans s e in
    omega (
      arith,
      sum_by-cons (λ x. cond (counts figure.Moves x) 1 0) e es,
      one_paid plans s e h is.0,
      paid plans t es all (event_reached plans s e all h) is.1,
    )

pub short : (o t : State) (es : List Event) → IsReached o → IsReached t → IsJournalFrom o t es → length es ≤ 2 ^ 62
short o t es h k j =
    let all : IsPaid o t (moves es) = subst (λ u. IsPaid o u (moves es)) j.leads_here
    (paid t.plans o es k.accepted h j.is_true) in
    omega (
      arith,
      all,
      bound_fits o h,
      need_small t k,
      plans_small t k,
      (complete o t es j).submitted,
      each_counted es,
    )
