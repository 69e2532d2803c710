use Rattle.std.proofs.Common.{◌≡◌, ◌∙◌, ◌∷◌, Some, refl, sym, ap, length, List, arith, rules}
use Rattle.std.specs.List.{range_with_len}
use Rattle.std.specs.Vec.Iter.{into_iter_items, into_iter_len}
use Rattle.pp_cert.specs.Accepted.{Acceptance}
use Rattle.pp_core.specs.Opening.{kept_of}
use Rattle.pp_segments.specs.Auditing.{prepare_fault, no_fault}
use Rattle.pp_segments.proofs.Begins.{prepared_next, prepare_failed, fault_of, place_more, plans_more, plans_all}
use Rattle.pp_segments.proofs.Begins.{one_kept}
use Rattle.pp_segments.proofs.auditor.SegmentAuditor.new.Goals as goal

pub loop-plan-preserved : goal.loop-plan-preserved
loop-plan-preserved c =
    let was = c.loop-plan.invariant in
    let old = c.loop-plan.core in
    let new = c.prepare.new.self in
    let k = kept_of c.args.settings.now in
    let rest = into_iter_items c.next.new.self in
    let step : into_iter_items c.loop-plan.plan-iterator ≡ c.in-Some.plan ∷ rest = search rules in
    let does = c.in-Ok.ensures.ok in (
      tt,
      tt,
      does.stands _ was.2,
      was.3,
      plans_more old new c.in-Some.plan c.in-Ok.place rest _ _ does step was.4,
      place_more c.loop-plan.places.items _ old new c.in-Some.plan c.in-Ok.place was.5 does
          c.in_ok-push-in-Ok.ensures.items,
      was.6 ∙ ap (prepare_fault k.layout k.span (length old.plans)) step
          ∙ prepared_next old new c.in-Some.plan c.in-Ok.place k.layout k.span rest does was.2.layout was.2.span,
      one_kept old new c.in-Some.plan c.in-Ok.place _ _ _ does c.in-Some.ensures.steps.1 was.7,
    )

pub returns-in-Err-clause-error : goal.returns-in-Err-clause-error
returns-in-Err-clause-error c =
    let was = c.loop-plan.invariant in
    let old = c.loop-plan.core in
    let k = kept_of c.args.settings.now in
    let rest = into_iter_items c.next.new.self in
    let step : into_iter_items c.loop-plan.plan-iterator ≡ c.in-Some.plan ∷ rest = search rules in
    let all : into_iter_items c.into_iter-plan-iterator.result ≡ c.args.prepared.items = search rules in
    ap no_fault (fault_of k.layout k.span c.args.prepared.items (Some c.in-Err.refused.1) was.3
    (ap (prepare_fault k.layout k.span 0) (sym all) ∙ was.6
    ∙ ap (prepare_fault k.layout k.span (length old.plans)) step
    ∙ prepare_failed old c.in-Some.plan c.in-Err.refused.1 k.layout k.span rest c.in-Err.ensures.error
    was.2.layout was.2.span
    was.3))

pub returns-clause-begins : goal.returns-clause-begins
returns-clause-begins c =
    let was = c.loop-plan.invariant in
    let all : into_iter_items c.into_iter-plan-iterator.result ≡ c.args.prepared.items = search rules in
    let whole : into_iter_len c.into_iter-plan-iterator.result ≡ length c.args.prepared.items = search rules in
    let many : length c.loop-plan.core.plans ≡ length c.args.prepared.items =
    omega (arith, whole, was.7, c.in-None.ensures.steps.0) in
    let plans = plans_all c.loop-plan.core.plans _ c.args.prepared.items many (was.4 ∙ all) in record {
      stands = was.2;
      endless = λ e. was.3 (sym was.2.span ∙ e);
      plans = plans;
      places = was.5 ∙ ap (λ (ps : List Acceptance). range_with_len 0 (length ps)) plans;
      lines = refl;
      next = refl;
      sound = refl;
    }
