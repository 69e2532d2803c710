use Rattle.std.proofs.Common.{◌≡◌, ◌≢◌, ◌+◌, ◌++◌, length}
use Rattle.std.specs.List.{range_with_len}
use Rattle.std.specs.Vec.Iter.{into_iter_items, into_iter_len}
use Rattle.pp_settings.specs.declared.span.Span.TheVariants.{Bounded}
use Rattle.pp_model.specs.Pool.{opening}
use Rattle.pp_core.specs.Opening.{kept_of}
use Rattle.pp_core.specs.StandsFor.{StandsFor}
use Rattle.pp_segments.specs.Auditing.{prepare_fault}
use Rattle.pp_segments.proofs.auditor.SegmentAuditor.new.Given as goal

abbrev pub invariant-loop-plan : goal.invariant-loop-plan
invariant-loop-plan l =
    let rest = into_iter_items l.plan-iterator in
    let k = kept_of l.settings in
    ((goal.iterator-loop-plan).can_next l.plan-iterator)
    × ((goal.iterator-loop-plan).is_finite l.plan-iterator)
    × StandsFor l.core (opening k)
    × (k.span ≢ Bounded)
    × (l.core.plans ++ rest ≡ into_iter_items l.initial.plan-iterator)
    × (l.places.items ≡ range_with_len 0 (length l.core.plans))
    × (prepare_fault k.layout k.span 0 (into_iter_items l.initial.plan-iterator)
    ≡ prepare_fault k.layout k.span (length l.core.plans) rest)
    × (length l.core.plans + into_iter_len l.plan-iterator ≡ into_iter_len l.initial.plan-iterator)
