use Rattle.serde_json.specs.View.{view}
use Rattle.pp_plan.specs.Shapes.{kinds, has_kind}
use Rattle.pp_plan.proofs.OnlyKind.{kind_kept, kind_left}
use Rattle.pp_plan.proofs.shape.kind_of.Goals as goal
use Rattle.pp_plan.proofs.shape.kind_of.Goals.{then-has_kind+else-is_some, else-has_kind}

pub loop-kind-preserved : goal.loop-kind-preserved
loop-kind-preserved c =
    let p = has_kind c.args.version (view c.args.value.now) in
    elim c.if-has_kind.branch [
      | then-has_kind+else-is_some w ↦
          kind_kept p kinds c.loop-kind.kind-index _ c.loop-kind.found c.if-has_kind.found _ c.loop-kind-test.true
          w.if-has_kind.ensures w.if-is_some.ensures w.found-is c.loop-kind.invariant
      | else-has_kind w ↦ kind_left p kinds c.loop-kind.kind-index _ c.loop-kind.found c.if-has_kind.found _
          c.loop-kind-test.true w.if-has_kind.ensures w.found-is c.loop-kind.invariant
    ]
