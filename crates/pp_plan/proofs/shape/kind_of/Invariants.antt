use Rattle.std.proofs.Common.{◌≡◌, ◌++◌, drop}
use Rattle.std.specs.Option.{option_to_list}
use Rattle.std.specs.List.{filter}
use Rattle.serde_json.specs.View.{view}
use Rattle.pp_plan.specs.Shapes.{kinds, has_kind, only_one, kind_of}
use Rattle.pp_plan.proofs.shape.kind_of.Given as goal

abbrev pub invariant-loop-kind : goal.invariant-loop-kind
invariant-loop-kind l =
    only_one (option_to_list l.found ++ filter (has_kind l.version (view l.value)) (drop l.kind-index kinds))
    ≡ kind_of l.version (view l.value)
