use Rattle.std.proofs.Common.{rules, tests, is_some}
use Rattle.std.proofs.lemmas.Iterator.{YieldsList-from_slice}
use Rattle.std.proofs.lemmas.Iterator.Search.{all_from_yields_List}
use Rattle.serde_json.specs.Find.{as_array}
use Rattle.serde_json.specs.View.{view}
use Rattle.pp_plan.proofs.Trees.{are_lists_view}
use Rattle.pp_plan.proofs.shape.are_lists.Goals as goal

pub returns : goal.returns
returns c =
    rw (← are_lists_view c.args.items.now)
    (all_from_yields_List (λ v. is_some (as_array (view v))) _ _ _ c.all.ensures.ran
    (YieldsList-from_slice c.args.items.now cc) (λ x b q k. search (rules, tests)))
