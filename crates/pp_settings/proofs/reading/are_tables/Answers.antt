use Rattle.std.proofs.Common.{rules, tests, is_some}
use Rattle.std.proofs.lemmas.Iterator.{YieldsList-from_slice}
use Rattle.std.proofs.lemmas.Iterator.Search.{all_from_yields_List}
use Rattle.toml.specs.Data.{as_table}
use Rattle.toml.specs.View.{view}
use Rattle.pp_settings.proofs.Trees.{are_tables_view}
use Rattle.pp_settings.proofs.reading.are_tables.Goals as goal

pub returns : goal.returns
returns c =
    rw (← are_tables_view c.args.items.now)
    (all_from_yields_List (λ v. is_some (as_table (view v))) _ _ _ c.all.ensures.ran
    (YieldsList-from_slice c.args.items.now cc) (λ x b q k. search (rules, tests)))
