use Rattle.std.proofs.Common.{rules, tests}
use Rattle.std.proofs.lemmas.Iterator.{YieldsList-from_slice}
use Rattle.std.proofs.lemmas.Iterator.Search.{position_from_yields_List}
use Rattle.pp_settings.specs.Layout.{has_page}
use Rattle.pp_settings.proofs.layout.Layout.region_position.Goals as goal

pub returns-clause-is : goal.returns-clause-is
returns-clause-is c =
    rw (← c.extents.ensures.are) (position_from_yields_List
    (has_page c.args.page) _ _ c.position.result c.position.ensures.ran (YieldsList-from_slice _ c.iter.ensures.rest)
    (λ x b q k. search (rules, tests)))
