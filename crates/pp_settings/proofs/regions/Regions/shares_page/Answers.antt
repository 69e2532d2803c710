use Rattle.std.proofs.Common.{rules, tests, ap, ◌∙◌}
use Rattle.std.specs.List.{list_any}
use Rattle.std.proofs.lemmas.Iterator.{YieldsList-from_slice}
use Rattle.std.proofs.lemmas.Iterator.Search.{any_from_yields_List}
use Rattle.pp_settings.specs.declared.extent.Extent.{Extent}
use Rattle.pp_settings.specs.Layout.{shares_page}
use Rattle.pp_settings.specs.Reading.{shares_page_with}
use Rattle.pp_settings.proofs.Named.{any_extent}
use Rattle.pp_settings.proofs.regions.Regions.shares_page.Goals as goal

pub returns : goal.returns
returns c =
    any_from_yields_List (λ (e : Extent). shares_page e c.args.extent.now) _ _ c.any.result c.any.ensures.ran
    (YieldsList-from_slice _ c.iter.ensures.rest) (λ x b q k. search (rules, tests))
    ∙ ap (list_any (λ (e : Extent). shares_page e c.args.extent.now)) c.as_slice-extents.ensures.are
    ∙ any_extent (λ (e : Extent). shares_page e c.args.extent.now) c.self.inside.names.items c.self.inside.extents
    c.self.invariant
    ∙ ap (list_any (shares_page_with c.args.extent.now)) c.self.view_is
