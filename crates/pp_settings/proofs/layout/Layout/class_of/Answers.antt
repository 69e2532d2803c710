use Rattle.std.proofs.Common.{◌≡◌, Some, option_map, Bor, rules, tests, refl, subst}
use Rattle.std.specs.List.{find}
use Rattle.std.proofs.lemmas.Iterator.{YieldsList-from_slice}
use Rattle.std.proofs.lemmas.Iterator.Search.{find_from_yields_List}
use Rattle.pp_settings.specs.declared.extent.Extent.{Extent}
use Rattle.pp_settings.specs.Layout.{has_page, class_of, TellsClass}
use Rattle.pp_settings.proofs.Pages.{class_tells}
use Rattle.pp_settings.proofs.layout.Layout.class_of.Goals as goal

pub returns-clause-tells : goal.returns-clause-tells
returns-clause-tells c =
    let found : option_map (λ (e : Bor Extent). e.now) c.find.result
    ≡ find (has_page c.args.page) c.extents.result.now =
    find_from_yields_List (has_page c.args.page) _ _ c.find.result c.find.ensures.ran
    (YieldsList-from_slice _ c.iter.ensures.rest) (λ x b q k. search (rules, tests)) in
    let is : class_of c.args.self.now c.args.page ≡ Some c.in_ok-extent.extent.now.class =
    rw (← c.extents.ensures.are, ← found, c.in_ok-extent.was) refl in
    subst (TellsClass c.args.self.now c.args.page) is
    (class_tells c.args.self.now c.args.page c.extents.ensures.facts.apart)
