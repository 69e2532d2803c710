use Rattle.std.proofs.Common.{sym, ◌∙◌}
use Rattle.pp_settings.proofs.Pages.{region_has, region_only}
use Rattle.pp_settings.proofs.layout.Layout.region_of.Goals as goal

pub returns-in_err-place-clause-only : goal.returns-in_err-place-clause-only
returns-in_err-place-clause-only c =
    λ r has. c.from_residual.ensures ∙ sym (c.in_err-place.was) ∙ c.region_position.ensures.is
    ∙ region_only c.args.self.now c.args.page r c.region_position.ensures.facts.apart has

pub returns-clause-has : goal.returns-clause-has
returns-clause-has c =
    region_has c.args.self.now c.args.page c.in_ok-place.place (sym c.region_position.ensures.is ∙ c.in_ok-place.was)

pub returns-clause-only : goal.returns-clause-only
returns-clause-only c =
    λ r has. sym c.in_ok-place.was ∙ c.region_position.ensures.is
    ∙ region_only c.args.self.now c.args.page r c.region_position.ensures.facts.apart has
