use Rattle.std.proofs.Common.{sym, ◌∙◌}
use Rattle.pp_settings.proofs.Kept.{named_has, named_only}
use Rattle.pp_settings.proofs.settings.Settings.region.Goals as goal

pub returns-in_err-place-clause-only : goal.returns-in_err-place-clause-only
returns-in_err-place-clause-only c =
    λ r is. c.from_residual.ensures ∙ sym c.in_err-place.was ∙ c.place_named.ensures.is
    ∙ named_only c.args.self.now c.args.name.now r c.place_named.ensures.facts.regions is

pub returns-clause-has : goal.returns-clause-has
returns-clause-has c =
    named_has c.args.self.now c.args.name.now c.in_ok-place.place (sym c.place_named.ensures.is ∙ c.in_ok-place.was)

pub returns-clause-only : goal.returns-clause-only
returns-clause-only c =
    λ r is. sym c.in_ok-place.was ∙ c.place_named.ensures.is
    ∙ named_only c.args.self.now c.args.name.now r c.place_named.ensures.facts.regions is
