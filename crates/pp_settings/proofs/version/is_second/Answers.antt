use Rattle.std.proofs.Common.{Option, Bor, option_map, sym, ap, ◌∙◌}
use Rattle.toml.specs.declared.value.Value.{Value}
use Rattle.toml.specs.View.{view}
use Rattle.pp_settings.specs.Versions.{is_two}
use Rattle.pp_settings.proofs.Trees.{two_got}
use Rattle.pp_settings.proofs.version.is_second.Goals as goal

pub returns-in-Some : goal.returns-in-Some
returns-in-Some c =
    c.is_two.ensures
    ∙ ap (λ (o : Option (Bor Value)). is_two (option_map (λ v. view v.now) o)) (sym c.in-Some.is)
    ∙ two_got c.get.result c.name.result.now c.args.document.now c.get.ensures.value c.name.ensures

pub returns-in-None : goal.returns-in-None
returns-in-None c =
    ap (λ (o : Option (Bor Value)). is_two (option_map (λ v. view v.now) o)) (sym c.in-None.is)
    ∙ two_got c.get.result c.name.result.now c.args.document.now c.get.ensures.value c.name.ensures
