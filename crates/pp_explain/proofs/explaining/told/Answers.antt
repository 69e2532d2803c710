use Rattle.std.proofs.Common.{◌∷◌}
use Rattle.pp_explain.specs.Paragraphs.{path_in}
use Rattle.pp_explain.proofs.About.{about_behind}
use Rattle.pp_explain.proofs.explaining.told.Goals as goal

pub returns-in_ok-paragraph-in-Plan : goal.returns-in_ok-paragraph-in-Plan
returns-in_ok-paragraph-in-Plan c =
    about_behind (c.args.files.settings.path.now ∷ path_in c.args.files.other) c.args.files.plans.now c.in-Plan.number
    _ c.in_ok-paragraph-in-Plan.field-0.items c.if-number-files.true c.in_ok-paragraph-in-Plan.ensures
