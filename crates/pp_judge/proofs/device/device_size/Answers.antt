use Rattle.std.proofs.Common.{arith}
use Rattle.pp_judge.specs.Judgement.{device_size_in}
use Rattle.pp_judge.proofs.Judged.{no_size, sized}
use Rattle.pp_judge.specs.Steps.{is_want_of_memory}
use Rattle.pp_judge.proofs.Refusals.{tells}
use Rattle.pp_judge.proofs.Steps.{handed_on}
use Rattle.pp_judge.proofs.device.device_size.Goals as goal

pub returns-in_err-settings-clause-exact : goal.returns-in_err-settings-clause-exact
returns-in_err-settings-clause-exact c =
    handed_on _ c.from_residual.result c.in_err-settings.field-0.0
    (device_size_in c.args.settings.now) c.from_residual.ensures.1
    (λ memory. no_size c.args.settings.now c.in_err-settings.field-0.0
    (tells
    (is_want_of_memory c.in_err-settings.field-0.0) c.in_err-settings.field-0.0 _ c.in_err-settings.ensures memory))

pub returns-clause-exact : goal.returns-clause-exact
returns-clause-exact c = rw (c.pages.ensures.is, c.page_bytes.ensures.is) (sized c.args.settings.now c.in_ok-settings.settings c.in_ok-settings.ensures)

pub returns-clause-pages : goal.returns-clause-pages
returns-clause-pages c =
    (omega (arith, c.pages.ensures.above c.pages.ensures.last.0 _ c.pages.ensures.last.1), c.pages.ensures.most)
