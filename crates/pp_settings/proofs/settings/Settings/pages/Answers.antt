use Rattle.pp_settings.proofs.settings.Settings.pages.Goals as goal

pub returns-clause-above : goal.returns-clause-above
returns-clause-above c = λ r page has. c.pages.ensures.above r page (rw c.kept_layout.ensures.is has)
