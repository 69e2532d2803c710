use Rattle.pp_settings.proofs.settings.Settings.region_of.Goals as goal

pub returns-clause-only : goal.returns-clause-only
returns-clause-only c = λ r has. c.region_of.ensures.only r (rw c.kept_layout.ensures.is has)
