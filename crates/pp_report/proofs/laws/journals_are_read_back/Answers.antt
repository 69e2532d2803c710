use Rattle.std.proofs.Common.{inl, refl}
use Rattle.pp_report.proofs.Readback.{once}
use Rattle.pp_report.proofs.laws.journals_are_read_back.Goals as goal

pub returns-clause-spells : goal.returns-clause-spells
returns-clause-spells c = λ es fits. record { fits = fits; text_is = inl refl }

pub returns-clause-once : goal.returns-clause-once
returns-clause-once c = once

pub returns-clause-again : goal.returns-clause-again
returns-clause-again c = λ text es h. h.text_is
