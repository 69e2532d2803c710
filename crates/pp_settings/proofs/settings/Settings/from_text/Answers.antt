use Rattle.pp_settings.proofs.Clear.{accepted_clear}
use Rattle.pp_settings.proofs.First.{refused_first}
use Rattle.pp_settings.proofs.Spelled.{text_found, text_only}
use Rattle.pp_settings.proofs.settings.Settings.from_text.Goals as goal

pub returns-clause-found : goal.returns-clause-found
returns-clause-found c = text_found c.args.text.now c.read.result c.read.ensures

pub returns-clause-only : goal.returns-clause-only
returns-clause-only c = λ s. text_only c.args.text.now c.read.result s c.read.ensures

pub returns-clause-first : goal.returns-clause-first
returns-clause-first c = refused_first c.args.text.now c.read.result c.read.ensures

pub returns-clause-faultless : goal.returns-clause-faultless
returns-clause-faultless c = accepted_clear c.args.text.now c.read.result c.read.ensures
