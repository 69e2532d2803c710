use Rattle.pp_script.proofs.Spelled.{text_found, text_only, text_first, text_refused}
use Rattle.pp_script.proofs.script.Script.from_text.Goals as goal

pub returns-clause-found : goal.returns-clause-found
returns-clause-found c = text_found c.args.text.now c.read.result c.read.ensures.gives

pub returns-clause-only : goal.returns-clause-only
returns-clause-only c = λ s. text_only c.args.text.now c.read.result s c.read.ensures.gives

pub returns-clause-first : goal.returns-clause-first
returns-clause-first c = text_first c.args.text.now c.read.result c.read.ensures.gives

pub returns-clause-refused : goal.returns-clause-refused
returns-clause-refused c = λ n. text_refused c.args.text.now c.read.result n c.read.ensures.gives
