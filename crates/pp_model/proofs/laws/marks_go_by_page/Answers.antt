use Rattle.pp_model.proofs.MarkParts.{marks_is, one_page}
use Rattle.pp_model.proofs.laws.marks_go_by_page.Goals as goal

pub returns-clause-tell : goal.returns-clause-tell
returns-clause-tell c = marks_is

pub returns-clause-change : goal.returns-clause-change
returns-clause-change c = λ s t e f page others. one_page s t page e f others
