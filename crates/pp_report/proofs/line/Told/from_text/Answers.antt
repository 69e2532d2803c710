use Rattle.std.proofs.Common.{◌≡◌, List, ℕ, Option, Some, None, IfSome, sym, ◌∙◌}
use Rattle.pp_report.specs.declared.line.Told.{Told}
use Rattle.pp_report.specs.Lines.{told_words, SaysTold}
use Rattle.pp_report.specs.Reading.{told_in}
use Rattle.pp_report.proofs.Spoken.{told_found, told_again}
use Rattle.pp_report.proofs.line.Told.from_text.Goals as goal

found : (text : List ℕ) (r : Option Told) → r ≡ told_in text → IfSome r (SaysTold text)
found text None e = tt
found text (Some told) e = told_found text told (sym e)

again : (text : List ℕ) (told : Told) → SaysTold text told → told_in text ≡ Some told
again text told says = rw says.1 (told_again told says.0)

pub returns-clause-found : goal.returns-clause-found
returns-clause-found c = found c.args.text.now c.told_in.result c.told_in.ensures

pub returns-clause-only : goal.returns-clause-only
returns-clause-only c = λ told says. c.told_in.ensures ∙ again c.args.text.now told says
