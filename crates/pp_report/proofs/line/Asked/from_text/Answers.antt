use Rattle.std.proofs.Common.{◌≡◌, List, ℕ, Option, Some, None, IfSome, sym, ◌∙◌}
use Rattle.pp_report.specs.declared.line.Asked.{Asked}
use Rattle.pp_report.specs.Lines.{asked_words, SaysAsked}
use Rattle.pp_report.specs.Reading.{asked_in}
use Rattle.pp_report.proofs.Spoken.{asked_found, asked_again}
use Rattle.pp_report.proofs.line.Asked.from_text.Goals as goal

found : (text : List ℕ) (r : Option Asked) → r ≡ asked_in text → IfSome r (SaysAsked text)
found text None e = tt
found text (Some asked) e = asked_found text asked (sym e)

again : (text : List ℕ) (asked : Asked) → SaysAsked text asked → asked_in text ≡ Some asked
again text asked says = rw says.1 (asked_again asked says.0)

pub returns-clause-found : goal.returns-clause-found
returns-clause-found c = found c.args.text.now c.asked_in.result c.asked_in.ensures

pub returns-clause-only : goal.returns-clause-only
returns-clause-only c = λ asked says. c.asked_in.ensures ∙ again c.args.text.now asked says
