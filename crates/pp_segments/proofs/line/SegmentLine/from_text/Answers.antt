use Rattle.std.proofs.Common.{◌≡◌, List, ℕ, Option, Some, None, IfSome, sym, ◌∙◌}
use Rattle.pp_segments.specs.declared.line.SegmentLine.{SegmentLine}
use Rattle.pp_segments.specs.Lines.{Says}
use Rattle.pp_segments.specs.Reading.{line_in}
use Rattle.pp_segments.proofs.Spoken.{line_found, line_again}
use Rattle.pp_segments.proofs.line.SegmentLine.from_text.Goals as goal

found : (text : List ℕ) (r : Option SegmentLine) → r ≡ line_in text → IfSome r (Says text)
found text None e = tt
found text (Some line) e = line_found text line (sym e)

pub returns-clause-found : goal.returns-clause-found
returns-clause-found c = found c.args.text.now c.line_in.result c.line_in.ensures

pub returns-clause-only : goal.returns-clause-only
returns-clause-only c = λ line says. c.line_in.ensures ∙ line_again c.args.text.now line says
