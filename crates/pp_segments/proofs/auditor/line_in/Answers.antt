use Rattle.pp_segments.proofs.Splitting.{not_text}
use Rattle.pp_segments.proofs.auditor.line_in.Goals as goal

pub returns-in_default : goal.returns-in_default
returns-in_default c = not_text c.args.line.now c.in_default.ensures.cases.0
