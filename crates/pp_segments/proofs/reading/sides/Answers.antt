use Rattle.pp_report.proofs.Sides.{split_sides}
use Rattle.pp_segments.proofs.reading.sides.Goals as goal

pub returns : goal.returns
returns c = split_sides c.args.text.now c.split_once.result c.split_once.ensures.cases
