use Rattle.std.proofs.Common.{◌∙◌, sym}
use Rattle.pp_draw.proofs.Counting.{ends_none}
use Rattle.pp_draw.proofs.tally.end_turn.Goals as goal

pub returns-in-None : goal.returns-in-None
returns-in-None c = ends_none c.args.number c.args.event (sym c.finished_in.ensures ∙ c.in-None.is) c.args.turns.now
