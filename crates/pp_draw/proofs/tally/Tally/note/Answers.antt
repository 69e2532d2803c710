use Rattle.std.proofs.Common.{◌∙◌, sym}
use Rattle.pp_draw.proofs.Counting.{not_counted, counted_if}
use Rattle.pp_draw.proofs.tally.Tally.note.Goals as goal

pub returns-in-Some : goal.returns-in-Some
returns-in-Some c =
    counted_if c.args.number c.args.text.now c.in-Some.event c.args.self.now c.count.new.self c.count.result
    (sym c.event_in.ensures ∙ c.in-Some.is) c.count.ensures.totals c.count.ensures.turns

pub returns-in-None : goal.returns-in-None
returns-in-None c = not_counted c.args.number c.args.text.now c.args.self.now (sym c.event_in.ensures ∙ c.in-None.is)
