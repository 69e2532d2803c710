use Rattle.pp_core.proofs.SeatSteps.{did}
use Rattle.pp_core.proofs.seat.Seat.act.Goals as goal

pub returns : goal.returns
returns c =
    did _ _ _ _ _ c.follow.ensures.cursor c.follow.ensures.ask c.follow.ensures.rest
    c.requires.acts c.count.ensures
