use Rattle.pp_core.proofs.seat.Seat.ask_after.Goals as goal

pub ask_after-requires : goal.ask_after-requires
ask_after-requires c = let (before, stands) = c.requires.cursor in (before, (stands, c.requires.asks before stands))
