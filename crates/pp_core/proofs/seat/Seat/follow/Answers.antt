use Rattle.pp_core.proofs.seat.Seat.follow.Goals as goal

pub pass-self-requires : goal.pass-self-requires
pass-self-requires c =
    let (before, stands) = c.requires.cursor in (before, (stands, c.requires.asks before stands))
