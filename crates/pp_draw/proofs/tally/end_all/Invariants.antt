use Rattle.std.proofs.Common.{◌≡◌, ◌++◌, map, take, drop}
use Rattle.pp_draw.specs.Walks.{ended_by}
use Rattle.pp_draw.proofs.tally.end_all.Given as goal

abbrev pub invariant-loop-turn : goal.invariant-loop-turn
invariant-loop-turn l =
    l.turns ≡ map (ended_by l.number l.worker l.ending) (take l.turn-index l.fn.turns) ++ drop l.turn-index l.fn.turns
