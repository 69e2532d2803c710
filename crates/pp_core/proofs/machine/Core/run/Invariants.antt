use Rattle.std.proofs.Common.{◌≤◌, ◌+◌, ◌-◌, length, drop}
use Rattle.std.specs.Vec.{vec_len, vec_capacity}
use Rattle.pp_core.specs.StandsFor.{IsKept}
use Rattle.pp_core.proofs.RunTies.{Goes}
use Rattle.pp_core.proofs.machine.Core.run.Given as goal

abbrev pub invariant-loop-asked : goal.invariant-loop-asked
invariant-loop-asked l = record {
  kept : IsKept l.self;
  room : vec_len l.replies + (length l.moves - l.asked-index) ≤ vec_capacity l.replies;
  goes : Goes l.fn.self l.moves l.fn.replies.items l.self (drop l.asked-index l.moves) l.replies.items;
}
