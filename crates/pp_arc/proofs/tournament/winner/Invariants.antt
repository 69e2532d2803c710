-- What the way to the winner's leaf keeps true.
use Rattle.std.proofs.Common.{◌≡◌, ◌-◌, ◌<◌, ◌≤◌, length}
use Rattle.std.specs.Prelude.{slice_index}
use Rattle.pp_arc.proofs.tournament.winner.Given as goal

-- the node has the root's key
abbrev pub invariant-loop-node : goal.invariant-loop-node
invariant-loop-node l = record {
  some : 1 ≤ l.node;
  below : l.node < length l.nodes;
  key : slice_index l.nodes l.node ≡ slice_index l.nodes 1;
}

abbrev pub decreases-loop-node : goal.decreases-loop-node
decreases-loop-node l = length l.nodes - l.node
