-- What the way to the root in play keeps true.
use Rattle.std.proofs.Common.{◌≡◌, ℕ, ◌+◌, ◌*◌, ◌<◌, ◌≤◌, length, drop}
use Rattle.pp_arc.specs.Tournament.{WinsBut}
use Rattle.pp_arc.proofs.tournament.play.Given as goal

-- the match of one node is to be played; all behind the first one is as it was
abbrev pub invariant-loop-node : goal.invariant-loop-node
invariant-loop-node l = record {
  wins : WinsBut l.nodes l.node;
  pair : 2 * l.node + 1 < length l.nodes;
  down : l.node ≤ l.fn.start;
  rest : (n : ℕ) → l.fn.start < n → drop n l.nodes ≡ drop n l.fn.nodes;
}

abbrev pub decreases-loop-node : goal.decreases-loop-node
decreases-loop-node l = l.node
