-- What NamedLinks::new keeps as it fills the stack.
use Rattle.std.proofs.Common.{◌≡◌, ℕ, ◌<◌, length, get_or}
use Rattle.pp_arc.proofs.named.NamedLinks.new.Given as goal

abbrev pub invariant-loop-node : goal.invariant-loop-node
invariant-loop-node l = record {
  filled : (k : ℕ) → k < l.node → get_or l.free.items k 0 ≡ k;
  size : length l.free.items ≡ l.fn.nodes;
}
