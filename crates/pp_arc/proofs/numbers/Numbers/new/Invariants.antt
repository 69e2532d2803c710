-- What Numbers::new keeps as it fills the stack.
use Rattle.std.proofs.Common.{◌≡◌, ℕ, ◌+◌, ◌<◌, length, get_or}
use Rattle.pp_arc.proofs.numbers.Numbers.new.Given as goal

abbrev pub invariant-loop-slot : goal.invariant-loop-slot
invariant-loop-slot l = record {
  filled : (k : ℕ) → k < l.slot → get_or l.free.items k 0 ≡ k + 1;
  size : length l.free.items ≡ l.fn.most;
}
