use Rattle.std.proofs.Common.{◌≡◌, length, take}
use Rattle.pp_example.specs.Node.{height_of, count_of, entries_of}
use Rattle.pp_example.proofs.node.fill.Given as goal

-- The node has the entries so far.
abbrev pub invariant-loop-entry : goal.invariant-loop-entry
invariant-loop-entry l = record {
  height : height_of l.body ≡ l.fn.height;
  count : count_of l.body ≡ l.entry-index;
  entries : entries_of l.body ≡ take l.entry-index l.entries;
  long : length l.body ≡ length l.initial.body;
}
