-- What the loop in Table::grow keeps true.
use Rattle.std.proofs.Common.{◌≡◌, ℕ, length, ltb, cond}
use Rattle.std.specs.Prelude.{None}
use Rattle.pp_names.specs.Names.{key_of}
use Rattle.pp_names.proofs.table.Table.grow.Given as goal

-- the names that were passed have their keys, and the others have none
abbrev pub invariant-loop-name : goal.invariant-loop-name
invariant-loop-name l = record {
  size : length l.larger ≡ l.names;
  keys : (n : ℕ) → key_of l.larger n ≡ cond (ltb n l.name) (key_of l.self n) None;
}
