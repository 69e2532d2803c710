-- By what a host names what it runs.
use Rattle.std.specs.Prelude.{ℕ, ◌+◌, ◌*◌, ◌%◌, ◌<◌}
use Rattle.pp_steps.specs.declared.pass.Pass.{Pass}

-- A pass that a number can tell.
pub record IsPass (p : Pass) : Type 0 where
  pub bell : p.bell < 65536
  pub turn : p.turn < 281474976710656

-- The number of such a pass.
abbrev pub number_of : Pass → ℕ
number_of p = p.turn * 65536 + p.bell

-- The number that any pass is told by: that of a pass of its bell and turn, as far as a number can tell them.
abbrev pub told_by : Pass → ℕ
told_by p = (p.turn % 281474976710656) * 65536 + p.bell % 65536
