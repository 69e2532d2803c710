-- What sweep keeps as it goes on: the names that were passed have no keys where they stand nowhere.
use Rattle.pp_keyed.proofs.SweepLemmas.{IsSweeping}
use Rattle.pp_keyed.proofs.names.sweep.Given as goal

abbrev pub invariant-loop-name : goal.invariant-loop-name
invariant-loop-name l = record { sweeping : IsSweeping l.fn.names l.names l.cache l.name }
