-- What is left to show of sweep: the names that were passed are all names.
use Rattle.std.proofs.Common.{ℕ, ◌+◌, List, arith, sym, subst}
use Rattle.std.specs.Prelude.{Option}
use Rattle.pp_keyed.proofs.SweepLemmas.{IsSweeping, sweeping-start, sweeping-next, sweeping-end}
use Rattle.pp_keyed.proofs.names.sweep.Goals as goal

pub loop-name-init : goal.loop-name-init
loop-name-init c = record { sweeping = sweeping-start c.args.names.now c.args.cache.now }

pub loop-name-preserved : goal.loop-name-preserved
loop-name-preserved c = record {
  sweeping = subst (λ (w : List (Option ℕ)). IsSweeping c.args.names.now w c.args.cache.now (c.loop-name.name + 1))
      (sym c.take_unused.ensures.exact)
      (sweeping-next c.args.names.now c.loop-name.names c.args.cache.now c.loop-name.name c.loop-name.invariant.sweeping);
}

pub returns : goal.returns
returns c = record {
  swept = sweeping-end c.args.names.now c.loop-name.names c.args.cache.now c.loop-name.name c.loop-name.invariant.sweeping
      (omega (arith, c.loop-name-test.false, c.loop-name.auto.name-end, c.len-name-end.ensures.value));
}
