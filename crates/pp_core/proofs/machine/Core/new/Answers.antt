use Rattle.std.proofs.Common.{ap}
use Rattle.pp_model.specs.Pool.{opening}
use Rattle.pp_core.specs.Parts.{Parts, parts_of}
use Rattle.pp_core.specs.Opening.{kept_of}
use Rattle.pp_core.proofs.OpeningTies.{opened_stands}
use Rattle.pp_core.proofs.Standing.{headline_holds}
use Rattle.pp_core.proofs.machine.Core.new.Goals as goal

pub invariant_of-result : goal.invariant_of-result
invariant_of-result c =
    let k = kept_of c.args.settings.now in
    record {
      state = opening k;
      stands = opened_stands k (parts_of c.in_ok-table.table) c.in_ok-table.ensures.within c.in_ok-table.ensures.opens;
    }

pub returns-clause-opens : goal.returns-clause-opens
returns-clause-opens c =
    opened_stands (kept_of c.args.settings.now) (parts_of c.in_ok-table.table) c.in_ok-table.ensures.within
    c.in_ok-table.ensures.opens

pub returns-clause-kept : goal.returns-clause-kept
returns-clause-kept c =
    let k = kept_of c.args.settings.now in
    record {
      state = opening k;
      stands = opened_stands k (parts_of c.in_ok-table.table) c.in_ok-table.ensures.within c.in_ok-table.ensures.opens;
    }

pub returns-clause-none_kept : goal.returns-clause-none_kept
returns-clause-none_kept c = ap (λ (z : Parts). z.plans) c.in_ok-table.ensures.opens

pub returns-clause-headline : goal.returns-clause-headline
returns-clause-headline c = headline_holds (parts_of c.in_ok-table.table)
