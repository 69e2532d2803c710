use Rattle.std.proofs.Common.{◌+◌, ◌≤◌, cond, subst}
use Rattle.std.specs.Prelude.{is_some}
use Rattle.pp_core.specs.Parts.{Parts, parts_of}
use Rattle.pp_core.proofs.ReadMoves.{end_kept, end_budget}
use Rattle.pp_core.proofs.Standing.{headline_holds}
use Rattle.pp_core.proofs.machine.Core.unshare_and_unfix.Goals as goal

pub invariant_of-self : goal.invariant_of-self
invariant_of-self c =
    end_kept (parts_of c.self.inside.table) (parts_of c.unshare_and_unfix.new.self) c.args.worker c.unshare_and_unfix.result c.self.invariant
    c.unshare_and_unfix.ensures.moves c.unshare_and_unfix.ensures.unchanged

pub returns-clause-kept : goal.returns-clause-kept
returns-clause-kept c =
    end_kept (parts_of c.self.inside.table) (parts_of c.unshare_and_unfix.new.self) c.args.worker c.unshare_and_unfix.result c.self.invariant
    c.unshare_and_unfix.ensures.moves c.unshare_and_unfix.ensures.unchanged

pub returns-clause-headline : goal.returns-clause-headline
returns-clause-headline c = headline_holds (parts_of c.unshare_and_unfix.new.self)

pub returns-clause-budget : goal.returns-clause-budget
returns-clause-budget c =
    subst (λ (f : Parts). (parts_of c.unshare_and_unfix.new.self).budget + cond (is_some c.unshare_and_unfix.result) 2 0 ≤ f.budget)
    c.self.view_is
    (end_budget (parts_of c.self.inside.table) (parts_of c.unshare_and_unfix.new.self) c.args.worker c.unshare_and_unfix.result c.self.invariant
    c.unshare_and_unfix.ensures.moves c.unshare_and_unfix.ensures.unchanged)
