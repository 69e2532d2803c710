use Rattle.std.proofs.Common.{◌+◌, ◌≤◌, cond, subst}
use Rattle.std.specs.Prelude.{is_some}
use Rattle.pp_core.specs.Parts.{Parts, parts_of}
use Rattle.pp_core.proofs.ReadMoves.{read_kept, read_budget}
use Rattle.pp_core.proofs.Standing.{headline_holds}
use Rattle.pp_core.proofs.machine.Core.fix_and_share.Goals as goal

pub invariant_of-self : goal.invariant_of-self
invariant_of-self c =
    read_kept (parts_of c.self.inside.table) (parts_of c.fix_and_share.new.self) c.args.worker c.args.page c.fix_and_share.result c.self.invariant
    c.fix_and_share.ensures.moves c.fix_and_share.ensures.unchanged

pub returns-clause-kept : goal.returns-clause-kept
returns-clause-kept c =
    read_kept (parts_of c.self.inside.table) (parts_of c.fix_and_share.new.self) c.args.worker c.args.page c.fix_and_share.result c.self.invariant
    c.fix_and_share.ensures.moves c.fix_and_share.ensures.unchanged

pub returns-clause-headline : goal.returns-clause-headline
returns-clause-headline c = headline_holds (parts_of c.fix_and_share.new.self)

pub returns-clause-budget : goal.returns-clause-budget
returns-clause-budget c =
    subst (λ (f : Parts). (parts_of c.fix_and_share.new.self).budget + cond (is_some c.fix_and_share.result) 2 0 ≤ f.budget)
    c.self.view_is
    (read_budget (parts_of c.self.inside.table) (parts_of c.fix_and_share.new.self) c.args.worker c.args.page c.fix_and_share.result c.self.invariant
    c.fix_and_share.ensures.moves c.fix_and_share.ensures.unchanged)
