use Rattle.std.proofs.Common.{◌≡◌, ◌∙◌, None, Some, rules}
use Rattle.pp_core.specs.Parts.{parts_of}
use Rattle.pp_core.specs.Renewals.{renew_fault}
use Rattle.pp_core.proofs.RenewTies.{fault_is, flushes_few, renews}
use Rattle.pp_core.proofs.table.Table.renew.Goals as goal

pub begin_anew-requires : goal.begin_anew-requires
begin_anew-requires c = flushes_few (parts_of c.args.self.now) c.requires

pub returns-clause-ok : goal.returns-clause-ok
returns-clause-ok c =
    let f = parts_of c.args.self.now in
    let none : renew_fault f ≡ None = search rules in
    renews f (parts_of c.begin_anew.new.self) none (search rules)

pub returns-in-Some-clause-error : goal.returns-in-Some-clause-error
returns-in-Some-clause-error c =
    let f = parts_of c.args.self.now in
    let why : renew_fault f ≡ Some c.in-Some.error = search rules in
    λ s st. fault_is f s st ∙ why
