use Rattle.std.proofs.Common.{◌∙◌, sym}
use Rattle.pp_core.specs.Parts.{parts_of}
use Rattle.pp_core.proofs.DrainTies.{leaver_seat, unwinds, finishes, leaves_slot, leaves_last}
use Rattle.pp_core.proofs.table.Table.leave.Goals as goal

pub first_held-requires : goal.first_held-requires
first_held-requires c = leaver_seat (parts_of c.args.self.now) c.args.worker c.requires.kept c.requires.open

pub returns-in-Some-clause-possible : goal.returns-in-Some-clause-possible
returns-in-Some-clause-possible c =
    unwinds (parts_of c.args.self.now) c.args.worker c.in-Some.slot c.requires.open
    (λ x e. sym c.in-Some.is ∙ c.first_held.ensures x e)

pub returns-in-None-clause-possible : goal.returns-in-None-clause-possible
returns-in-None-clause-possible c =
    finishes (parts_of c.args.self.now) c.args.worker c.requires.open
    (λ x e. sym c.in-None.is ∙ c.first_held.ensures x e)

pub returns-in-Some-clause-goes : goal.returns-in-Some-clause-goes
returns-in-Some-clause-goes c =
    leaves_slot (parts_of c.args.self.now) c.args.worker c.in-Some.slot c.requires.open
    (λ x e. sym c.in-Some.is ∙ c.first_held.ensures x e)

pub returns-in-None-clause-goes : goal.returns-in-None-clause-goes
returns-in-None-clause-goes c =
    leaves_last (parts_of c.args.self.now) c.args.worker c.requires.open
    (λ x e. sym c.in-None.is ∙ c.first_held.ensures x e)
