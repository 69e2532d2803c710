use Rattle.std.proofs.Common.{sym, subst}
use Rattle.pp_steps.specs.declared.seated.Seated.{Seated}
use Rattle.pp_steps.specs.Turning.{IsAtRest}
use Rattle.pp_steps.proofs.seated.Seated.go.Goals as goal

pub returns-clause-rests : goal.returns-clause-rests
returns-clause-rests c = λ chair rests.
    c.turn-hall.ensures.rests chair
    (subst (λ (s : Seated). IsAtRest chair s) (sym c.tell.ensures)
    (record { hall = rests.hall; told = rests.told; own = rests.own }))
