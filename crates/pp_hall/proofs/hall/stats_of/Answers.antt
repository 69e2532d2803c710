use Rattle.std.proofs.Common.{◌∙◌}
use Rattle.pp_hall.proofs.hall.stats_of.Goals as goal

pub returns-clause-clean : goal.returns-clause-clean
returns-clause-clean c = λ clean.
    let x = c.known.ensures.seating in
    c.dirty.ensures x.state x.stands ∙ clean x.state x.stands
