use Rattle.std.proofs.Common.{◌∙◌, sym}
use Rattle.pp_pool.proofs.Lookups.{found, missing}
use Rattle.pp_pool.proofs.held.Held.body.Goals as goal

pub body_at-requires : goal.body_at-requires
body_at-requires g c = (found c.args.self.now c.args.slot c.in-Some.place (sym c.place.ensures ∙ c.in-Some.is)).within

pub returns-in-Some-clause-there : goal.returns-in-Some-clause-there
returns-in-Some-clause-there g c =
    sym (found c.args.self.now c.args.slot c.in-Some.place (sym c.place.ensures ∙ c.in-Some.is)).is_there

pub returns-in-Some-clause-body : goal.returns-in-Some-clause-body
returns-in-Some-clause-body g c =
    c.body_at.ensures.body ∙ sym (found c.args.self.now c.args.slot c.in-Some.place (sym c.place.ensures ∙ c.in-Some.is)).its_body

pub returns-in-None-clause-there : goal.returns-in-None-clause-there
returns-in-None-clause-there g c = sym (missing c.args.self.now c.args.slot (sym c.place.ensures ∙ c.in-None.is)).0
