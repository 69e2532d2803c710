use Rattle.std.proofs.Common.{◌≡◌, subst}
use Rattle.pp_pool.specs.Lent.{AreReworked, writers_in}
use Rattle.pp_pool.proofs.TakenOut.{find_places, put_back}
use Rattle.pp_pool.proofs.held.Held.into.Goals as goal

pub put_back-requires : goal.put_back-requires
put_back-requires g c =
    find_places c.args.guards.now g.L.Loan.began c.self.inside.guards.items c.requires c.self.invariant.others

pub returns-clause-back : goal.returns-clause-back
returns-clause-back g c places out =
    subst (λ ws. AreReworked places c.put_back.new.guards × (writers_in c.put_back.new.guards ≡ ws)) c.self.view_is
    (put_back places c.args.guards.now c.put_back.new.guards g.L.Loan.began c.self.inside.guards.items out
    c.self.invariant.others c.put_back.ensures.guards)
