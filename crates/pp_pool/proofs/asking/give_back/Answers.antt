use Rattle.pp_pool.proofs.Tokens.{back_does}
use Rattle.pp_pool.proofs.asking.give_back.Goals as goal

pub returns-in-Ok-clause-does : goal.returns-in-Ok-clause-does
returns-in-Ok-clause-does c done =
    back_does c.args.vault.now c.give_back.new.self c.args.leaver c.args.guard _ c.in-Ok.ensures.ok
