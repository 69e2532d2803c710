use Rattle.std.proofs.Common.{refl, sym}
use Rattle.pp_run.proofs.Places.{as_before}
use Rattle.pp_run.proofs.renewing.is_idle.Goals as goal

pub returns-clause-same : goal.returns-clause-same
returns-clause-same c =
    as_before c.args.hands.now.workers c.part.new.self.workers c.put_back.new.hands.workers c.args.worker c.in-Some.hand
    c.in-Some.hand (sym c.in-Some.ensures.hand) c.in-Some.ensures.of c.in-Some.ensures.taken refl c.put_back.ensures.places
