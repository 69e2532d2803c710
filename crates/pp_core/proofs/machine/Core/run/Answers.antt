use Rattle.std.proofs.Common.{◌≡◌, ◌++◌, ◌∷◌, [], refl, rules}
use Rattle.pp_core.proofs.Standing.{headline_holds}
use Rattle.pp_core.proofs.RunTies.{goes_on, went}
use Rattle.pp_core.proofs.machine.Core.run.Goals as goal

pub returns-clause-headline : goal.returns-clause-headline
returns-clause-headline c = headline_holds c.loop-asked.self

pub returns-in_err-reserve-clause-headline : goal.returns-in_err-reserve-clause-headline
returns-in_err-reserve-clause-headline c = headline_holds c.args.self.now

pub loop-asked-preserved : goal.loop-asked-preserved
loop-asked-preserved c =
    let pushed : c.push_reserved.new.self.items ≡ c.loop-asked.replies.items ++ c.step-reply.result ∷ [] =
    search rules in
    record {
      kept = c.step-reply.ensures.kept;
      room = search rules;
      goes = rw pushed (goes_on _ _ _ _ _ _ _ c.loop-asked.asked-index _ _ c.loop-asked-test.true refl
          c.loop-asked.invariant.goes c.step-reply.ensures.moves);
    }

pub returns-clause-moves : goal.returns-clause-moves
returns-clause-moves c =
    went c.args.self.now c.args.moves.now c.args.replies.now.items c.loop-asked.self c.loop-asked.replies.items
    c.loop-asked.asked-index (search rules) c.loop-asked.invariant.goes
