use Rattle.std.proofs.Common.{sym, subst}
use Rattle.pp_play.specs.Guarding.{hand_of, PlaysHand}
use Rattle.pp_play.proofs.Acting.{back_plays}
use Rattle.pp_play.proofs.Done.{done_comes}
use Rattle.pp_play.proofs.Moved.{did_moves}
use Rattle.pp_play.proofs.workers.act.Goals as goal

pub returns-in-Ok-clause-of : goal.returns-in-Ok-clause-of
returns-in-Ok-clause-of c = (c.in-Ok.ensures.ok c.args.worker c.requires.acts c.requires.of).of

pub returns-in-Ok-clause-comes : goal.returns-in-Ok-clause-comes
returns-in-Ok-clause-comes c =
    let acts = c.in-Ok.ensures.ok c.args.worker c.requires.acts c.requires.of in
    done_comes c.args.vault.now c.acted.new.vault c.args.cue c.did.result acts.is_done c.did.ensures

pub returns-in-Ok-clause-plays : goal.returns-in-Ok-clause-plays
returns-in-Ok-clause-plays c =
    let acts = c.in-Ok.ensures.ok c.args.worker c.requires.acts c.requires.of in
    subst
    (λ l. PlaysHand c.args.vault.now c.args.worker c.args.hand c.args.cue l c.acted.new.vault
    (hand_of c.in-Ok.stage c.args.hand.guards)) (sym c.did.ensures) (acts.plays c.args.hand.guards)

pub returns-in-Ok-clause-moves : goal.returns-in-Ok-clause-moves
returns-in-Ok-clause-moves c =
    let acts = c.in-Ok.ensures.ok c.args.worker c.requires.acts c.requires.of in
    did_moves c.args.vault.now c.acted.new.vault c.args.hand (hand_of c.in-Ok.stage c.args.hand.guards) c.did.result
    c.did.ensures (acts.moves c.args.hand.guards)

pub returns-in-Ok-clause-forth : goal.returns-in-Ok-clause-forth
returns-in-Ok-clause-forth c before = (c.in-Ok.ensures.ok c.args.worker c.requires.acts c.requires.of).forth

pub returns-in-Err-clause-plays : goal.returns-in-Err-clause-plays
returns-in-Err-clause-plays c =
    back_plays c.args.vault.now c.acted.new.vault c.args.worker c.args.hand c.in-Err.stage c.args.cue c.in-Err.refusal
    c.in-Err.ensures.unchanged c.in-Err.ensures.back (c.in-Err.ensures.err c.args.worker c.requires.acts c.requires.of)
