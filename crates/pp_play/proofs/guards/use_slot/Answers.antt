use Rattle.std.proofs.Common.{sym, subst}
use Rattle.pp_play.specs.Guarding.{hand_of, PlaysHand}
use Rattle.pp_play.proofs.Using.{use_inactive}
use Rattle.pp_play.proofs.Moved.{moves_of, refused_moves}
use Rattle.pp_play.proofs.guards.use_slot.Goals as goal

pub returns-in-In-clause-plays : goal.returns-in-In-clause-plays
returns-in-In-clause-plays c =
    let s = c.use_asked-stage in
    subst
    (λ t. PlaysHand c.args.vault.now c.args.worker (hand_of t c.args.hand.guards) c.args.cue s.result.1 s.new.vault
    (hand_of s.result.0 s.new.guards)) (sym c.in-In.is) s.ensures.plays

pub returns-in_default-clause-plays : goal.returns-in_default-clause-plays
returns-in_default-clause-plays c fits =
    use_inactive c.args.vault.now c.args.worker c.args.hand c.off_plan.result c.args.cue c.requires.uses fits
    c.in_default.not-In c.off_plan.ensures

pub returns-in-In-clause-moves : goal.returns-in-In-clause-moves
returns-in-In-clause-moves c =
    let s = c.use_asked-stage in
    moves_of c.args.vault.now s.new.vault c.args.hand s.result.1 (hand_of s.result.0 s.new.guards) _ c.in-In.is
    s.ensures.moves

pub returns-in_default-clause-moves : goal.returns-in_default-clause-moves
returns-in_default-clause-moves c =
    refused_moves c.args.vault.now c.args.vault.now c.args.hand c.args.hand _ _ c.off_plan.result c.off_plan.ensures
