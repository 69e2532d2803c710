use Rattle.std.proofs.Common.{sym, subst, rules}
use Rattle.pp_script.specs.declared.cue.Cue.TheVariants as cue
use Rattle.pp_play.specs.Guarding.{hand_of, PlaysHand}
use Rattle.pp_play.proofs.Held.{fix_finds}
use Rattle.pp_play.proofs.OffPlan.{fix_inactive}
use Rattle.pp_play.proofs.Moved.{moves_of, refused_moves}
use Rattle.pp_play.proofs.guards.fix.Goals as goal

pub fix_in-stage-requires-clause-place : goal.fix_in-stage-requires-clause-place
fix_in-stage-requires-clause-place c = c.fix_has_place.ensures.free (search rules)

pub returns-then-not-fix_has_place-clause-plays : goal.returns-then-not-fix_has_place-clause-plays
returns-then-not-fix_has_place-clause-plays c =
    λ fits.
    absurd (fix_finds c.args.vault.now c.known.ensures.holds.kept c.args.worker c.args.hand fits
    (c.fix_has_place.ensures.taken (search rules)))

pub returns-else-not-fix_has_place-clause-plays : goal.returns-else-not-fix_has_place-clause-plays
returns-else-not-fix_has_place-clause-plays c =
    subst
    (λ t. PlaysHand c.args.vault.now c.args.worker (hand_of t c.args.hand.guards)
    (cue.Fix c.args.worker c.args.page) c.fix_in-stage.result.1 c.fix_in-stage.new.vault
    (hand_of c.fix_in-stage.result.0 c.fix_in-stage.new.guards)) (sym c.in-In.is) c.fix_in-stage.ensures.plays

pub returns-in_default-clause-plays : goal.returns-in_default-clause-plays
returns-in_default-clause-plays c =
    λ fits.
    fix_inactive c.args.vault.now c.args.worker c.args.hand c.off_plan.result c.in_default.not-In fits c.args.page
    c.off_plan.ensures

pub returns-else-not-fix_has_place-clause-moves : goal.returns-else-not-fix_has_place-clause-moves
returns-else-not-fix_has_place-clause-moves c =
    moves_of c.args.vault.now c.fix_in-stage.new.vault c.args.hand c.fix_in-stage.result.1
    (hand_of c.fix_in-stage.result.0 c.fix_in-stage.new.guards) _ c.in-In.is c.fix_in-stage.ensures.moves

pub returns-in_default-clause-moves : goal.returns-in_default-clause-moves
returns-in_default-clause-moves c =
    refused_moves c.args.vault.now c.args.vault.now c.args.hand c.args.hand _ _ c.off_plan.result c.off_plan.ensures
