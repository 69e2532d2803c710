use Rattle.std.proofs.Common.{◌≡◌, ◌∙◌, Some, None, refl, sym, ap, subst, rules}
use Rattle.std.specs.Prelude.{slice_set}
use Rattle.pp_vault.specs.declared.stage.Stage.TheVariants.{Leaving}
use Rattle.pp_vault.specs.Holding.{slot_by, placed}
use Rattle.pp_script.specs.declared.cue.Cue.TheVariants as cue
use Rattle.pp_play.specs.declared.line.Line.TheVariants.{Refused}
use Rattle.pp_play.specs.Doing.{HandPlays}
use Rattle.pp_play.specs.Guarding.{hand_of, PlaysHand}
use Rattle.pp_play.proofs.Done.{done_comes}
use Rattle.pp_play.proofs.Asked.{same}
use Rattle.pp_play.proofs.Leaving.{given_back}
use Rattle.pp_play.proofs.OffPlan.{unwind_empty}
use Rattle.pp_play.proofs.Places.{taken_free}
use Rattle.pp_play.proofs.Putting.{put_again}
use Rattle.pp_play.proofs.StillFitting.{StillFit}
use Rattle.pp_play.proofs.UnwindPlays.{still_leaves, unwind_plays, unwind_refused}
use Rattle.pp_contents.specs.HandMoves.{gives_back}
use Rattle.pp_play.proofs.Moved.{did_moves, refused_moves}
use Rattle.pp_play.proofs.guards.unwind.Goals as goal

pub put-requires : goal.put-requires
put-requires c =
    let at : slot_by c.in-Err.guard ≡ c.args.slot = ap slot_by c.in-Err.ensures.back.1 ∙ c.in-Some.ensures.slot in
    rw (c.in-Some.ensures.taken, at) (taken_free c.args.hand.guards c.args.slot c.in-Some.guard (search rules))

pub returns-in-Ok-clause-comes : goal.returns-in-Ok-clause-comes
returns-in-Ok-clause-comes c =
    let old = c.args.vault.now in
    let new = c.give_back.new.self in
    done_comes old new (cue.Unwind c.args.worker c.args.slot) c.did.result
    (given_back old new c.known.ensures.holds.kept c.args.worker c.args.slot c.in-Leaving.leaver c.in-Ok.leaver
    (same _ _ (search rules)) c.in-Some.guard c.in-Some.ensures.slot c.in-Ok.ensures.ok c.in-Ok.ensures.done)
    c.did.ensures

pub returns-in-Ok-clause-plays : goal.returns-in-Ok-clause-plays
returns-in-Ok-clause-plays c =
    let old = c.args.vault.now in
    let new = c.give_back.new.self in
    let k = c.known.ensures.holds.kept in
    let x = c.in-Leaving.leaver in
    let y = c.in-Ok.leaver in
    let g = c.in-Some.guard in
    let slot = c.args.slot in
    let places = c.args.hand.guards in
    let line = c.did.result in
    let of : x.worker ≡ c.args.worker = same _ _ (search rules) in
    let at : placed places slot ≡ Some g = search rules in
    let left = hand_of (Leaving y) (slice_set places slot None) in
    let laws : StillFit = record {
      others = c.hands_still_fit.ensures.others;
      slots = c.hands_still_fit.ensures.slots;
      flushing = c.hands_still_fit.ensures.flushing;
    } in
    let mine : PlaysHand old x.worker (hand_of (Leaving x) places) (cue.Unwind x.worker slot) line new left =
    λ fits.
    unwind_plays old new k x places fits slot g at laws y (still_leaves old new x y g c.in-Ok.ensures.ok)
    c.in-Ok.ensures.empty line
    (given_back old new k x.worker slot x y refl g c.in-Some.ensures.slot c.in-Ok.ensures.ok c.in-Ok.ensures.done)
    c.did.ensures in
    rw c.in-Some.ensures.taken
    (subst (λ t. PlaysHand old c.args.worker (hand_of t places) (cue.Unwind c.args.worker slot) line new left)
    (sym c.in-Leaving.is)
    (subst (λ v. PlaysHand old v (hand_of (Leaving x) places) (cue.Unwind v slot) line new left) of mine))

pub returns-in-Err-clause-plays : goal.returns-in-Err-clause-plays
returns-in-Err-clause-plays c =
    let old = c.args.vault.now in
    let new = c.give_back.new.self in
    let k = c.known.ensures.holds.kept in
    let x = c.in-Leaving.leaver in
    let g = c.in-Some.guard in
    let slot = c.args.slot in
    let places = c.args.hand.guards in
    let why = c.in-Err.refusal in
    let of : x.worker ≡ c.args.worker = same _ _ (search rules) in
    let at : placed places slot ≡ Some g = search rules in
    let left = hand_of (Leaving x) places in
    let back : c.put.new.guards ≡ places =
    put_again places c.take.new.self c.put.new.guards slot g c.in-Err.guard at c.in-Some.ensures.taken
    c.in-Some.ensures.slot c.in-Err.ensures.back.1 c.put.ensures in
    let mine : PlaysHand old x.worker (hand_of (Leaving x) places) (cue.Unwind x.worker slot)
    (Refused (cue.Unwind x.worker slot) why) new left =
    λ fits.
    unwind_refused old new k x places fits slot g at why c.in-Err.ensures.err c.in-Err.ensures.unchanged in
    rw (c.in-Err.ensures.back.0, back)
    (subst
    (λ t. PlaysHand old c.args.worker (hand_of t places) (cue.Unwind c.args.worker slot)
    (Refused (cue.Unwind c.args.worker slot) why) new left) (sym c.in-Leaving.is)
    (subst
    (λ v. PlaysHand old v (hand_of (Leaving x) places) (cue.Unwind v slot) (Refused (cue.Unwind v slot) why) new left)
    of mine))

pub returns-in-None-clause-plays : goal.returns-in-None-clause-plays
returns-in-None-clause-plays c =
    let v = c.args.vault.now in
    let w = c.args.worker in
    let hand = c.args.hand in
    let line = c.off_plan.result in
    let none : placed hand.guards c.args.slot ≡ None = search rules in
    λ fits.
    rw c.in-None.ensures.unchanged
    (subst (λ t. HandPlays v w hand (cue.Unwind w c.args.slot) line v (hand_of t hand.guards)) c.in-Leaving.is
    (unwind_empty v w hand line c.in-Leaving.leaver c.args.slot c.in-Leaving.is none fits c.off_plan.ensures))

pub returns-in-Ok-clause-moves : goal.returns-in-Ok-clause-moves
returns-in-Ok-clause-moves c =
    let old = c.args.vault.now in
    let new = c.give_back.new.self in
    let x = c.in-Leaving.leaver in
    let y = c.in-Ok.leaver in
    let g = c.in-Some.guard in
    let slot = c.args.slot in
    let places = c.args.hand.guards in
    let at : placed places slot ≡ Some g = search rules in
    rw c.in-Some.ensures.taken
    (did_moves old new c.args.hand (hand_of (Leaving y) (slice_set places slot None)) c.did.result
    c.did.ensures (gives_back x y slot g c.in-Leaving.is at c.in-Ok.ensures.ok refl, c.in-Ok.ensures.done))

pub returns-in-None-clause-moves : goal.returns-in-None-clause-moves
returns-in-None-clause-moves c =
    refused_moves c.args.vault.now c.args.vault.now c.args.hand _ _ _ c.off_plan.result c.off_plan.ensures

pub returns-in_default-clause-moves : goal.returns-in_default-clause-moves
returns-in_default-clause-moves c =
    refused_moves c.args.vault.now c.args.vault.now c.args.hand c.args.hand _ _ c.off_plan-in_default.result
    c.off_plan-in_default.ensures
