use Rattle.std.proofs.Common.{◌≡◌, ◌∙◌, Some, refl, sym, ap, subst, rules}
use Rattle.pp_vault.specs.declared.refusal.Refusal.TheVariants.{Stranger}
use Rattle.pp_vault.specs.declared.stage.Stage.TheVariants.{In}
use Rattle.pp_vault.specs.Holding.{placed}
use Rattle.pp_play.specs.declared.line.Line.TheVariants.{Refused}
use Rattle.pp_play.specs.Guarding.{hand_of, PlaysHand, uses_slot, slot_asked}
use Rattle.pp_play.proofs.Done.{done_comes}
use Rattle.pp_play.proofs.Putting.{put_again}
use Rattle.pp_play.proofs.Moved.{refused_moves}
use Rattle.pp_play.proofs.Using.{left_free, left_there, used_plays, used_moves, use_there, use_other}
use Rattle.pp_play.proofs.guards.use_asked.Goals as goal

pub used-requires-clause-uses : goal.used-requires-clause-uses
used-requires-clause-uses c = c.requires.uses ∙ ap (λ w. Some w) (sym c.requires.of)

pub used-requires-clause-asks : goal.used-requires-clause-asks
used-requires-clause-asks c =
    ap (slot_asked c.args.cue) (sym c.ask.ensures) ∙ sym c.slot_asked.ensures ∙ c.in-Some.is
    ∙ ap (λ n. Some n) (sym c.in-Some-take.ensures.slot)

pub put_left-requires : goal.put_left-requires
put_left-requires c =
    left_free c.args.guards.now c.take.new.self c.in-Some.slot c.in-Some-take.guard (search rules)
    c.in-Some-take.ensures.taken c.in-Some-take.ensures.slot c.in-Ok.guard c.in-Ok.ensures.ok.slot

pub returns-in-Ok-clause-of : goal.returns-in-Ok-clause-of
returns-in-Ok-clause-of c = ap (λ w. Some w) (c.in-Ok.ensures.ok.of ∙ c.requires.of)

pub returns-in-Ok-clause-comes : goal.returns-in-Ok-clause-comes
returns-in-Ok-clause-comes c =
    done_comes c.args.vault.now c.used.new.vault c.args.cue c.did.result c.in-Ok.ensures.ok.is_done c.did.ensures

pub returns-in-Ok-clause-plays : goal.returns-in-Ok-clause-plays
returns-in-Ok-clause-plays c =
    let places = c.args.guards.now in
    let g = c.in-Some-take.guard in
    let u = c.in-Ok.ensures.ok in
    let at : placed places c.in-Some.slot ≡ Some g = search rules in
    let of = c.in-Some-take.ensures.slot in
    used_plays c.args.vault.now c.used.new.vault c.args.session c.in-Ok.session g c.in-Ok.guard c.args.cue u places
    c.put_left.new.guards (ap (placed places) of ∙ at)
    (left_there places c.take.new.self c.in-Some.slot g at c.in-Some-take.ensures.taken of c.put_left.new.guards
    c.in-Ok.guard u.slot c.put_left.ensures) c.did.result c.did.ensures c.args.worker c.requires.of

pub returns-in-Ok-clause-moves : goal.returns-in-Ok-clause-moves
returns-in-Ok-clause-moves c =
    let places = c.args.guards.now in
    let g = c.in-Some-take.guard in
    let u = c.in-Ok.ensures.ok in
    let at : placed places c.in-Some.slot ≡ Some g = search rules in
    let of = c.in-Some-take.ensures.slot in
    used_moves c.args.vault.now c.used.new.vault c.args.session c.in-Ok.session g c.in-Ok.guard c.args.cue u places
    c.put_left.new.guards (ap (placed places) of ∙ at)
    (left_there places c.take.new.self c.in-Some.slot g at c.in-Some-take.ensures.taken of c.put_left.new.guards
    c.in-Ok.guard u.slot c.put_left.ensures) c.did.result c.did.ensures

pub returns-in-Err-clause-plays : goal.returns-in-Err-clause-plays
returns-in-Err-clause-plays c =
    let old = c.args.vault.now in
    let x = c.args.session in
    let places = c.args.guards.now in
    let g = c.in-Some-take.guard in
    let line = Refused c.args.cue c.in-Err.refusal in
    let at : placed places c.in-Some.slot ≡ Some g = search rules in
    let of = c.in-Some-take.ensures.slot in
    let back : c.put.new.guards ≡ places =
    put_again places c.take.new.self c.put.new.guards c.in-Some.slot g c.in-Err.guard at c.in-Some-take.ensures.taken of
    c.in-Err.ensures.back.1 c.put.ensures in
    rw (c.in-Err.ensures.back.0, back, c.in-Err.ensures.unchanged)
    (subst (λ v. PlaysHand old v (hand_of (In x) places) c.args.cue line old (hand_of (In x) places)) c.requires.of
    (c.in-Err.ensures.err places (ap (placed places) of ∙ at)))

pub returns-in-None-take-clause-plays : goal.returns-in-None-take-clause-plays
returns-in-None-take-clause-plays c =
    let old = c.args.vault.now in
    let x = c.args.session in
    let places = c.args.guards.now in
    let uses : uses_slot c.args.cue ≡ Some x.worker = c.requires.uses ∙ ap (λ w. Some w) (sym c.requires.of) in
    let asks : slot_asked c.args.cue x.ask ≡ Some c.in-Some.slot =
    ap (slot_asked c.args.cue) (sym c.ask.ensures) ∙ sym c.slot_asked.ensures ∙ c.in-Some.is in
    subst
    (λ v. PlaysHand old v (hand_of (In x) places) c.args.cue (Refused c.args.cue Stranger) old (hand_of (In x) c.take.new.self))
    c.requires.of
    (λ fits. absurd (use_there x c.args.cue uses c.in-Some.slot asks old c.requires.kept places (search rules) fits))

pub returns-in-None-clause-plays : goal.returns-in-None-clause-plays
returns-in-None-clause-plays c fits =
    let x = c.args.session in
    use_other c.args.vault.now c.args.worker (hand_of (In x) c.args.guards.now) c.off_plan.result c.args.cue c.requires.uses fits
    x refl (ap (slot_asked c.args.cue) (sym c.ask.ensures) ∙ sym c.slot_asked.ensures ∙ c.in-None.is) c.off_plan.ensures

pub returns-in-None-clause-moves : goal.returns-in-None-clause-moves
returns-in-None-clause-moves c =
    refused_moves c.args.vault.now c.args.vault.now (hand_of (In c.args.session) c.args.guards.now) _ _ _ c.off_plan.result
    c.off_plan.ensures
