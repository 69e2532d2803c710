use Rattle.std.specs.Prelude.{is_ok}
use Rattle.pp_script.specs.declared.cue.Cue.TheVariants as cue
use Rattle.pp_play.proofs.Done.{done_comes}
use Rattle.pp_play.proofs.Answering.{answer_done, got_free, opened_free}
use Rattle.pp_play.proofs.Others.{still_fits}
use Rattle.pp_play.proofs.DeviceHands.{got_hand, opened_hand, joined_hand, away_hand, lost_hand}
use Rattle.pp_play.proofs.Carried.{back_hand, not_refused}
use Rattle.std.proofs.Common.{refl, subst}
use Rattle.pp_vault.specs.Answers.{AnswerComesTo}
use Rattle.pp_play.proofs.Called.{device_told}
use Rattle.pp_play.proofs.Answered.{taken_answer}
use Rattle.pp_contents.specs.HandMoves.{answers}
use Rattle.std.specs.Prelude.{slice_set, Some}
use Rattle.pp_vault.specs.declared.guards.Guard.TheVariants.{Pin, Bundle}
use Rattle.pp_vault.specs.declared.stage.Stage.TheVariants as stage
use Rattle.pp_vault.specs.declared.answering.Answered.TheVariants as answered
use Rattle.pp_play.specs.Guarding.{hand_of}
use Rattle.pp_play.proofs.Answers.{tells_it}
use Rattle.pp_play.proofs.Moved.{did_moves}
use Rattle.pp_play.proofs.devices.answer.Goals as goal

pub put-requires : goal.put-requires
put-requires c =
    let ends : AnswerComesTo c.args.vault.now c.args.returned (answered.Got c.in-Got.session c.in-Got.guard) c.answer.new.self =
    subst (λ a. AnswerComesTo c.args.vault.now c.args.returned a c.answer.new.self) c.in-Got.is c.in-Ok.ensures.ok in
    got_free c.args.vault.now c.answer.new.self c.requires.kept c.args.worker c.args.returned.image
    (is_ok c.args.returned.answer) c.args.guards.now c.requires.place c.args.returned.duty c.in-Got.session
    c.in-Got.guard c.requires.of ends

pub put-requires-in-Opened : goal.put-requires-in-Opened
put-requires-in-Opened c =
    let ends : AnswerComesTo c.args.vault.now c.args.returned (answered.Opened c.in-Opened.session c.in-Opened.guard) c.answer.new.self =
    subst (λ a. AnswerComesTo c.args.vault.now c.args.returned a c.answer.new.self) c.in-Opened.is c.in-Ok.ensures.ok in
    opened_free c.args.vault.now c.answer.new.self c.requires.kept c.args.worker c.args.returned.image
    (is_ok c.args.returned.answer) c.args.guards.now c.requires.place c.args.returned.duty c.in-Opened.session
    c.in-Opened.guard c.requires.of ends

pub returns-in-Got-clause-comes : goal.returns-in-Got-clause-comes
returns-in-Got-clause-comes c =
    let old = c.args.vault.now in
    let new = c.answer.new.self in
    done_comes old new (cue.Device c.args.worker) c.did-line.result
    (answer_done old new c.requires.kept c.args.returned c.in-Ok.answered c.in-Ok.ensures.ok
    c.in-Ok.ensures.done c.args.worker c.requires.of) c.did-line.ensures

pub returns-in-Opened-clause-comes : goal.returns-in-Opened-clause-comes
returns-in-Opened-clause-comes c =
    let old = c.args.vault.now in
    let new = c.answer.new.self in
    done_comes old new (cue.Device c.args.worker) c.did-line.result
    (answer_done old new c.requires.kept c.args.returned c.in-Ok.answered c.in-Ok.ensures.ok
    c.in-Ok.ensures.done c.args.worker c.requires.of) c.did-line.ensures

pub returns-in-Joined-clause-comes : goal.returns-in-Joined-clause-comes
returns-in-Joined-clause-comes c =
    let old = c.args.vault.now in
    let new = c.answer.new.self in
    done_comes old new (cue.Device c.args.worker) c.did-line.result
    (answer_done old new c.requires.kept c.args.returned c.in-Ok.answered c.in-Ok.ensures.ok
    c.in-Ok.ensures.done c.args.worker c.requires.of) c.did-line.ensures

pub returns-in-Away-clause-comes : goal.returns-in-Away-clause-comes
returns-in-Away-clause-comes c =
    let old = c.args.vault.now in
    let new = c.answer.new.self in
    done_comes old new (cue.Device c.args.worker) c.did-line.result
    (answer_done old new c.requires.kept c.args.returned c.in-Ok.answered c.in-Ok.ensures.ok
    c.in-Ok.ensures.done c.args.worker c.requires.of) c.did-line.ensures

pub returns-in-Lost-clause-comes : goal.returns-in-Lost-clause-comes
returns-in-Lost-clause-comes c =
    let old = c.args.vault.now in
    let new = c.answer.new.self in
    done_comes old new (cue.Device c.args.worker) c.did-line.result
    (answer_done old new c.requires.kept c.args.returned c.in-Ok.answered c.in-Ok.ensures.ok
    c.in-Ok.ensures.done c.args.worker c.requires.of) c.did-line.ensures

pub returns-in-Got-clause-plays : goal.returns-in-Got-clause-plays
returns-in-Got-clause-plays c fits =
    let ends : AnswerComesTo c.args.vault.now c.args.returned (answered.Got c.in-Got.session c.in-Got.guard) c.answer.new.self =
    subst (λ a. AnswerComesTo c.args.vault.now c.args.returned a c.answer.new.self) c.in-Got.is c.in-Ok.ensures.ok in
    got_hand (still_fits c.hands_still_fit.ensures.others c.hands_still_fit.ensures.slots c.hands_still_fit.ensures.flushing)
    c.args.vault.now c.answer.new.self c.requires.kept c.args.worker c.args.returned.image
    (is_ok c.args.returned.answer) (back_hand c.args.returned c.args.guards.now) fits c.did-line.result c.did-line.ensures
    c.args.returned.duty c.in-Got.session c.in-Got.guard c.put.new.guards (λ s st. (fits s st).stage) c.put.ensures
    ends

pub returns-in-Opened-clause-plays : goal.returns-in-Opened-clause-plays
returns-in-Opened-clause-plays c fits =
    let ends : AnswerComesTo c.args.vault.now c.args.returned (answered.Opened c.in-Opened.session c.in-Opened.guard) c.answer.new.self =
    subst (λ a. AnswerComesTo c.args.vault.now c.args.returned a c.answer.new.self) c.in-Opened.is c.in-Ok.ensures.ok in
    opened_hand (still_fits c.hands_still_fit.ensures.others c.hands_still_fit.ensures.slots
    c.hands_still_fit.ensures.flushing) c.args.vault.now c.answer.new.self c.requires.kept c.args.worker c.args.returned.image
    (is_ok c.args.returned.answer) (back_hand c.args.returned c.args.guards.now) fits c.did-line.result
    c.did-line.ensures
    c.args.returned.duty c.in-Opened.session c.in-Opened.guard c.put-in-Opened.new.guards (λ s st. (fits s st).stage)
    c.put-in-Opened.ensures ends

pub returns-in-Joined-clause-plays : goal.returns-in-Joined-clause-plays
returns-in-Joined-clause-plays c fits =
    let ends : AnswerComesTo c.args.vault.now c.args.returned (answered.Joined c.in-Joined.session) c.answer.new.self =
    subst (λ a. AnswerComesTo c.args.vault.now c.args.returned a c.answer.new.self) c.in-Joined.is c.in-Ok.ensures.ok in
    joined_hand (still_fits c.hands_still_fit.ensures.others c.hands_still_fit.ensures.slots
    c.hands_still_fit.ensures.flushing) c.args.vault.now c.answer.new.self c.requires.kept c.args.worker c.args.returned.image
    (is_ok c.args.returned.answer) (back_hand c.args.returned c.args.guards.now) fits c.did-line.result
    c.did-line.ensures c.args.returned.duty c.in-Joined.session (λ s st. (fits s st).stage)
    ends

pub returns-in-Away-clause-plays : goal.returns-in-Away-clause-plays
returns-in-Away-clause-plays c fits =
    let ends : AnswerComesTo c.args.vault.now c.args.returned (answered.Away c.in-Away.errand) c.answer.new.self =
    subst (λ a. AnswerComesTo c.args.vault.now c.args.returned a c.answer.new.self) c.in-Away.is c.in-Ok.ensures.ok in
    away_hand (still_fits c.hands_still_fit.ensures.others c.hands_still_fit.ensures.slots c.hands_still_fit.ensures.flushing)
    c.args.vault.now c.answer.new.self c.requires.kept c.args.worker c.args.returned.image
    (is_ok c.args.returned.answer) (back_hand c.args.returned c.args.guards.now) fits c.did-line.result
    c.did-line.ensures c.args.returned.duty c.in-Away.errand (λ s st. (fits s st).stage)
    ends

pub returns-in-Lost-clause-plays : goal.returns-in-Lost-clause-plays
returns-in-Lost-clause-plays c fits =
    let ends : AnswerComesTo c.args.vault.now c.args.returned (answered.Lost c.in-Lost.leaver) c.answer.new.self =
    subst (λ a. AnswerComesTo c.args.vault.now c.args.returned a c.answer.new.self) c.in-Lost.is c.in-Ok.ensures.ok in
    lost_hand (still_fits c.hands_still_fit.ensures.others c.hands_still_fit.ensures.slots c.hands_still_fit.ensures.flushing)
    c.args.vault.now c.answer.new.self c.requires.kept c.args.worker c.args.returned.image
    (is_ok c.args.returned.answer) (back_hand c.args.returned c.args.guards.now) fits c.did-line.result
    c.did-line.ensures c.args.returned.duty c.in-Lost.leaver (λ s st. (fits s st).stage)
    ends

pub returns-in-Err-clause-plays : goal.returns-in-Err-clause-plays
returns-in-Err-clause-plays c fits =
    absurd (not_refused c.args.vault.now c.args.worker c.args.returned c.in-Err.field-0-1 c.requires.kept
    (λ s st. (fits s st).stage) c.in-Err.ensures.err)

pub returns-in-Got-clause-answered : goal.returns-in-Got-clause-answered
returns-in-Got-clause-answered c fits =
    let old = c.args.vault.now in
    let new = c.answer.new.self in (
      device_told old new c.did-line.result c.did-line.ensures c.args.worker
          (answer_done old new c.requires.kept c.args.returned c.in-Ok.answered c.in-Ok.ensures.ok
          c.in-Ok.ensures.done c.args.worker c.requires.of),
      refl,
    )

pub returns-in-Opened-clause-answered : goal.returns-in-Opened-clause-answered
returns-in-Opened-clause-answered c fits =
    let old = c.args.vault.now in
    let new = c.answer.new.self in (
      device_told old new c.did-line.result c.did-line.ensures c.args.worker
          (answer_done old new c.requires.kept c.args.returned c.in-Ok.answered c.in-Ok.ensures.ok
          c.in-Ok.ensures.done c.args.worker c.requires.of),
      refl,
    )

pub returns-in-Joined-clause-answered : goal.returns-in-Joined-clause-answered
returns-in-Joined-clause-answered c fits =
    let old = c.args.vault.now in
    let new = c.answer.new.self in (
      device_told old new c.did-line.result c.did-line.ensures c.args.worker
          (answer_done old new c.requires.kept c.args.returned c.in-Ok.answered c.in-Ok.ensures.ok
          c.in-Ok.ensures.done c.args.worker c.requires.of),
      refl,
    )

pub returns-in-Away-clause-answered : goal.returns-in-Away-clause-answered
returns-in-Away-clause-answered c fits =
    let old = c.args.vault.now in
    let new = c.answer.new.self in (
      device_told old new c.did-line.result c.did-line.ensures c.args.worker
          (answer_done old new c.requires.kept c.args.returned c.in-Ok.answered c.in-Ok.ensures.ok
          c.in-Ok.ensures.done c.args.worker c.requires.of),
      refl,
    )

pub returns-in-Lost-clause-answered : goal.returns-in-Lost-clause-answered
returns-in-Lost-clause-answered c fits =
    let old = c.args.vault.now in
    let new = c.answer.new.self in (
      device_told old new c.did-line.result c.did-line.ensures c.args.worker
          (answer_done old new c.requires.kept c.args.returned c.in-Ok.answered c.in-Ok.ensures.ok
          c.in-Ok.ensures.done c.args.worker c.requires.of),
      refl,
    )

pub returns-in-Err-clause-answered : goal.returns-in-Err-clause-answered
returns-in-Err-clause-answered c fits =
    absurd (not_refused c.args.vault.now c.args.worker c.args.returned c.in-Err.field-0-1 c.requires.kept
    (λ s st. (fits s st).stage) c.in-Err.ensures.err)

pub returns-in-Got-clause-strangers : goal.returns-in-Got-clause-strangers
returns-in-Got-clause-strangers c =
    let old = c.args.vault.now in
    let new = c.answer.new.self in
    taken_answer c.did-line.result (device_told old new c.did-line.result c.did-line.ensures c.args.worker
    (answer_done old new c.requires.kept c.args.returned c.in-Ok.answered c.in-Ok.ensures.ok
    c.in-Ok.ensures.done c.args.worker c.requires.of))

pub returns-in-Opened-clause-strangers : goal.returns-in-Opened-clause-strangers
returns-in-Opened-clause-strangers c =
    let old = c.args.vault.now in
    let new = c.answer.new.self in
    taken_answer c.did-line.result (device_told old new c.did-line.result c.did-line.ensures c.args.worker
    (answer_done old new c.requires.kept c.args.returned c.in-Ok.answered c.in-Ok.ensures.ok
    c.in-Ok.ensures.done c.args.worker c.requires.of))

pub returns-in-Joined-clause-strangers : goal.returns-in-Joined-clause-strangers
returns-in-Joined-clause-strangers c =
    let old = c.args.vault.now in
    let new = c.answer.new.self in
    taken_answer c.did-line.result (device_told old new c.did-line.result c.did-line.ensures c.args.worker
    (answer_done old new c.requires.kept c.args.returned c.in-Ok.answered c.in-Ok.ensures.ok
    c.in-Ok.ensures.done c.args.worker c.requires.of))

pub returns-in-Away-clause-strangers : goal.returns-in-Away-clause-strangers
returns-in-Away-clause-strangers c =
    let old = c.args.vault.now in
    let new = c.answer.new.self in
    taken_answer c.did-line.result (device_told old new c.did-line.result c.did-line.ensures c.args.worker
    (answer_done old new c.requires.kept c.args.returned c.in-Ok.answered c.in-Ok.ensures.ok
    c.in-Ok.ensures.done c.args.worker c.requires.of))

pub returns-in-Lost-clause-strangers : goal.returns-in-Lost-clause-strangers
returns-in-Lost-clause-strangers c =
    let old = c.args.vault.now in
    let new = c.answer.new.self in
    taken_answer c.did-line.result (device_told old new c.did-line.result c.did-line.ensures c.args.worker
    (answer_done old new c.requires.kept c.args.returned c.in-Ok.answered c.in-Ok.ensures.ok
    c.in-Ok.ensures.done c.args.worker c.requires.of))

pub returns-in-Got-clause-moves : goal.returns-in-Got-clause-moves
returns-in-Got-clause-moves c =
    let ends : AnswerComesTo c.args.vault.now c.args.returned (answered.Got c.in-Got.session c.in-Got.guard) c.answer.new.self =
    subst (λ a. AnswerComesTo c.args.vault.now c.args.returned a c.answer.new.self) c.in-Got.is c.in-Ok.ensures.ok in
    let old = c.args.vault.now in
    let new = c.answer.new.self in
    let places = c.args.guards.now in
    rw c.put.ensures
    (did_moves old new (back_hand c.args.returned places) (hand_of (stage.In c.in-Got.session) (slice_set places c.in-Got.guard.slot (Some (Pin c.in-Got.guard))))
    c.did-line.result c.did-line.ensures
    (answers c.args.returned (answered.Got c.in-Got.session c.in-Got.guard) refl ends refl, c.in-Ok.ensures.done))

pub returns-in-Opened-clause-moves : goal.returns-in-Opened-clause-moves
returns-in-Opened-clause-moves c =
    let ends : AnswerComesTo c.args.vault.now c.args.returned (answered.Opened c.in-Opened.session c.in-Opened.guard) c.answer.new.self =
    subst (λ a. AnswerComesTo c.args.vault.now c.args.returned a c.answer.new.self) c.in-Opened.is c.in-Ok.ensures.ok in
    let old = c.args.vault.now in
    let new = c.answer.new.self in
    let places = c.args.guards.now in
    rw c.put-in-Opened.ensures
    (did_moves old new (back_hand c.args.returned places) (hand_of (stage.In c.in-Opened.session) (slice_set places c.in-Opened.guard.slot (Some (Bundle c.in-Opened.guard))))
    c.did-line.result c.did-line.ensures
    (answers c.args.returned (answered.Opened c.in-Opened.session c.in-Opened.guard) refl ends refl, c.in-Ok.ensures.done))

pub returns-in-Joined-clause-moves : goal.returns-in-Joined-clause-moves
returns-in-Joined-clause-moves c =
    let ends : AnswerComesTo c.args.vault.now c.args.returned (answered.Joined c.in-Joined.session) c.answer.new.self =
    subst (λ a. AnswerComesTo c.args.vault.now c.args.returned a c.answer.new.self) c.in-Joined.is c.in-Ok.ensures.ok in
    let old = c.args.vault.now in
    let new = c.answer.new.self in
    let places = c.args.guards.now in
    did_moves old new (back_hand c.args.returned places) (hand_of (stage.In c.in-Joined.session) places)
    c.did-line.result c.did-line.ensures
    (answers c.args.returned (answered.Joined c.in-Joined.session) refl ends refl, c.in-Ok.ensures.done)

pub returns-in-Away-clause-moves : goal.returns-in-Away-clause-moves
returns-in-Away-clause-moves c =
    let ends : AnswerComesTo c.args.vault.now c.args.returned (answered.Away c.in-Away.errand) c.answer.new.self =
    subst (λ a. AnswerComesTo c.args.vault.now c.args.returned a c.answer.new.self) c.in-Away.is c.in-Ok.ensures.ok in
    let old = c.args.vault.now in
    let new = c.answer.new.self in
    let places = c.args.guards.now in
    did_moves old new (back_hand c.args.returned places) (hand_of (stage.Out c.in-Away.errand) places)
    c.did-line.result c.did-line.ensures
    (answers c.args.returned (answered.Away c.in-Away.errand) refl ends refl, c.in-Ok.ensures.done)

pub returns-in-Lost-clause-moves : goal.returns-in-Lost-clause-moves
returns-in-Lost-clause-moves c =
    let ends : AnswerComesTo c.args.vault.now c.args.returned (answered.Lost c.in-Lost.leaver) c.answer.new.self =
    subst (λ a. AnswerComesTo c.args.vault.now c.args.returned a c.answer.new.self) c.in-Lost.is c.in-Ok.ensures.ok in
    let old = c.args.vault.now in
    let new = c.answer.new.self in
    let places = c.args.guards.now in
    did_moves old new (back_hand c.args.returned places) (hand_of (stage.Leaving c.in-Lost.leaver) places)
    c.did-line.result c.did-line.ensures
    (answers c.args.returned (answered.Lost c.in-Lost.leaver) refl ends refl, c.in-Ok.ensures.done)

pub returns-in-Got-clause-tells : goal.returns-in-Got-clause-tells
returns-in-Got-clause-tells c =
    tells_it c.args.vault.now c.answer.new.self c.requires.kept c.args.returned c.did-line.result c.in-Ok.ensures.done
    c.did-line.ensures

pub returns-in-Opened-clause-tells : goal.returns-in-Opened-clause-tells
returns-in-Opened-clause-tells c =
    tells_it c.args.vault.now c.answer.new.self c.requires.kept c.args.returned c.did-line.result c.in-Ok.ensures.done
    c.did-line.ensures

pub returns-in-Joined-clause-tells : goal.returns-in-Joined-clause-tells
returns-in-Joined-clause-tells c =
    tells_it c.args.vault.now c.answer.new.self c.requires.kept c.args.returned c.did-line.result c.in-Ok.ensures.done
    c.did-line.ensures

pub returns-in-Away-clause-tells : goal.returns-in-Away-clause-tells
returns-in-Away-clause-tells c =
    tells_it c.args.vault.now c.answer.new.self c.requires.kept c.args.returned c.did-line.result c.in-Ok.ensures.done
    c.did-line.ensures

pub returns-in-Lost-clause-tells : goal.returns-in-Lost-clause-tells
returns-in-Lost-clause-tells c =
    tells_it c.args.vault.now c.answer.new.self c.requires.kept c.args.returned c.did-line.result c.in-Ok.ensures.done
    c.did-line.ensures
