use Rattle.pp_script.specs.declared.cue.Cue.TheVariants as cue
use Rattle.pp_play.proofs.Done.{done_comes}
use Rattle.pp_play.proofs.Answering.{flush_over}
use Rattle.pp_play.proofs.Others.{still_fits}
use Rattle.pp_play.proofs.FlushHands.{flushed_plays, flush_not_refused}
use Rattle.std.proofs.Common.{refl, subst}
use Rattle.pp_vault.specs.declared.answering.Answered.TheVariants.{Flushed}
use Rattle.pp_vault.specs.Answers.{AnswerComesTo}
use Rattle.pp_play.proofs.Called.{flush_told}
use Rattle.pp_play.proofs.Answered.{taken_answer}
use Rattle.pp_play.proofs.Answers.{ends_flush}
use Rattle.pp_play.proofs.devices.flushed.Goals as goal

pub returns-in-Flushed-clause-comes : goal.returns-in-Flushed-clause-comes
returns-in-Flushed-clause-comes c =
    let old = c.args.vault.now in
    let new = c.answer.new.self in
    let ends : AnswerComesTo old c.args.returned (Flushed c.in-Flushed.field-0) new =
    subst (λ a. AnswerComesTo old c.args.returned a new) c.in-Flushed.is c.in-Ok.ensures.ok in
    done_comes old new cue.FlushDevice c.did.result
    (flush_over old new c.requires.kept c.args.returned c.in-Flushed.field-0 ends
    c.in-Ok.ensures.done) c.did.ensures

pub returns-in-Flushed-clause-plays : goal.returns-in-Flushed-clause-plays
returns-in-Flushed-clause-plays c fits =
    let old = c.args.vault.now in
    let new = c.answer.new.self in
    let ends : AnswerComesTo old c.args.returned (Flushed c.in-Flushed.field-0) new =
    subst (λ a. AnswerComesTo old c.args.returned a new) c.in-Flushed.is c.in-Ok.ensures.ok in
    let laws = c.hands_still_fit.ensures in
    flushed_plays (still_fits laws.others laws.slots laws.flushing) old new c.requires.kept c.args.returned
    c.in-Flushed.field-0 c.args.hands.now c.did.result c.requires.free fits ends
    c.in-Ok.ensures.done c.did.ensures

pub returns-in-Err-clause-plays : goal.returns-in-Err-clause-plays
returns-in-Err-clause-plays c fits =
    absurd (flush_not_refused c.args.vault.now c.args.hands.now c.args.returned c.in-Err.field-0-1 c.requires.kept fits
    c.in-Err.ensures.err)

pub returns-in-Flushed-clause-answered : goal.returns-in-Flushed-clause-answered
returns-in-Flushed-clause-answered c fits =
    let old = c.args.vault.now in
    let new = c.answer.new.self in
    let ends : AnswerComesTo old c.args.returned (Flushed c.in-Flushed.field-0) new =
    subst (λ a. AnswerComesTo old c.args.returned a new) c.in-Flushed.is c.in-Ok.ensures.ok in (
      flush_told old new c.did.result c.did.ensures
          (flush_over old new c.requires.kept c.args.returned c.in-Flushed.field-0 ends
          c.in-Ok.ensures.done),
      refl,
    )

pub returns-in-Err-clause-answered : goal.returns-in-Err-clause-answered
returns-in-Err-clause-answered c fits =
    absurd (flush_not_refused c.args.vault.now c.args.hands.now c.args.returned c.in-Err.field-0-1 c.requires.kept fits
    c.in-Err.ensures.err)

pub returns-in-Flushed-clause-strangers : goal.returns-in-Flushed-clause-strangers
returns-in-Flushed-clause-strangers c =
    let old = c.args.vault.now in
    let new = c.answer.new.self in
    let ends : AnswerComesTo old c.args.returned (Flushed c.in-Flushed.field-0) new =
    subst (λ a. AnswerComesTo old c.args.returned a new) c.in-Flushed.is c.in-Ok.ensures.ok in
    taken_answer c.did.result
    (flush_told old new c.did.result c.did.ensures
    (flush_over old new c.requires.kept c.args.returned c.in-Flushed.field-0 ends
    c.in-Ok.ensures.done))

pub returns-in-Flushed-clause-ends : goal.returns-in-Flushed-clause-ends
returns-in-Flushed-clause-ends c =
    let old = c.args.vault.now in
    let new = c.answer.new.self in
    let ends : AnswerComesTo old c.args.returned (Flushed c.in-Flushed.field-0) new =
    subst (λ a. AnswerComesTo old c.args.returned a new) c.in-Flushed.is c.in-Ok.ensures.ok in
    ends_flush old new c.requires.kept c.args.returned c.did.result c.in-Ok.ensures.done c.did.ensures
    c.in-Flushed.field-0 ends c.args.hands.now c.args.hands.now refl
