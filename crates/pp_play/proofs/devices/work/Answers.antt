use Rattle.std.proofs.Common.{◌∙◌, sym, ap, subst}
use Rattle.pp_vault.specs.Hands.{StageFits}
use Rattle.pp_play.proofs.Carried.{back_fits, back_plays, carried}
use Rattle.pp_play.proofs.NoErrand.{place_is_free}
use Rattle.std.proofs.lemmas.Bool.{false≢true}
use Rattle.pp_play.specs.Calling.{is_back}
use Rattle.pp_vault.specs.declared.stage.Hand.{Hand}
use Rattle.pp_play.proofs.Called.{called_once}
use Rattle.std.specs.Prelude.{Some}
use Rattle.pp_play.specs.AnyHands.{is_errand}
use Rattle.pp_play.proofs.Answered.{errand_line}
use Rattle.std.proofs.Common.{refl}
use Rattle.pp_play.specs.Following.{errand_at}
use Rattle.pp_play.specs.Moving.{DoesWith}
use Rattle.pp_play.proofs.Answers.{worked, none_at}
use Rattle.pp_play.proofs.Moved.{refused_moves}
use Rattle.pp_play.proofs.devices.work.Goals as goal

pub answer-stage-requires-clause-place : goal.answer-stage-requires-clause-place
answer-stage-requires-clause-place g c = c.errand_has_place-has_place.ensures.free c.if-not-has_place.false

pub answer-stage-requires-in-Back-clause-place : goal.answer-stage-requires-in-Back-clause-place
answer-stage-requires-in-Back-clause-place g c = c.errand_has_place-has_place.ensures.free c.if-not-has_place-2.false

pub returns-then-not-has_place-clause-plays : goal.returns-then-not-has_place-clause-plays
returns-then-not-has_place-clause-plays g c fits =
    absurd (c.errand_has_place-has_place.ensures.taken c.if-not-has_place.true c.known.ensures.holds.kept
    (place_is_free c.args.vault.now c.args.worker c.args.hand fits))

pub returns-then-not-has_place-2-clause-plays : goal.returns-then-not-has_place-2-clause-plays
returns-then-not-has_place-2-clause-plays g c fits =
    absurd (c.errand_has_place-has_place.ensures.taken c.if-not-has_place-2.true c.known.ensures.holds.kept
    (place_is_free c.args.vault.now c.args.worker c.args.hand fits))

pub returns-else-not-has_place-clause-plays : goal.returns-else-not-has_place-clause-plays
returns-else-not-has_place-clause-plays g c fits =
    let old = c.args.vault.now in
    let returned = c.carry_out-returned.result in
    let made = c.carry_out-returned.ensures in
    let back = back_fits old c.args.worker c.args.hand returned fits (λ s st.
    carried _ _ _ _ _ old.page_bytes s c.args.worker c.in-Out.errand.image returned.image c.in-Out.errand.duty
    returned.duty made.duty made.made made.length
    (subst (λ x. StageFits old.page_bytes s c.args.worker x) c.in-Out.is (fits s st).stage)) in
    back_plays old c.args.worker c.args.hand returned c.answer-stage.result.1 c.answer-stage.new.vault _
    c.known.ensures.holds.kept back (c.answer-stage.ensures.plays back)

pub returns-else-not-has_place-2-clause-plays : goal.returns-else-not-has_place-2-clause-plays
returns-else-not-has_place-2-clause-plays g c fits =
    let old = c.args.vault.now in
    let returned = c.in-Back.returned in
    let back = back_fits old c.args.worker c.args.hand returned fits (λ s st.
    subst (λ x. StageFits old.page_bytes s c.args.worker x) c.in-Back.is (fits s st).stage) in
    back_plays old c.args.worker c.args.hand returned c.answer-stage-in-Back.result.1
    c.answer-stage-in-Back.new.vault _ c.known.ensures.holds.kept back (c.answer-stage-in-Back.ensures.plays back)

pub returns-else-not-has_place-clause-called : goal.returns-else-not-has_place-clause-called
returns-else-not-has_place-clause-called g c fits none =
    let old = c.args.vault.now in
    let returned = c.carry_out-returned.result in
    let made = c.carry_out-returned.ensures in
    let back = back_fits old c.args.worker c.args.hand returned fits (λ s st.
    carried _ _ _ _ _ old.page_bytes s c.args.worker c.in-Out.errand.image returned.image c.in-Out.errand.duty
    returned.duty made.duty made.made made.length
    (subst (λ x. StageFits old.page_bytes s c.args.worker x) c.in-Out.is (fits s st).stage)) in
    called_once g.D.Device.calls _ _ _ (c.answer-stage.ensures.answered back).0 made.called

pub returns-else-not-has_place-clause-forth : goal.returns-else-not-has_place-clause-forth
returns-else-not-has_place-clause-forth g c fits none =
    let old = c.args.vault.now in
    let returned = c.carry_out-returned.result in
    let made = c.carry_out-returned.ensures in
    let back = back_fits old c.args.worker c.args.hand returned fits (λ s st.
    carried _ _ _ _ _ old.page_bytes s c.args.worker c.in-Out.errand.image returned.image c.in-Out.errand.duty
    returned.duty made.duty made.made made.length
    (subst (λ x. StageFits old.page_bytes s c.args.worker x) c.in-Out.is (fits s st).stage)) in
    (c.answer-stage.ensures.answered back).1

pub returns-else-not-has_place-2-clause-called : goal.returns-else-not-has_place-2-clause-called
returns-else-not-has_place-2-clause-called g c fits none =
    absurd (false≢true (sym none ∙ ap is_back c.in-Back.is))

pub returns-else-not-has_place-2-clause-forth : goal.returns-else-not-has_place-2-clause-forth
returns-else-not-has_place-2-clause-forth g c fits none =
    absurd (false≢true (sym none ∙ ap is_back c.in-Back.is))

pub returns-else-not-has_place-clause-own : goal.returns-else-not-has_place-clause-own
returns-else-not-has_place-clause-own g c =
    let left : Hand = record { stage = c.answer-stage.result.0; guards = c.answer-stage.new.guards } in
    errand_line c.args.vault.now c.args.hand (Some left) c.args.worker c.answer-stage.result.1 (ap is_errand c.in-Out.is)
    c.answer-stage.ensures.strangers

pub returns-else-not-has_place-2-clause-own : goal.returns-else-not-has_place-2-clause-own
returns-else-not-has_place-2-clause-own g c =
    let left : Hand =
    record { stage = c.answer-stage-in-Back.result.0; guards = c.answer-stage-in-Back.new.guards } in
    errand_line c.args.vault.now c.args.hand (Some left) c.args.worker c.answer-stage-in-Back.result.1
    (ap is_errand c.in-Back.is)
    c.answer-stage-in-Back.ensures.strangers

pub returns-then-not-has_place-clause-does : goal.returns-then-not-has_place-clause-does
returns-then-not-has_place-clause-does g c fits none =
    absurd (c.errand_has_place-has_place.ensures.taken c.if-not-has_place.true c.known.ensures.holds.kept
    (place_is_free c.args.vault.now c.args.worker c.args.hand fits))

pub returns-then-not-has_place-2-clause-does : goal.returns-then-not-has_place-2-clause-does
returns-then-not-has_place-2-clause-does g c fits none =
    absurd (false≢true (sym none ∙ ap is_back c.in-Back.is))

pub returns-else-not-has_place-2-clause-does : goal.returns-else-not-has_place-2-clause-does
returns-else-not-has_place-2-clause-does g c fits none =
    absurd (false≢true (sym none ∙ ap is_back c.in-Back.is))

pub returns-else-not-has_place-clause-does : goal.returns-else-not-has_place-clause-does
returns-else-not-has_place-clause-does g c fits none =
    let old = c.args.vault.now in
    let new = c.answer-stage.new.vault in
    let hand = c.args.hand in
    let errand = c.in-Out.errand in
    let returned = c.carry_out-returned.result in
    let made = c.carry_out-returned.ensures in
    let line = c.answer-stage.result.1 in
    let left : Hand = record { stage = c.answer-stage.result.0; guards = c.answer-stage.new.guards } in
    let device = c.args.device.now in
    let e = c.carry_out-returned.new.device in
    let back = back_fits old c.args.worker hand returned fits (λ s st.
    carried _ _ _ _ _ old.page_bytes s c.args.worker errand.image returned.image errand.duty returned.duty made.duty
    made.made made.length
    (subst (λ x. StageFits old.page_bytes s c.args.worker x) c.in-Out.is (fits s st).stage)) in
    subst (λ x. DoesWith g.D.Device.read_gives g.D.Device.write_leaves (errand_at x) old hand device line new left e)
    (sym c.in-Out.is)
    (worked g.D.Device.read_gives g.D.Device.write_leaves old new hand left errand returned device e line made.duty
    made.made c.answer-stage.ensures.moves c.answer-stage.ensures.tells (c.answer-stage.ensures.answered back).0)

pub returns-in_default-clause-does : goal.returns-in_default-clause-does
returns-in_default-clause-does g c fits none =
    let old = c.args.vault.now in
    let hand = c.args.hand in
    subst
    (λ o. DoesWith g.D.Device.read_gives g.D.Device.write_leaves o old hand c.args.device.now c.off_plan.result old hand
    c.args.device.now)
    (sym (none_at hand.stage c.in_default.not-Out))
    (refl, refused_moves old old hand hand _ _ c.off_plan.result c.off_plan.ensures)
