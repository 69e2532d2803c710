use Rattle.std.proofs.Common.{Some, refl, sym, subst}
use Rattle.std.specs.Prelude.{slice_set}
use Rattle.pp_script.specs.declared.cue.Cue.TheVariants as cue
use Rattle.pp_vault.specs.declared.fixing.Fixed.TheVariants as fixed
use Rattle.pp_vault.specs.declared.guards.Guard.TheVariants.{Pin, Bundle}
use Rattle.pp_vault.specs.declared.stage.Stage.TheVariants.{In, Out}
use Rattle.pp_vault.specs.Fits.{fix_slot}
use Rattle.pp_vault.specs.Fixes.{FixAnswers}
use Rattle.pp_contents.specs.HandMoves.{fixes}
use Rattle.pp_play.specs.declared.line.Line.TheVariants.{Refused}
use Rattle.pp_play.specs.Doing.{FixHasPlace}
use Rattle.pp_play.specs.Guarding.{hand_of, PlaysHand}
use Rattle.pp_play.proofs.Done.{done_comes}
use Rattle.pp_play.proofs.Asked.{fix_done}
use Rattle.pp_play.proofs.StillFitting.{StillFit}
use Rattle.pp_play.proofs.FixPlays.{fix_does, hit_free, opened_free, fix_got, fix_opened, fix_joined, fix_away}
use Rattle.pp_play.proofs.FixPlays.{fix_refused}
use Rattle.pp_play.proofs.Moved.{did_moves}
use Rattle.pp_play.proofs.guards.fix_in.Goals as goal

pub put-requires : goal.put-requires
put-requires c =
    let old = c.args.vault.now in
    let new = c.fix.new.self in
    let x = c.args.session in
    let page = c.args.page in
    let ends : FixAnswers old x page (fixed.Got c.in-Got.session c.in-Got.guard) new =
    subst (λ f. FixAnswers old x page f new) c.in-Got.is c.in-Ok.ensures.ok in
    hit_free old new c.requires.kept x page c.args.guards.now
    (subst (λ v. FixHasPlace old v c.args.guards.now) (sym c.requires.of) c.requires.place) c.in-Got.session c.in-Got.guard
    ends.1

pub put-requires-in-Opened : goal.put-requires-in-Opened
put-requires-in-Opened c =
    let old = c.args.vault.now in
    let new = c.fix.new.self in
    let x = c.args.session in
    let page = c.args.page in
    let ends : FixAnswers old x page (fixed.Opened c.in-Opened.session c.in-Opened.guard) new =
    subst (λ f. FixAnswers old x page f new) c.in-Opened.is c.in-Ok.ensures.ok in
    opened_free old new c.requires.kept x page c.args.guards.now
    (subst (λ v. FixHasPlace old v c.args.guards.now) (sym c.requires.of) c.requires.place) c.in-Opened.session c.in-Opened.guard
    ends.1

pub returns-in-Got-clause-comes : goal.returns-in-Got-clause-comes
returns-in-Got-clause-comes c =
    let old = c.args.vault.now in
    let new = c.fix.new.self in
    let x = c.args.session in
    let page = c.args.page in
    done_comes old new (cue.Fix c.args.worker page) c.did-line.result
    (fix_done old new c.requires.kept x.worker c.args.worker c.requires.of (fix_slot x.ask) page
    (fix_does old new x page c.in-Ok.fixed c.in-Ok.ensures.ok) c.in-Ok.ensures.done) c.did-line.ensures

pub returns-in-Opened-clause-comes : goal.returns-in-Opened-clause-comes
returns-in-Opened-clause-comes c =
    let old = c.args.vault.now in
    let new = c.fix.new.self in
    let x = c.args.session in
    let page = c.args.page in
    done_comes old new (cue.Fix c.args.worker page) c.did-line.result
    (fix_done old new c.requires.kept x.worker c.args.worker c.requires.of (fix_slot x.ask) page
    (fix_does old new x page c.in-Ok.fixed c.in-Ok.ensures.ok) c.in-Ok.ensures.done) c.did-line.ensures

pub returns-in-Joined-clause-comes : goal.returns-in-Joined-clause-comes
returns-in-Joined-clause-comes c =
    let old = c.args.vault.now in
    let new = c.fix.new.self in
    let x = c.args.session in
    let page = c.args.page in
    done_comes old new (cue.Fix c.args.worker page) c.did-line.result
    (fix_done old new c.requires.kept x.worker c.args.worker c.requires.of (fix_slot x.ask) page
    (fix_does old new x page c.in-Ok.fixed c.in-Ok.ensures.ok) c.in-Ok.ensures.done) c.did-line.ensures

pub returns-in-Away-clause-comes : goal.returns-in-Away-clause-comes
returns-in-Away-clause-comes c =
    let old = c.args.vault.now in
    let new = c.fix.new.self in
    let x = c.args.session in
    let page = c.args.page in
    done_comes old new (cue.Fix c.args.worker page) c.did-line.result
    (fix_done old new c.requires.kept x.worker c.args.worker c.requires.of (fix_slot x.ask) page
    (fix_does old new x page c.in-Ok.fixed c.in-Ok.ensures.ok) c.in-Ok.ensures.done) c.did-line.ensures

pub returns-in-Got-clause-plays : goal.returns-in-Got-clause-plays
returns-in-Got-clause-plays c =
    let old = c.args.vault.now in
    let new = c.fix.new.self in
    let x = c.args.session in
    let page = c.args.page in
    let places = c.args.guards.now in
    let laws : StillFit = record {
      others = c.hands_still_fit.ensures.others;
      slots = c.hands_still_fit.ensures.slots;
      flushing = c.hands_still_fit.ensures.flushing;
    } in
    let ends : FixAnswers old x page (fixed.Got c.in-Got.session c.in-Got.guard) new =
    subst (λ f. FixAnswers old x page f new) c.in-Got.is c.in-Ok.ensures.ok in
    rw c.put.ensures
    (subst
    (λ v. PlaysHand old v (hand_of (In x) places) (cue.Fix v page) c.did-line.result new
    (hand_of (In c.in-Got.session) (slice_set places c.in-Got.guard.slot (Some (Pin c.in-Got.guard))))) c.requires.of
    (λ fits.
    fix_got old new c.requires.kept x page places fits laws ends.0 c.did-line.result
    (fix_done old new c.requires.kept x.worker x.worker refl (fix_slot x.ask) page ends.0 c.in-Ok.ensures.done)
    c.did-line.ensures c.in-Got.session c.in-Got.guard ends.1))

pub returns-in-Opened-clause-plays : goal.returns-in-Opened-clause-plays
returns-in-Opened-clause-plays c =
    let old = c.args.vault.now in
    let new = c.fix.new.self in
    let x = c.args.session in
    let page = c.args.page in
    let places = c.args.guards.now in
    let laws : StillFit = record {
      others = c.hands_still_fit.ensures.others;
      slots = c.hands_still_fit.ensures.slots;
      flushing = c.hands_still_fit.ensures.flushing;
    } in
    let ends : FixAnswers old x page (fixed.Opened c.in-Opened.session c.in-Opened.guard) new =
    subst (λ f. FixAnswers old x page f new) c.in-Opened.is c.in-Ok.ensures.ok in
    rw c.put-in-Opened.ensures
    (subst
    (λ v. PlaysHand old v (hand_of (In x) places) (cue.Fix v page) c.did-line.result new
    (hand_of (In c.in-Opened.session) (slice_set places c.in-Opened.guard.slot (Some (Bundle c.in-Opened.guard))))) c.requires.of
    (λ fits.
    fix_opened old new c.requires.kept x page places fits laws ends.0 c.did-line.result
    (fix_done old new c.requires.kept x.worker x.worker refl (fix_slot x.ask) page ends.0 c.in-Ok.ensures.done)
    c.did-line.ensures c.in-Opened.session c.in-Opened.guard ends.1))

pub returns-in-Joined-clause-plays : goal.returns-in-Joined-clause-plays
returns-in-Joined-clause-plays c =
    let old = c.args.vault.now in
    let new = c.fix.new.self in
    let x = c.args.session in
    let page = c.args.page in
    let places = c.args.guards.now in
    let laws : StillFit = record {
      others = c.hands_still_fit.ensures.others;
      slots = c.hands_still_fit.ensures.slots;
      flushing = c.hands_still_fit.ensures.flushing;
    } in
    let ends : FixAnswers old x page (fixed.Joined c.in-Joined.session) new =
    subst (λ f. FixAnswers old x page f new) c.in-Joined.is c.in-Ok.ensures.ok in
    subst
    (λ v. PlaysHand old v (hand_of (In x) places) (cue.Fix v page) c.did-line.result new
    (hand_of (In c.in-Joined.session) places)) c.requires.of
    (λ fits.
    fix_joined old new c.requires.kept x page places fits laws ends.0 c.did-line.result
    (fix_done old new c.requires.kept x.worker x.worker refl (fix_slot x.ask) page ends.0 c.in-Ok.ensures.done)
    c.did-line.ensures (fix_slot x.ask) c.in-Joined.session ends.1)

pub returns-in-Away-clause-plays : goal.returns-in-Away-clause-plays
returns-in-Away-clause-plays c =
    let old = c.args.vault.now in
    let new = c.fix.new.self in
    let x = c.args.session in
    let page = c.args.page in
    let places = c.args.guards.now in
    let laws : StillFit = record {
      others = c.hands_still_fit.ensures.others;
      slots = c.hands_still_fit.ensures.slots;
      flushing = c.hands_still_fit.ensures.flushing;
    } in
    let ends : FixAnswers old x page (fixed.Away c.in-Away.errand) new =
    subst (λ f. FixAnswers old x page f new) c.in-Away.is c.in-Ok.ensures.ok in
    subst
    (λ v. PlaysHand old v (hand_of (In x) places) (cue.Fix v page) c.did-line.result new
    (hand_of (Out c.in-Away.errand) places)) c.requires.of
    (λ fits.
    fix_away old new c.requires.kept x page places fits laws ends.0 c.did-line.result
    (fix_done old new c.requires.kept x.worker x.worker refl (fix_slot x.ask) page ends.0 c.in-Ok.ensures.done)
    c.did-line.ensures c.in-Away.errand ends.1 ends.2)

pub returns-in-Err-clause-plays : goal.returns-in-Err-clause-plays
returns-in-Err-clause-plays c =
    let old = c.args.vault.now in
    let new = c.fix.new.self in
    let x = c.args.session in
    let page = c.args.page in
    let places = c.args.guards.now in
    rw c.in-Err.ensures.back
    (subst
    (λ v. PlaysHand old v (hand_of (In x) places) (cue.Fix v page) (Refused (cue.Fix v page) c.in-Err.refusal) new
    (hand_of (In x) places)) c.requires.of
    (λ fits.
    fix_refused old new c.requires.kept x page places fits c.in-Err.refusal c.in-Err.ensures.err
    c.in-Err.ensures.unchanged))

pub returns-in-Got-clause-moves : goal.returns-in-Got-clause-moves
returns-in-Got-clause-moves c =
    let old = c.args.vault.now in
    let new = c.fix.new.self in
    let x = c.args.session in
    let page = c.args.page in
    let places = c.args.guards.now in
    let ends : FixAnswers old x page (fixed.Got c.in-Got.session c.in-Got.guard) new =
    subst (λ f. FixAnswers old x page f new) c.in-Got.is c.in-Ok.ensures.ok in
    rw c.put.ensures
    (did_moves old new (hand_of (In x) places)
    (hand_of (In c.in-Got.session) (slice_set places c.in-Got.guard.slot (Some (Pin c.in-Got.guard)))) c.did-line.result c.did-line.ensures
    (fixes x page (fixed.Got c.in-Got.session c.in-Got.guard) refl ends refl, c.in-Ok.ensures.done))

pub returns-in-Opened-clause-moves : goal.returns-in-Opened-clause-moves
returns-in-Opened-clause-moves c =
    let old = c.args.vault.now in
    let new = c.fix.new.self in
    let x = c.args.session in
    let page = c.args.page in
    let places = c.args.guards.now in
    let ends : FixAnswers old x page (fixed.Opened c.in-Opened.session c.in-Opened.guard) new =
    subst (λ f. FixAnswers old x page f new) c.in-Opened.is c.in-Ok.ensures.ok in
    rw c.put-in-Opened.ensures
    (did_moves old new (hand_of (In x) places)
    (hand_of (In c.in-Opened.session) (slice_set places c.in-Opened.guard.slot (Some (Bundle c.in-Opened.guard)))) c.did-line.result c.did-line.ensures
    (fixes x page (fixed.Opened c.in-Opened.session c.in-Opened.guard) refl ends refl, c.in-Ok.ensures.done))

pub returns-in-Joined-clause-moves : goal.returns-in-Joined-clause-moves
returns-in-Joined-clause-moves c =
    let old = c.args.vault.now in
    let new = c.fix.new.self in
    let x = c.args.session in
    let page = c.args.page in
    let places = c.args.guards.now in
    let ends : FixAnswers old x page (fixed.Joined c.in-Joined.session) new =
    subst (λ f. FixAnswers old x page f new) c.in-Joined.is c.in-Ok.ensures.ok in
    did_moves old new (hand_of (In x) places)
    (hand_of (In c.in-Joined.session) places) c.did-line.result c.did-line.ensures
    (fixes x page (fixed.Joined c.in-Joined.session) refl ends refl, c.in-Ok.ensures.done)

pub returns-in-Away-clause-moves : goal.returns-in-Away-clause-moves
returns-in-Away-clause-moves c =
    let old = c.args.vault.now in
    let new = c.fix.new.self in
    let x = c.args.session in
    let page = c.args.page in
    let places = c.args.guards.now in
    let ends : FixAnswers old x page (fixed.Away c.in-Away.errand) new =
    subst (λ f. FixAnswers old x page f new) c.in-Away.is c.in-Ok.ensures.ok in
    did_moves old new (hand_of (In x) places)
    (hand_of (Out c.in-Away.errand) places) c.did-line.result c.did-line.ensures
    (fixes x page (fixed.Away c.in-Away.errand) refl ends refl, c.in-Ok.ensures.done)
