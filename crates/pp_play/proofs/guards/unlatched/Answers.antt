use Rattle.std.proofs.Common.{refl, sym, subst}
use Rattle.pp_cert.specs.declared.note.Held.TheVariants.{S}
use Rattle.pp_vault.specs.declared.guards.Guard.TheVariants.{Pin}
use Rattle.pp_vault.specs.Events.{Refuses}
use Rattle.pp_vault.specs.Holding.{slot_by}
use Rattle.pp_play.specs.Guarding.{unlatch_with, ChangesGuard}
use Rattle.pp_play.specs.Moving.{UnlatchesWith}
use Rattle.pp_play.proofs.Asked.{unlatch_done, put_back_done}
use Rattle.pp_play.proofs.Latching.{shared_off, exclusive_off, none_latched}
use Rattle.pp_play.proofs.guards.unlatched.Goals as goal

pub returns-in-Ok-clause-done : goal.returns-in-Ok-clause-done
returns-in-Ok-clause-done c =
    unlatch_done c.args.vault.now c.unlatch_shared.new.self c.requires c.args.session.worker c.args.session.worker refl
    S _ _ _ c.in-Ok.ensures.ok.does c.in-Ok.ensures.done

pub returns-in-Ok-unlatch_exclusive-clause-done : goal.returns-in-Ok-unlatch_exclusive-clause-done
returns-in-Ok-unlatch_exclusive-clause-done c =
    put_back_done c.args.vault.now c.unlatch_exclusive.new.self c.requires c.args.session.worker c.args.session.worker
    refl _ _ _ _ c.in-Ok-unlatch_exclusive.ensures.ok.does c.in-Ok-unlatch_exclusive.ensures.done

pub returns-in-Ok-clause-changes : goal.returns-in-Ok-clause-changes
returns-in-Ok-clause-changes c =
    let old = c.args.vault.now in
    let new = c.unlatch_shared.new.self in
    let x = c.args.session in
    let y = c.in-Ok.now in
    subst (λ a. ChangesGuard old (unlatch_with old x a) x.worker (slot_by a) new y.0 (Pin y.1)) (sym c.in-Read.is)
    (shared_off old new x y.0 c.in-Read.guard y.1 c.in-Ok.ensures.ok)

pub returns-in-Ok-unlatch_exclusive-clause-changes : goal.returns-in-Ok-unlatch_exclusive-clause-changes
returns-in-Ok-unlatch_exclusive-clause-changes c =
    let old = c.args.vault.now in
    let new = c.unlatch_exclusive.new.self in
    let x = c.args.session in
    let y = c.in-Ok-unlatch_exclusive.now in
    subst (λ a. ChangesGuard old (unlatch_with old x a) x.worker (slot_by a) new y.0 (Pin y.1)) (sym c.in-Write.is)
    (exclusive_off old new x y.0 c.in-Write.guard y.1 c.in-Ok-unlatch_exclusive.ensures.ok)

pub returns-in-Ok-clause-uses : goal.returns-in-Ok-clause-uses
returns-in-Ok-clause-uses c =
    let y = c.in-Ok.now in
    subst (λ a. UnlatchesWith c.args.vault.now c.args.session a y.2 c.unlatch_shared.new.self y.0 y.1) (sym c.in-Read.is)
    (c.in-Ok.ensures.ok, c.in-Ok.ensures.done)

pub returns-in-Ok-unlatch_exclusive-clause-uses : goal.returns-in-Ok-unlatch_exclusive-clause-uses
returns-in-Ok-unlatch_exclusive-clause-uses c =
    let y = c.in-Ok-unlatch_exclusive.now in
    subst (λ a. UnlatchesWith c.args.vault.now c.args.session a y.2 c.unlatch_exclusive.new.self y.0 y.1)
    (sym c.in-Write.is) (c.in-Ok-unlatch_exclusive.ensures.ok, c.in-Ok-unlatch_exclusive.ensures.done)

pub returns-in-Err-clause-err : goal.returns-in-Err-clause-err
returns-in-Err-clause-err c =
    let old = c.args.vault.now in
    subst (λ a. Refuses old (unlatch_with old c.args.session a) c.in-Err.refusal) (sym c.in-Read.is) c.in-Err.ensures.err

pub returns-in-Err-unlatch_exclusive-clause-err : goal.returns-in-Err-unlatch_exclusive-clause-err
returns-in-Err-unlatch_exclusive-clause-err c =
    let old = c.args.vault.now in
    let e = c.in-Err-unlatch_exclusive in
    subst (λ a. Refuses old (unlatch_with old c.args.session a) e.refusal) (sym c.in-Write.is) e.ensures.err

pub returns-in_default-clause-err : goal.returns-in_default-clause-err
returns-in_default-clause-err c =
    none_latched c.args.vault.now c.args.session c.args.guard c.in_default.not-Read c.in_default.not-Write
