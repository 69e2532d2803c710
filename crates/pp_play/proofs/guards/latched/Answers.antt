use Rattle.std.proofs.Common.{refl, sym, subst}
use Rattle.pp_plan.specs.declared.mode.Mode.TheVariants as mode
use Rattle.pp_vault.specs.declared.guards.Guard.TheVariants.{Read, Write}
use Rattle.pp_vault.specs.Events.{Refuses}
use Rattle.pp_vault.specs.Fits.{latch_call}
use Rattle.pp_play.specs.Guarding.{ChangesGuard}
use Rattle.pp_play.proofs.Asked.{latch_done}
use Rattle.pp_play.proofs.Latching.{shared, exclusive}
use Rattle.pp_play.proofs.guards.latched.Goals as goal

pub returns-in-Ok-clause-done : goal.returns-in-Ok-clause-done
returns-in-Ok-clause-done c =
    latch_done c.args.vault.now c.latch_shared.new.self c.requires c.args.session.worker c.args.session.worker refl
    mode.S _ _ _ c.in-Ok.ensures.ok.does c.in-Ok.ensures.done

pub returns-in-Ok-latch_exclusive-clause-done : goal.returns-in-Ok-latch_exclusive-clause-done
returns-in-Ok-latch_exclusive-clause-done c =
    latch_done c.args.vault.now c.latch_exclusive.new.self c.requires c.args.session.worker c.args.session.worker refl
    mode.X _ _ _ c.in-Ok-latch_exclusive.ensures.ok.does c.in-Ok-latch_exclusive.ensures.done

pub returns-in-Ok-clause-changes : goal.returns-in-Ok-clause-changes
returns-in-Ok-clause-changes c =
    let old = c.args.vault.now in
    let new = c.latch_shared.new.self in
    let x = c.args.session in
    let g = c.args.guard in
    subst
    (λ m. ChangesGuard old (latch_call m x.worker g.worker g.slot g.page) x.worker g.slot new c.in-Ok.session
    (Read c.in-Ok.guard)) (sym c.in-S.is) (shared old new x c.in-Ok.session g c.in-Ok.guard c.in-Ok.ensures.ok)

pub returns-in-Ok-latch_exclusive-clause-changes : goal.returns-in-Ok-latch_exclusive-clause-changes
returns-in-Ok-latch_exclusive-clause-changes c =
    let old = c.args.vault.now in
    let new = c.latch_exclusive.new.self in
    let x = c.args.session in
    let g = c.args.guard in
    let y = c.in-Ok-latch_exclusive in
    subst
    (λ m. ChangesGuard old (latch_call m x.worker g.worker g.slot g.page) x.worker g.slot new y.session (Write y.guard))
    (sym c.in-X.is) (exclusive old new x y.session g y.guard y.ensures.ok)

pub returns-in-Ok-clause-uses : goal.returns-in-Ok-clause-uses
returns-in-Ok-clause-uses c = (c.in-Ok.ensures.ok, c.in-Ok.ensures.done)

pub returns-in-Ok-latch_exclusive-clause-uses : goal.returns-in-Ok-latch_exclusive-clause-uses
returns-in-Ok-latch_exclusive-clause-uses c =
    (c.in-Ok-latch_exclusive.ensures.ok, c.in-Ok-latch_exclusive.ensures.done)

pub returns-in-Err-clause-err : goal.returns-in-Err-clause-err
returns-in-Err-clause-err c =
    let g = c.args.guard in
    let x = c.args.session in
    let e = c.in-Err.kept in
    subst (λ m. Refuses c.args.vault.now (latch_call m x.worker g.worker g.slot g.page) e.2) (sym c.in-S.is)
    c.in-Err.ensures.err

pub returns-in-Err-latch_exclusive-clause-err : goal.returns-in-Err-latch_exclusive-clause-err
returns-in-Err-latch_exclusive-clause-err c =
    let g = c.args.guard in
    let x = c.args.session in
    let e = c.in-Err-latch_exclusive.kept in
    subst (λ m. Refuses c.args.vault.now (latch_call m x.worker g.worker g.slot g.page) e.2) (sym c.in-X.is)
    c.in-Err-latch_exclusive.ensures.err
