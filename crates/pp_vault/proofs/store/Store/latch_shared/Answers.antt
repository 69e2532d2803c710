use Rattle.pp_plan.specs.declared.mode.Mode.TheVariants as mode
use Rattle.pp_vault.specs.Parts.{parts_of}
use Rattle.pp_vault.proofs.Using.{latch_refuses, latch_kept, latch_acts, latches_so}
use Rattle.pp_cert.specs.declared.note.Held.TheVariants.{Free}
use Rattle.pp_model.specs.declared.moves.Move.TheVariants as move
use Rattle.pp_core.specs.Queries.{ask_of}
use Rattle.pp_vault.specs.Fits.{fits_both, asks_latch}
use Rattle.pp_plan.specs.declared.action.Ask.TheVariants as ask
use Rattle.pp_vault.proofs.Asked.{fit, own_told, latch_wanted}
use Rattle.pp_vault.proofs.Done.{tells_asked}
use Rattle.pp_vault.proofs.store.Store.latch_shared.Goals as goal

pub session-requires-clause-kept : goal.session-requires-clause-kept
session-requires-clause-kept c =
    latch_kept (parts_of c.args.self.now) (parts_of c.step_latch_held.new.self) c.args.session c.args.guard c.in-Ok-step_latch_held.reply
    c.requires c.in-Ok-step_latch_held.ensures.done (fit (parts_of c.args.self.now) c.args.session.worker c.args.guard.worker c.args.guard.slot c.args.guard.page Free (ask.Latch c.args.guard.slot mode.S) c.in-Ok.ensures.ok.1)
    (latch_wanted (parts_of c.args.self.now) c.args.session.worker c.args.guard.worker c.args.guard.slot c.args.guard.page mode.S c.in-Ok.ensures.ok.1)

pub session-requires-clause-acts : goal.session-requires-clause-acts
session-requires-clause-acts c =
    latch_acts (parts_of c.args.self.now) (parts_of c.step_latch_held.new.self) c.args.session c.args.guard c.in-Ok-step_latch_held.reply
    c.requires c.in-Ok-step_latch_held.ensures.done (fit (parts_of c.args.self.now) c.args.session.worker c.args.guard.worker c.args.guard.slot c.args.guard.page Free (ask.Latch c.args.guard.slot mode.S) c.in-Ok.ensures.ok.1)
    (latch_wanted (parts_of c.args.self.now) c.args.session.worker c.args.guard.worker c.args.guard.slot c.args.guard.page mode.S c.in-Ok.ensures.ok.1)

pub returns-in-Ok-step_latch_held-clause-ok : goal.returns-in-Ok-step_latch_held-clause-ok
returns-in-Ok-step_latch_held-clause-ok c =
    latches_so (parts_of c.args.self.now) (parts_of c.step_latch_held.new.self) c.args.session c.args.guard c.in-Ok-step_latch_held.reply
    c.requires c.in-Ok-step_latch_held.ensures.done (fit (parts_of c.args.self.now) c.args.session.worker c.args.guard.worker c.args.guard.slot c.args.guard.page Free (ask.Latch c.args.guard.slot mode.S) c.in-Ok.ensures.ok.1)
    (latch_wanted (parts_of c.args.self.now) c.args.session.worker c.args.guard.worker c.args.guard.slot c.args.guard.page mode.S c.in-Ok.ensures.ok.1) c.session.result c.mark_in-mark.result c.mark_in-mark.ensures c.session.ensures

pub returns-in-Err-step_latch_held-clause-err : goal.returns-in-Err-step_latch_held-clause-err
returns-in-Err-step_latch_held-clause-err c =
    latch_refuses (parts_of c.args.self.now) (parts_of c.step_latch_held.new.self) mode.S c.args.session c.args.guard c.in-Err-step_latch_held.refusal
    c.in-Err-step_latch_held.ensures.refused (fit (parts_of c.args.self.now) c.args.session.worker c.args.guard.worker c.args.guard.slot c.args.guard.page Free (ask.Latch c.args.guard.slot mode.S) c.in-Ok.ensures.ok.1)
    (latch_wanted (parts_of c.args.self.now) c.args.session.worker c.args.guard.worker c.args.guard.slot c.args.guard.page mode.S c.in-Ok.ensures.ok.1)

pub returns-in-Ok-step_latch_held-clause-done : goal.returns-in-Ok-step_latch_held-clause-done
returns-in-Ok-step_latch_held-clause-done c =
    let old = parts_of c.args.self.now in
    let w = c.args.session.worker in
    let g = c.args.guard in
    tells_asked old (parts_of c.step_latch_held.new.self) (move.Latch w) c.in-Ok-step_latch_held.reply c.in-Ok-step_latch_held.ensures.done
    (λ s. fits_both s w g.worker g.slot g.page Free) (λ s. asks_latch g.slot mode.S (ask_of s w))
    (fit (parts_of c.args.self.now) c.args.session.worker c.args.guard.worker c.args.guard.slot c.args.guard.page Free (ask.Latch c.args.guard.slot mode.S) c.in-Ok.ensures.ok.1)
    (latch_wanted (parts_of c.args.self.now) c.args.session.worker c.args.guard.worker c.args.guard.slot c.args.guard.page mode.S c.in-Ok.ensures.ok.1)

pub step_latch_held-requires : goal.step_latch_held-requires
step_latch_held-requires c =
    own_told (parts_of c.args.self.now) c.args.session.worker c.args.guard.worker c.args.guard.slot c.args.guard.page Free c.in-Ok.own (λ n. ask.Latch n mode.S) c.in-Ok.ensures.ok.0 c.in-Ok.ensures.ok.1
