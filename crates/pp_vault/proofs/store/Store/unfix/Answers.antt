use Rattle.pp_vault.specs.Parts.{parts_of}
use Rattle.pp_vault.proofs.Using.{unfix_kept, unfix_acts, unfix_empty, unfixes}
use Rattle.pp_cert.specs.declared.note.Held.TheVariants.{Free}
use Rattle.pp_model.specs.declared.moves.Move.TheVariants as move
use Rattle.pp_core.specs.Queries.{ask_of}
use Rattle.pp_vault.specs.Fits.{fits_both, asks_unfix, unfix_call}
use Rattle.pp_vault.specs.Calls.{asks}
use Rattle.pp_vault.proofs.FitTests.{guard_asks}
use Rattle.pp_plan.specs.declared.action.Ask.TheVariants as ask
use Rattle.pp_vault.proofs.Asked.{fit, own_told, unfix_wanted}
use Rattle.pp_vault.proofs.Done.{tells_asked, refuses}
use Rattle.pp_vault.proofs.store.Store.unfix.Goals as goal

pub session-requires-clause-kept : goal.session-requires-clause-kept
session-requires-clause-kept c =
    unfix_kept (parts_of c.args.self.now) (parts_of c.step_unfix_held.new.self) c.args.session c.args.guard c.in-Ok-step_unfix_held.reply
    c.requires c.in-Ok-step_unfix_held.ensures.done (fit (parts_of c.args.self.now) c.args.session.worker c.args.guard.worker c.args.guard.slot c.args.guard.page Free (ask.Unfix c.args.guard.slot) c.in-Ok.ensures.ok.1)
    (unfix_wanted (parts_of c.args.self.now) c.args.session.worker c.args.guard.worker c.args.guard.slot c.args.guard.page c.in-Ok.ensures.ok.1)

pub session-requires-clause-acts : goal.session-requires-clause-acts
session-requires-clause-acts c =
    unfix_acts (parts_of c.args.self.now) (parts_of c.step_unfix_held.new.self) c.args.session c.args.guard c.in-Ok-step_unfix_held.reply
    c.requires c.in-Ok-step_unfix_held.ensures.done (fit (parts_of c.args.self.now) c.args.session.worker c.args.guard.worker c.args.guard.slot c.args.guard.page Free (ask.Unfix c.args.guard.slot) c.in-Ok.ensures.ok.1)
    (unfix_wanted (parts_of c.args.self.now) c.args.session.worker c.args.guard.worker c.args.guard.slot c.args.guard.page c.in-Ok.ensures.ok.1)

pub returns-in-Ok-step_unfix_held-clause-ok : goal.returns-in-Ok-step_unfix_held-clause-ok
returns-in-Ok-step_unfix_held-clause-ok c =
    unfixes (parts_of c.args.self.now) (parts_of c.step_unfix_held.new.self) c.args.session c.args.guard c.in-Ok-step_unfix_held.reply
    c.requires c.in-Ok-step_unfix_held.ensures.done (fit (parts_of c.args.self.now) c.args.session.worker c.args.guard.worker c.args.guard.slot c.args.guard.page Free (ask.Unfix c.args.guard.slot) c.in-Ok.ensures.ok.1)
    (unfix_wanted (parts_of c.args.self.now) c.args.session.worker c.args.guard.worker c.args.guard.slot c.args.guard.page c.in-Ok.ensures.ok.1) c.session.result c.session.ensures

pub returns-in-Ok-step_unfix_held-clause-empty : goal.returns-in-Ok-step_unfix_held-clause-empty
returns-in-Ok-step_unfix_held-clause-empty c =
    unfix_empty (parts_of c.args.self.now) (parts_of c.step_unfix_held.new.self) c.args.session c.args.guard c.in-Ok-step_unfix_held.reply
    c.requires c.in-Ok-step_unfix_held.ensures.done (fit (parts_of c.args.self.now) c.args.session.worker c.args.guard.worker c.args.guard.slot c.args.guard.page Free (ask.Unfix c.args.guard.slot) c.in-Ok.ensures.ok.1)
    (unfix_wanted (parts_of c.args.self.now) c.args.session.worker c.args.guard.worker c.args.guard.slot c.args.guard.page c.in-Ok.ensures.ok.1)

pub returns-in-Ok-step_unfix_held-clause-done : goal.returns-in-Ok-step_unfix_held-clause-done
returns-in-Ok-step_unfix_held-clause-done c =
    let old = parts_of c.args.self.now in
    let w = c.args.session.worker in
    let g = c.args.guard in
    tells_asked old (parts_of c.step_unfix_held.new.self) (move.Unfix w) c.in-Ok-step_unfix_held.reply c.in-Ok-step_unfix_held.ensures.done
    (λ s. fits_both s w g.worker g.slot g.page Free) (λ s. asks_unfix g.slot (ask_of s w))
    (fit (parts_of c.args.self.now) c.args.session.worker c.args.guard.worker c.args.guard.slot c.args.guard.page Free (ask.Unfix c.args.guard.slot) c.in-Ok.ensures.ok.1)
    (unfix_wanted (parts_of c.args.self.now) c.args.session.worker c.args.guard.worker c.args.guard.slot c.args.guard.page c.in-Ok.ensures.ok.1)

pub step_unfix_held-requires : goal.step_unfix_held-requires
step_unfix_held-requires c =
    own_told (parts_of c.args.self.now) c.args.session.worker c.args.guard.worker c.args.guard.slot c.args.guard.page Free c.in-Ok.own ask.Unfix c.in-Ok.ensures.ok.0 c.in-Ok.ensures.ok.1

pub returns-in-Err-step_unfix_held-clause-err : goal.returns-in-Err-step_unfix_held-clause-err
returns-in-Err-step_unfix_held-clause-err c =
    let w = c.args.session.worker in
    let g = c.args.guard in
    refuses (parts_of c.args.self.now) (parts_of c.step_unfix_held.new.self) (unfix_call w g.worker g.slot g.page)
    (move.Unfix w) c.in-Err-step_unfix_held.refusal c.in-Err-step_unfix_held.ensures.refused
    (λ s st. guard_asks (fits_both s w g.worker g.slot g.page Free) (asks_unfix g.slot (ask_of s w)) (asks (move.Unfix w))
    (fit (parts_of c.args.self.now) c.args.session.worker c.args.guard.worker c.args.guard.slot c.args.guard.page Free (ask.Unfix c.args.guard.slot) c.in-Ok.ensures.ok.1 s st)
    (unfix_wanted (parts_of c.args.self.now) c.args.session.worker c.args.guard.worker c.args.guard.slot c.args.guard.page c.in-Ok.ensures.ok.1 s st))
