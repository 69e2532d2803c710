use Rattle.pp_vault.specs.Parts.{parts_of}
use Rattle.pp_vault.proofs.Using.{unlatch_kept, unlatch_acts, unlatches}
use Rattle.pp_cert.specs.declared.note.Held.TheVariants.{S}
use Rattle.pp_model.specs.declared.moves.Move.TheVariants as move
use Rattle.pp_core.specs.Queries.{ask_of}
use Rattle.pp_vault.specs.Fits.{fits_both, asks_unlatch, unlatch_call}
use Rattle.pp_vault.specs.Calls.{asks}
use Rattle.pp_vault.proofs.FitTests.{guard_asks}
use Rattle.pp_plan.specs.declared.action.Ask.TheVariants as ask
use Rattle.pp_vault.proofs.Asked.{fit, own_told, unlatch_wanted}
use Rattle.pp_vault.proofs.Done.{tells_asked, refuses}
use Rattle.pp_vault.proofs.store.Store.unlatch_shared.Goals as goal

pub session-requires-clause-kept : goal.session-requires-clause-kept
session-requires-clause-kept c =
    unlatch_kept (parts_of c.args.self.now) (parts_of c.step_unlatch_held.new.self) c.args.session c.args.guard c.in-Ok-step_unlatch_held.reply
    c.requires c.in-Ok-step_unlatch_held.ensures.done (fit (parts_of c.args.self.now) c.args.session.worker c.args.guard.worker c.args.guard.slot c.args.guard.page S (ask.Unlatch c.args.guard.slot) c.in-Ok.ensures.ok.1)
    (unlatch_wanted (parts_of c.args.self.now) c.args.session.worker c.args.guard.worker c.args.guard.slot c.args.guard.page S c.in-Ok.ensures.ok.1)

pub session-requires-clause-acts : goal.session-requires-clause-acts
session-requires-clause-acts c =
    unlatch_acts (parts_of c.args.self.now) (parts_of c.step_unlatch_held.new.self) c.args.session c.args.guard c.in-Ok-step_unlatch_held.reply
    c.requires c.in-Ok-step_unlatch_held.ensures.done (fit (parts_of c.args.self.now) c.args.session.worker c.args.guard.worker c.args.guard.slot c.args.guard.page S (ask.Unlatch c.args.guard.slot) c.in-Ok.ensures.ok.1)
    (unlatch_wanted (parts_of c.args.self.now) c.args.session.worker c.args.guard.worker c.args.guard.slot c.args.guard.page S c.in-Ok.ensures.ok.1)

pub returns-in-Ok-step_unlatch_held-clause-ok : goal.returns-in-Ok-step_unlatch_held-clause-ok
returns-in-Ok-step_unlatch_held-clause-ok c =
    unlatches (parts_of c.args.self.now) (parts_of c.step_unlatch_held.new.self) c.args.session c.args.guard c.in-Ok-step_unlatch_held.reply
    c.requires c.in-Ok-step_unlatch_held.ensures.done (fit (parts_of c.args.self.now) c.args.session.worker c.args.guard.worker c.args.guard.slot c.args.guard.page S (ask.Unlatch c.args.guard.slot) c.in-Ok.ensures.ok.1)
    (unlatch_wanted (parts_of c.args.self.now) c.args.session.worker c.args.guard.worker c.args.guard.slot c.args.guard.page S c.in-Ok.ensures.ok.1) c.session.result c.session.ensures

pub returns-in-Ok-step_unlatch_held-clause-done : goal.returns-in-Ok-step_unlatch_held-clause-done
returns-in-Ok-step_unlatch_held-clause-done c =
    let old = parts_of c.args.self.now in
    let w = c.args.session.worker in
    let g = c.args.guard in
    tells_asked old (parts_of c.step_unlatch_held.new.self) (move.Unlatch w) c.in-Ok-step_unlatch_held.reply c.in-Ok-step_unlatch_held.ensures.done
    (λ s. fits_both s w g.worker g.slot g.page S) (λ s. asks_unlatch g.slot (ask_of s w))
    (fit (parts_of c.args.self.now) c.args.session.worker c.args.guard.worker c.args.guard.slot c.args.guard.page S (ask.Unlatch c.args.guard.slot) c.in-Ok.ensures.ok.1)
    (unlatch_wanted (parts_of c.args.self.now) c.args.session.worker c.args.guard.worker c.args.guard.slot c.args.guard.page S c.in-Ok.ensures.ok.1)

pub step_unlatch_held-requires : goal.step_unlatch_held-requires
step_unlatch_held-requires c =
    own_told (parts_of c.args.self.now) c.args.session.worker c.args.guard.worker c.args.guard.slot c.args.guard.page S c.in-Ok.own ask.Unlatch c.in-Ok.ensures.ok.0 c.in-Ok.ensures.ok.1

pub returns-in-Err-step_unlatch_held-clause-err : goal.returns-in-Err-step_unlatch_held-clause-err
returns-in-Err-step_unlatch_held-clause-err c =
    let w = c.args.session.worker in
    let g = c.args.guard in
    refuses (parts_of c.args.self.now) (parts_of c.step_unlatch_held.new.self) (unlatch_call S w g.worker g.slot g.page)
    (move.Unlatch w) c.in-Err-step_unlatch_held.refusal c.in-Err-step_unlatch_held.ensures.refused
    (λ s st. guard_asks (fits_both s w g.worker g.slot g.page S) (asks_unlatch g.slot (ask_of s w)) (asks (move.Unlatch w))
    (fit (parts_of c.args.self.now) c.args.session.worker c.args.guard.worker c.args.guard.slot c.args.guard.page S (ask.Unlatch c.args.guard.slot) c.in-Ok.ensures.ok.1 s st)
    (unlatch_wanted (parts_of c.args.self.now) c.args.session.worker c.args.guard.worker c.args.guard.slot c.args.guard.page S c.in-Ok.ensures.ok.1 s st))
