use Rattle.std.proofs.Common.{◌∙◌, sym}
use Rattle.pp_vault.specs.Parts.{parts_of}
use Rattle.pp_vault.proofs.Using.{scatter_kept, scatter_acts, scatter_empty, scatters}
use Rattle.pp_model.specs.declared.moves.Move.TheVariants as move
use Rattle.pp_core.specs.Queries.{ask_of}
use Rattle.pp_vault.specs.Fits.{bundle_fits, asks_scatter}
use Rattle.pp_vault.proofs.Done.{tells_asked}
use Rattle.pp_vault.proofs.store.Store.scatter.Goals as goal

pub session-requires-clause-kept : goal.session-requires-clause-kept
session-requires-clause-kept c =
    scatter_kept (parts_of c.args.self.now) (parts_of c.step_unfix.new.self) c.args.session c.args.guard c.in-Ok.reply
    c.requires c.in-Ok.ensures.done (λ s st. sym (c.fits_bundle-fits.ensures s st) ∙ c.in_default.ensures.none.0)
    (λ s st. sym (c.asks_scatter.ensures s st) ∙ c.in_default.ensures.none.1)

pub session-requires-clause-acts : goal.session-requires-clause-acts
session-requires-clause-acts c =
    scatter_acts (parts_of c.args.self.now) (parts_of c.step_unfix.new.self) c.args.session c.args.guard c.in-Ok.reply
    c.requires c.in-Ok.ensures.done (λ s st. sym (c.fits_bundle-fits.ensures s st) ∙ c.in_default.ensures.none.0)
    (λ s st. sym (c.asks_scatter.ensures s st) ∙ c.in_default.ensures.none.1)

pub returns-in-Ok-clause-ok : goal.returns-in-Ok-clause-ok
returns-in-Ok-clause-ok c =
    scatters (parts_of c.args.self.now) (parts_of c.step_unfix.new.self) c.args.session c.args.guard c.in-Ok.reply
    c.requires c.in-Ok.ensures.done (λ s st. sym (c.fits_bundle-fits.ensures s st) ∙ c.in_default.ensures.none.0)
    (λ s st. sym (c.asks_scatter.ensures s st) ∙ c.in_default.ensures.none.1) c.session.result c.session.ensures

pub returns-in-Ok-clause-empty : goal.returns-in-Ok-clause-empty
returns-in-Ok-clause-empty c =
    scatter_empty (parts_of c.args.self.now) (parts_of c.step_unfix.new.self) c.args.session c.args.guard c.in-Ok.reply
    c.requires c.in-Ok.ensures.done (λ s st. sym (c.fits_bundle-fits.ensures s st) ∙ c.in_default.ensures.none.0)
    (λ s st. sym (c.asks_scatter.ensures s st) ∙ c.in_default.ensures.none.1)

pub returns-in-Ok-clause-done : goal.returns-in-Ok-clause-done
returns-in-Ok-clause-done c =
    let old = parts_of c.args.self.now in
    let w = c.args.session.worker in
    let g = c.args.guard in
    tells_asked old (parts_of c.step_unfix.new.self) (move.Unfix w) c.in-Ok.reply c.in-Ok.ensures.done
    (λ s. bundle_fits s w g.worker g.slot) (λ s. asks_scatter g.slot (ask_of s w))
    (λ s st. sym (c.fits_bundle-fits.ensures s st) ∙ c.in_default.ensures.none.0)
    (λ s st. sym (c.asks_scatter.ensures s st) ∙ c.in_default.ensures.none.1)
