use Rattle.std.proofs.Common.{◌∙◌, sym}
use Rattle.pp_model.specs.declared.moves.Move.TheVariants as move
use Rattle.pp_core.specs.Queries.{ask_of}
use Rattle.pp_vault.specs.Parts.{parts_of}
use Rattle.pp_vault.specs.Calls.{asks}
use Rattle.pp_vault.specs.Fits.{asks_unlatch}
use Rattle.pp_vault.proofs.Asked.{stranger_so, unasked_so, other_unlatch, no_unlatch}
use Rattle.pp_vault.proofs.store.Store.slot_to_unlatch.Goals as goal

pub returns-in_default-clause-err : goal.returns-in_default-clause-err
returns-in_default-clause-err c =
    stranger_so (parts_of c.args.self.now) c.args.worker c.args.of c.args.slot c.args.page c.args.held c.ask_fitting.result c.ask_fitting.ensures (λ s. asks_unlatch c.args.slot (ask_of s c.args.worker)) (asks (move.Unlatch c.args.worker)) c.in_default.is

pub returns-in_default-ask-clause-err : goal.returns-in_default-ask-clause-err
returns-in_default-ask-clause-err c =
    unasked_so (parts_of c.args.self.now) c.args.worker c.args.of c.args.slot c.args.page c.args.held c.ask_fitting.result c.ask_fitting.ensures (asks_unlatch c.args.slot) (asks (move.Unlatch c.args.worker)) c.in-Some.ask c.in-Some.is (no_unlatch c.args.slot c.in-Some.ask c.in_default-ask.not-Unlatch)

pub returns-then-slot-from-clause-err : goal.returns-then-slot-from-clause-err
returns-then-slot-from-clause-err c =
    unasked_so (parts_of c.args.self.now) c.args.worker c.args.of c.args.slot c.args.page c.args.held c.ask_fitting.result c.ask_fitting.ensures (asks_unlatch c.args.slot) (asks (move.Unlatch c.args.worker)) c.in-Some.ask c.in-Some.is (other_unlatch c.args.slot c.in-Unlatch.own c.in-Some.ask c.in-Unlatch.is (λ e. c.if-slot-from.true (e ∙ sym c.from.ensures)))
