use Rattle.std.proofs.Common.{◌≡◌, ◌∙◌, false, sym, rules}
use Rattle.pp_cert.specs.declared.note.Held.TheVariants.{Free}
use Rattle.pp_model.specs.declared.moves.Move.TheVariants as move
use Rattle.pp_core.specs.Queries.{ask_of}
use Rattle.pp_vault.specs.Parts.{parts_of}
use Rattle.pp_vault.specs.Calls.{asks}
use Rattle.pp_vault.specs.Fits.{is_same_mode, asks_latch}
use Rattle.pp_vault.proofs.Asked.{stranger_so, unasked_so, other_latch, no_latch, other_mode}
use Rattle.pp_vault.proofs.store.Store.slot_to_latch.Goals as goal

pub returns-in_default-clause-err : goal.returns-in_default-clause-err
returns-in_default-clause-err c =
    stranger_so (parts_of c.args.self.now) c.args.worker c.args.of c.args.slot c.args.page Free c.ask_fitting.result c.ask_fitting.ensures (λ s. asks_latch c.args.slot c.args.mode (ask_of s c.args.worker)) (asks (move.Latch c.args.worker)) c.in_default.is

pub returns-in_default-ask-clause-err : goal.returns-in_default-ask-clause-err
returns-in_default-ask-clause-err c =
    unasked_so (parts_of c.args.self.now) c.args.worker c.args.of c.args.slot c.args.page Free c.ask_fitting.result c.ask_fitting.ensures (asks_latch c.args.slot c.args.mode) (asks (move.Latch c.args.worker)) c.in-Some.ask c.in-Some.is (no_latch c.args.slot c.args.mode c.in-Some.ask c.in_default-ask.not-Latch)

pub returns-then-slot-from-clause-err : goal.returns-then-slot-from-clause-err
returns-then-slot-from-clause-err c =
    unasked_so (parts_of c.args.self.now) c.args.worker c.args.of c.args.slot c.args.page Free c.ask_fitting.result c.ask_fitting.ensures (asks_latch c.args.slot c.args.mode) (asks (move.Latch c.args.worker)) c.in-Some.ask c.in-Some.is (other_latch c.args.slot c.in-Latch.own c.args.mode c.in-Latch.how c.in-Some.ask c.in-Latch.is (λ e. c.if-slot-from.true (e ∙ sym c.from.ensures)))

pub returns-then-ne-clause-err : goal.returns-then-ne-clause-err
returns-then-ne-clause-err c =
    let other : is_same_mode c.args.mode c.in-Latch.how ≡ false = search rules in
    unasked_so (parts_of c.args.self.now) c.args.worker c.args.of c.args.slot c.args.page Free c.ask_fitting.result
    c.ask_fitting.ensures (asks_latch c.args.slot c.args.mode) (asks (move.Latch c.args.worker)) c.in-Some.ask c.in-Some.is
    (other_mode c.args.slot c.in-Latch.own c.args.mode c.in-Latch.how c.in-Some.ask c.in-Latch.is other)
