use Rattle.std.proofs.Common.{◌∙◌, ap, sym}
use Rattle.std.specs.Prelude.{is_some}
use Rattle.pp_core.specs.Reading.{can_read}
use Rattle.pp_vault.specs.Parts.{parts_of}
use Rattle.pp_vault.proofs.Readings.{reads_at}
use Rattle.pp_vault.proofs.store.Store.fix_and_share.Goals as goal

pub returns-in-Some-clause-exact : goal.returns-in-Some-clause-exact
returns-in-Some-clause-exact c s st =
    ap is_some (sym c.in-Some.is) ∙ c.step_two_in.ensures.exact s st.core
    ∙ ap (λ n. can_read s c.args.session.worker n c.args.page) c.slot_of-slot.ensures

pub returns-in-None-clause-exact : goal.returns-in-None-clause-exact
returns-in-None-clause-exact c s st =
    ap is_some (sym c.in-None.is) ∙ c.step_two_in.ensures.exact s st.core
    ∙ ap (λ n. can_read s c.args.session.worker n c.args.page) c.slot_of-slot.ensures

pub returns-in-Some-clause-ok : goal.returns-in-Some-clause-ok
returns-in-Some-clause-ok c =
    reads_at (parts_of c.args.self.now) (parts_of c.step_two_in.new.self) c.args.session c.requires c.in-Some.ask
    c.step_two_in.ensures.rest c.in-Some.ensures.asks c.args.page c.in-Some.frame c.in-Some.mark c.in-Some.ensures.moves
    (λ s st. ap (λ n. can_read s c.args.session.worker n c.args.page) (sym c.slot_of-slot.ensures)
    ∙ sym (c.step_two_in.ensures.exact s st) ∙ ap is_some c.in-Some.is)
    c.slot_of-slot.result c.slot_of-slot.ensures
