use Rattle.std.proofs.Common.{◌≡◌, ◌∙◌, ap, sym, arith}
use Rattle.std.specs.Prelude.{is_some}
use Rattle.pp_core.specs.Reading.{can_end_read}
use Rattle.pp_vault.specs.Parts.{parts_of}
use Rattle.pp_vault.proofs.Readings.{ends, ends_empty, other_worker, own_worker}
use Rattle.pp_vault.proofs.store.Store.unshare_and_unfix.Goals as goal

pub returns-then-of-worker-clause-exact : goal.returns-then-of-worker-clause-exact
returns-then-of-worker-clause-exact c s st =
    other_worker c.args.guard.worker c.args.session.worker
    (can_end_read s c.args.session.worker c.args.guard.slot c.args.guard.page)
    (λ (e : c.args.guard.worker ≡ c.args.session.worker). omega arith)

pub returns-in-Some-clause-exact : goal.returns-in-Some-clause-exact
returns-in-Some-clause-exact c s st =
    let own : c.args.guard.worker ≡ c.args.session.worker = omega arith in
    ap is_some (sym c.in-Some.is)
    ∙ own_worker c.args.guard.worker c.args.session.worker
    (can_end_read s c.args.session.worker c.args.guard.slot c.args.guard.page) (is_some c.step_two_out.result) own
    (c.step_two_out.ensures.exact s st.core)

pub returns-in-None-clause-exact : goal.returns-in-None-clause-exact
returns-in-None-clause-exact c s st =
    let own : c.args.guard.worker ≡ c.args.session.worker = omega arith in
    ap is_some (sym c.in-None.is)
    ∙ own_worker c.args.guard.worker c.args.session.worker
    (can_end_read s c.args.session.worker c.args.guard.slot c.args.guard.page) (is_some c.step_two_out.result) own
    (c.step_two_out.ensures.exact s st.core)

pub returns-in-Some-clause-ok : goal.returns-in-Some-clause-ok
returns-in-Some-clause-ok c =
    let own : c.args.guard.worker ≡ c.args.session.worker = omega arith in
    ends (parts_of c.args.self.now) (parts_of c.step_two_out.new.self) c.args.session c.requires c.in-Some.ask
    c.step_two_out.ensures.rest c.in-Some.ensures.asks c.args.guard own c.in-Some.mark c.in-Some.ensures.moves
    (λ s st. sym (c.step_two_out.ensures.exact s st) ∙ ap is_some c.in-Some.is)

pub returns-in-Some-clause-empty : goal.returns-in-Some-clause-empty
returns-in-Some-clause-empty c =
    let own : c.args.guard.worker ≡ c.args.session.worker = omega arith in
    ends_empty (parts_of c.args.self.now) (parts_of c.step_two_out.new.self) c.args.session c.requires c.in-Some.ask
    c.step_two_out.ensures.rest c.in-Some.ensures.asks c.args.guard own c.in-Some.mark c.in-Some.ensures.moves
    (λ s st. sym (c.step_two_out.ensures.exact s st) ∙ ap is_some c.in-Some.is)
