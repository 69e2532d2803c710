use Rattle.std.proofs.Common.{sym}
use Rattle.pp_vault.specs.Parts.{parts_of}
use Rattle.pp_vault.proofs.Flushed.{next_ok, next_told}
use Rattle.pp_vault.proofs.store.Store.flush_next.Goals as goal

pub returns-in-Some-clause-ok : goal.returns-in-Some-clause-ok
returns-in-Some-clause-ok c =
    next_ok (parts_of c.args.self.now) (parts_of c.flush.new.self) c.args.number c.in-Some.page c.flush.result
    (λ s st. sym (c.in-Some.ensures s st.core)) c.flush.ensures.ok

pub returns-in-Some-clause-done : goal.returns-in-Some-clause-done
returns-in-Some-clause-done c =
    next_told (parts_of c.args.self.now) c.args.number c.in-Some.page c.flush.result
    (λ s st. sym (c.in-Some.ensures s st.core)) c.flush.ensures.done
