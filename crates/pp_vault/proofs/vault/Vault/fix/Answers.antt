use Rattle.pp_vault.specs.Parts.{parts_of}
use Rattle.pp_vault.specs.Fits.{fix_slot, fix_call}
use Rattle.pp_vault.specs.Fixes.{FixAnswers}
use Rattle.pp_vault.proofs.Kept.{kept_where, holds}
use Rattle.pp_vault.proofs.FixDone.{fix_done}
use Rattle.pp_vault.proofs.vault.Vault.fix.Goals as goal

pub invariant_of-self : goal.invariant_of-self
invariant_of-self c =
    let old = parts_of c.self.inside.store in
    let new = parts_of c.fix.new.self in
    let x = c.args.session in
    kept_where old new (fix_call x.worker (fix_slot x.ask) c.args.page) (λ y. FixAnswers old x c.args.page y.0 new)
    c.fix.result (λ y h. fix_done old new x c.args.page y.0 h) c.fix.ensures.ok c.fix.ensures.unchanged c.self.invariant

pub returns-clause-holds : goal.returns-clause-holds
returns-clause-holds c =
    let old = parts_of c.self.inside.store in
    let new = parts_of c.fix.new.self in
    let x = c.args.session in
    holds new
    (kept_where old new (fix_call x.worker (fix_slot x.ask) c.args.page) (λ y. FixAnswers old x c.args.page y.0 new)
    c.fix.result (λ y h. fix_done old new x c.args.page y.0 h) c.fix.ensures.ok c.fix.ensures.unchanged c.self.invariant)
