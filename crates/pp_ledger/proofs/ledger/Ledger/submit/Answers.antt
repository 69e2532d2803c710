use Rattle.std.proofs.Common.{subst, rules}
use Rattle.pp_ledger.specs.declared.error.LedgerError.TheVariants.{Refused}
use Rattle.pp_ledger.specs.Ledgers.{IsLedger}
use Rattle.pp_ledger.specs.Calls.{TakesPrepared, SubmitFails}
use Rattle.pp_ledger.proofs.Going.{ledger_of, holds, submitted_is, submitted_keeps, takes_is}
use Rattle.pp_ledger.proofs.ledger.Ledger.submit.Goals as goal

pub returns-then-is_full-clause-holds : goal.returns-then-is_full-clause-holds
returns-then-is_full-clause-holds c = holds c.args.self.now (subst IsLedger c.self.view_is c.self.invariant.ledger)

pub invariant_of-self : goal.invariant_of-self
invariant_of-self c =
    submitted_keeps (ledger_of c.self.inside.vault c.self.inside.segment) c.args.prepared c.in-Ok.id
    c.in-Ok.ensures.ok.0 c.submit_prepared.new.self (search rules) c.in-Ok.ensures.ok.1 c.note_submit.new.self
    (search rules)
    c.self.inside.most c.self.invariant (search rules)

pub returns-in-Ok-clause-ok : goal.returns-in-Ok-clause-ok
returns-in-Ok-clause-ok c = (
  c.in-Ok.ensures.ok.0,
  subst (λ b. TakesPrepared b c.args.prepared c.in-Ok.id c.in-Ok.ensures.ok.0
      (ledger_of c.submit_prepared.new.self c.note_submit.new.self)) c.self.view_is
      (takes_is (ledger_of c.self.inside.vault c.self.inside.segment) c.args.prepared c.in-Ok.id c.in-Ok.ensures.ok.0
      c.submit_prepared.new.self (search rules) c.in-Ok.ensures.ok.1 c.note_submit.new.self (search rules)),
)

pub returns-in-Ok-clause-kept : goal.returns-in-Ok-clause-kept
returns-in-Ok-clause-kept c =
    submitted_is (ledger_of c.self.inside.vault c.self.inside.segment) c.args.prepared c.in-Ok.id c.in-Ok.ensures.ok.0
    c.submit_prepared.new.self (search rules) c.in-Ok.ensures.ok.1 c.note_submit.new.self (search rules)
    c.self.invariant.ledger (search rules)

pub returns-in-Err-clause-error : goal.returns-in-Err-clause-error
returns-in-Err-clause-error c =
    subst (λ b. SubmitFails b c.args.prepared (Refused c.in-Err.error)) c.self.view_is
    (search rules, c.in-Err.ensures.error)
