use Rattle.std.proofs.Common.{subst, rules}
use Rattle.pp_ledger.specs.Ledgers.{IsLedger}
use Rattle.pp_ledger.specs.Calls.{Performs}
use Rattle.pp_ledger.proofs.Going.{ledger_of, holds}
use Rattle.pp_ledger.proofs.Performed.{performed_is, performed_keeps}
use Rattle.pp_ledger.proofs.Replying.{performs_is}
use Rattle.pp_ledger.proofs.ledger.Ledger.perform.Goals as goal

pub returns-then-is_full-clause-holds : goal.returns-then-is_full-clause-holds
returns-then-is_full-clause-holds c = holds c.args.self.now (subst IsLedger c.self.view_is c.self.invariant.ledger)

pub invariant_of-self : goal.invariant_of-self
invariant_of-self c =
    performed_keeps (ledger_of c.self.inside.vault c.self.inside.segment) c.args.request c.ask-answer.result.0
    c.ask-answer.new.vault c.ask-answer.result.1 c.ask-answer.ensures.comes c.ask-answer.ensures.does
    c.ask-answer.ensures.done c.note-event.result c.note-event.ensures.event c.note-event.new.self
    c.note-event.ensures.segment c.self.inside.most
    c.self.invariant (search rules)

pub returns-clause-ok : goal.returns-clause-ok
returns-clause-ok c =
    subst (λ b. Performs b c.args.request (record { event = c.note-event.result; answer = c.ask-answer.result.0 })
    (ledger_of c.ask-answer.new.vault c.note-event.new.self)) c.self.view_is
    (performs_is (ledger_of c.self.inside.vault c.self.inside.segment) c.args.request c.ask-answer.result.0
    c.ask-answer.new.vault c.ask-answer.result.1 c.ask-answer.ensures.comes c.ask-answer.ensures.does
    c.ask-answer.ensures.done c.note-event.result c.note-event.ensures.event c.ask-answer.ensures.tokens
    c.note-event.new.self c.note-event.ensures.segment
    c.self.invariant.ledger)

pub returns-clause-kept : goal.returns-clause-kept
returns-clause-kept c =
    performed_is (ledger_of c.self.inside.vault c.self.inside.segment) c.args.request c.ask-answer.result.0
    c.ask-answer.new.vault c.ask-answer.result.1 c.ask-answer.ensures.comes c.ask-answer.ensures.does
    c.ask-answer.ensures.done c.note-event.result c.note-event.ensures.event c.note-event.new.self
    c.note-event.ensures.segment c.self.invariant.ledger
    (search rules)

pub returns-clause-holds : goal.returns-clause-holds
returns-clause-holds c =
    holds (ledger_of c.ask-answer.new.vault c.note-event.new.self)
    (performed_is (ledger_of c.self.inside.vault c.self.inside.segment) c.args.request c.ask-answer.result.0
    c.ask-answer.new.vault c.ask-answer.result.1 c.ask-answer.ensures.comes c.ask-answer.ensures.does
    c.ask-answer.ensures.done c.note-event.result c.note-event.ensures.event c.note-event.new.self
    c.note-event.ensures.segment c.self.invariant.ledger
    (search rules))
