use Rattle.std.proofs.Common.{subst, rules}
use Rattle.pp_ledger.specs.Calls.{Prepares}
use Rattle.pp_ledger.proofs.Going.{ledger_of, prepares, prepared_ledger, prepared_keeps}
use Rattle.pp_ledger.proofs.ledger.Ledger.prepare.Goals as goal

pub invariant_of-self : goal.invariant_of-self
invariant_of-self c =
    prepared_keeps (ledger_of c.self.inside.vault c.self.inside.segment) c.args.accepted c.in-Ok.prepared
    c.prepare.new.self c.in-Ok.ensures.ok c.self.inside.most c.max-self-inside.result (search rules) c.self.invariant

pub returns-in-Ok-clause-ok : goal.returns-in-Ok-clause-ok
returns-in-Ok-clause-ok c =
    subst (λ b. Prepares b c.args.accepted c.in-Ok.prepared (ledger_of c.prepare.new.self c.self.inside.segment))
    c.self.view_is (prepares
    (ledger_of c.self.inside.vault c.self.inside.segment) c.args.accepted c.in-Ok.prepared c.prepare.new.self
    c.in-Ok.ensures.ok)

pub returns-in-Ok-clause-kept : goal.returns-in-Ok-clause-kept
returns-in-Ok-clause-kept c =
    prepared_ledger (ledger_of c.self.inside.vault c.self.inside.segment) c.args.accepted c.in-Ok.prepared
    c.prepare.new.self c.in-Ok.ensures.ok c.self.invariant.ledger
