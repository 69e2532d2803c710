use Rattle.std.proofs.Common.{◌≡◌, ◌∙◌, sym, subst, rules}
use Rattle.pp_core.specs.StandsFor as core
use Rattle.pp_ledger.specs.Ledgers.{IsSegment}
use Rattle.pp_ledger.specs.Calls.{going_on}
use Rattle.pp_ledger.proofs.Going.{ledger_of, chain_is, next_ledger, next_keeps, goes_on}
use Rattle.pp_ledger.proofs.ledger.Ledger.take_segment.Goals as goal

pub invariant_of-self : goal.invariant_of-self
invariant_of-self c =
    next_keeps (ledger_of c.self.inside.vault c.self.inside.segment) c.args.empty (search rules)
    (c.is_ready.ensures.none_prepared (search rules)) c.number-number.result c.number-number.ensures c.plans.result
    (λ s st. c.plans.ensures s (subst (λ f. core.StandsFor f s) (sym c.core.ensures) st.core)) c.replace.new.dest
    (c.replace.ensures.after ∙ c.numbered-next.ensures) c.self.inside.most c.self.invariant

pub returns-clause-goes_on : goal.returns-clause-goes_on
returns-clause-goes_on c =
    subst (λ b. ledger_of c.self.inside.vault c.replace.new.dest ≡ going_on b c.args.empty) c.self.view_is
    (goes_on (ledger_of c.self.inside.vault c.self.inside.segment) c.args.empty (search rules)
    (c.is_ready.ensures.none_prepared (search rules)) c.number-number.result c.number-number.ensures c.plans.result
    (λ s st. c.plans.ensures s (subst (λ f. core.StandsFor f s) (sym c.core.ensures) st.core)) c.replace.new.dest
    (c.replace.ensures.after ∙ c.numbered-next.ensures) c.self.invariant.ledger)

pub returns-clause-chain : goal.returns-clause-chain
returns-clause-chain c o s told =
    chain_is (ledger_of c.self.inside.vault c.self.inside.segment) c.args.empty (search rules)
    (c.is_ready.ensures.none_prepared (search rules)) c.number-number.result c.number-number.ensures c.plans.result
    (λ s st. c.plans.ensures s (subst (λ f. core.StandsFor f s) (sym c.core.ensures) st.core)) c.replace.new.dest
    (c.replace.ensures.after ∙ c.numbered-next.ensures) o s (subst (λ b. IsSegment b o s) (sym c.self.view_is) told)

pub returns-clause-kept : goal.returns-clause-kept
returns-clause-kept c =
    next_ledger (ledger_of c.self.inside.vault c.self.inside.segment) c.args.empty (search rules)
    (c.is_ready.ensures.none_prepared (search rules)) c.number-number.result c.number-number.ensures c.plans.result
    (λ s st. c.plans.ensures s (subst (λ f. core.StandsFor f s) (sym c.core.ensures) st.core)) c.replace.new.dest
    (c.replace.ensures.after ∙ c.numbered-next.ensures) c.self.invariant.ledger
