use Rattle.pp_report.proofs.Verdicts.{verdict_found, verdict_only, verdict_first}
use Rattle.pp_report.proofs.auditing.audit.Goals as goal

pub returns-clause-found : goal.returns-clause-found
returns-clause-found c =
    verdict_found (λ audited. audited.lines) c.args.settings.now c.args.plans.items c.args.journal.now c.verdict.result
    c.verdict.ensures

pub returns-clause-only : goal.returns-clause-only
returns-clause-only c = λ n.
    verdict_only (λ audited. audited.lines) c.args.settings.now c.args.plans.items c.args.journal.now c.verdict.result n
    c.verdict.ensures

pub returns-clause-first : goal.returns-clause-first
returns-clause-first c =
    verdict_first (λ audited. audited.lines) c.args.settings.now c.args.plans.items c.args.journal.now c.verdict.result
    c.verdict.ensures
