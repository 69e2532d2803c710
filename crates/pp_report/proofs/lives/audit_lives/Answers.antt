use Rattle.std.proofs.Common.{subst}
use Rattle.std.specs.Prelude.{All, List}
use Rattle.pp_cert.specs.Accepted.{Acceptance, IsAccepted}
use Rattle.pp_report.proofs.LivesAudited.{verdict_found, verdict_only, verdict_first}
use Rattle.pp_report.proofs.lives.audit_lives.Goals as goal

pub returns-clause-found : goal.returns-clause-found
returns-clause-found c =
    verdict_found (λ audited. audited.lines) c.args.settings.now c.args.plans.items c.args.journals.now c.verdict.result
    (subst (λ (ps : List Acceptance). All IsAccepted ps) c.as_slice.ensures.value c.are_accepted.ensures) c.verdict.ensures

pub returns-clause-only : goal.returns-clause-only
returns-clause-only c = λ n.
    verdict_only (λ audited. audited.lines) c.args.settings.now c.args.plans.items c.args.journals.now c.verdict.result n
    c.verdict.ensures

pub returns-clause-first : goal.returns-clause-first
returns-clause-first c =
    verdict_first (λ audited. audited.lines) c.args.settings.now c.args.plans.items c.args.journals.now c.verdict.result
    (subst (λ (ps : List Acceptance). All IsAccepted ps) c.as_slice.ensures.value c.are_accepted.ensures) c.verdict.ensures
