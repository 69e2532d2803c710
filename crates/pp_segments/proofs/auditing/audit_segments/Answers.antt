use Rattle.std.proofs.Common.{map}
use Rattle.pp_segments.proofs.Whole.{verdict_found, verdict_only, verdict_first}
use Rattle.pp_segments.proofs.auditing.audit_segments.Goals as goal

pub returns-clause-found : goal.returns-clause-found
returns-clause-found c =
    verdict_found c.args.settings.now c.args.prepared.items c.args.ended (map (λ text. text.now) c.args.texts.now)
    c.verdict.result c.verdict.ensures

pub returns-clause-only : goal.returns-clause-only
returns-clause-only c = λ n m.
    verdict_only c.args.settings.now c.args.prepared.items c.args.ended (map (λ text. text.now) c.args.texts.now)
    c.verdict.result n m c.verdict.ensures

pub returns-clause-first : goal.returns-clause-first
returns-clause-first c =
    verdict_first c.args.settings.now c.args.prepared.items c.args.ended (map (λ text. text.now) c.args.texts.now)
    c.verdict.result c.verdict.ensures
