use Rattle.std.proofs.Common.{map, ap, ◌∙◌}
use Rattle.pp_judge.specs.declared.error.JudgeError.TheVariants.{Audit}
use Rattle.pp_judge.specs.Judgement.{audited_in}
use Rattle.pp_judge.specs.Steps.{is_want_of_memory, refusing}
use Rattle.pp_judge.proofs.Audited.{audited, no_workload}
use Rattle.pp_judge.proofs.Refusals.{tells}
use Rattle.pp_judge.proofs.Steps.{handed_on}
use Rattle.pp_judge.proofs.auditing.audit.Goals as goal

pub returns-in_err-settings : goal.returns-in_err-settings
returns-in_err-settings c =
    let plans = map (λ plan. plan.items) c.args.files.plans.now in
    handed_on _ c.from_residual.result c.in_err-settings.field-0.0
    (audited_in c.args.files.settings.now c.args.files.journal.now plans) c.from_residual.ensures.1
    (λ memory. no_workload c.args.files.settings.now c.args.files.journal.now plans c.in_err-settings.field-0.0
    (tells (is_want_of_memory c.in_err-settings.field-0.0) c.in_err-settings.field-0.0 _ c.in_err-settings.ensures.exact memory))

pub returns-in_err-audit : goal.returns-in_err-audit
returns-in_err-audit c =
    let plans = map (λ plan. plan.items) c.args.files.plans.now in
    handed_on _ c.from_residual-in_err-audit.result (Audit c.in_err-audit.field-0.0)
    (audited_in c.args.files.settings.now c.args.files.journal.now plans) c.from_residual-in_err-audit.ensures.1
    (λ memory. audited c.args.files.settings.now c.args.files.journal.now plans _ c.in_ok-settings.ensures.exact
    ∙ ap (refusing Audit)
    (tells (is_want_of_memory (Audit c.in_err-audit.field-0.0)) c.in_err-audit.field-0.0 _
    c.in_err-audit.ensures.exact memory))

pub returns : goal.returns
returns c =
    audited c.args.files.settings.now c.args.files.journal.now (map (λ plan. plan.items) c.args.files.plans.now) _
    c.in_ok-settings.ensures.exact
    ∙ ap (refusing Audit) c.in_ok-audit.ensures.exact
