use Rattle.std.proofs.Common.{map, ap, ◌∙◌}
use Rattle.pp_judge.specs.declared.error.JudgeError.TheVariants.{Audit}
use Rattle.pp_judge.specs.Judgement.{lives_audited_in}
use Rattle.pp_judge.specs.Steps.{is_want_of_memory, refusing}
use Rattle.pp_judge.proofs.Audited.{lives_audited, no_lives}
use Rattle.pp_judge.proofs.Refusals.{tells}
use Rattle.pp_judge.proofs.Steps.{handed_on}
use Rattle.pp_judge.proofs.auditing.audit_lives.Goals as goal

pub returns-in_err-work : goal.returns-in_err-work
returns-in_err-work c =
    let plans = map (λ plan. plan.items) c.args.files.plans.now in
    handed_on _ c.from_residual.result c.in_err-work.field-0.0
    (lives_audited_in c.args.files.settings.now c.args.files.journal.now plans) c.from_residual.ensures.1
    (λ memory. no_lives c.args.files.settings.now c.args.files.journal.now plans c.in_err-work.field-0.0
    (tells (is_want_of_memory c.in_err-work.field-0.0) c.in_err-work.field-0.0 _ c.in_err-work.ensures.exact memory))

pub returns-in_err-audit_lives : goal.returns-in_err-audit_lives
returns-in_err-audit_lives c =
    let plans = map (λ plan. plan.items) c.args.files.plans.now in
    handed_on _ c.from_residual-in_err-audit_lives.result (Audit c.in_err-audit_lives.field-0.0)
    (lives_audited_in c.args.files.settings.now c.args.files.journal.now plans) c.from_residual-in_err-audit_lives.ensures.1
    (λ memory. lives_audited c.args.files.settings.now c.args.files.journal.now plans _ c.in_ok-work.ensures.exact
    ∙ ap (refusing Audit)
    (tells (is_want_of_memory (Audit c.in_err-audit_lives.field-0.0)) c.in_err-audit_lives.field-0.0 _
    c.in_err-audit_lives.ensures.exact memory))

pub returns : goal.returns
returns c =
    lives_audited c.args.files.settings.now c.args.files.journal.now (map (λ plan. plan.items) c.args.files.plans.now) _
    c.in_ok-work.ensures.exact
    ∙ ap (refusing Audit) c.in_ok-audit_lives.ensures.exact
