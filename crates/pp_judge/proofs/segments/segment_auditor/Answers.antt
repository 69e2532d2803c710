use Rattle.std.proofs.Common.{map, refl}
use Rattle.pp_segments.specs.Auditing.{outset}
use Rattle.pp_judge.specs.declared.error.JudgeError.TheVariants.{Segments}
use Rattle.pp_judge.specs.Steps.{is_want_of_memory}
use Rattle.pp_judge.proofs.Refusals.{tells}
use Rattle.pp_judge.proofs.Segmented.{both_read, handed_on, has_passed, none_begun, none_kept, none_prepared}
use Rattle.pp_judge.proofs.segments.segment_auditor.Goals as goal

pub returns-in_err-settings-clause-error : goal.returns-in_err-settings-clause-error
returns-in_err-settings-clause-error c =
    let plans = map (λ plan. plan.items) c.args.plans.now in
    handed_on c.args.settings.now plans c.from_residual.result c.in_err-settings.field-0.0 c.from_residual.ensures.1
    (λ memory. none_begun c.args.settings.now plans c.in_err-settings.field-0.0
    (tells (is_want_of_memory c.in_err-settings.field-0.0) c.in_err-settings.field-0.0 _ c.in_err-settings.ensures memory))

pub returns-in_err-plans-clause-error : goal.returns-in_err-plans-clause-error
returns-in_err-plans-clause-error c =
    let plans = map (λ plan. plan.items) c.args.plans.now in
    handed_on c.args.settings.now plans c.from_residual-in_err-plans.result c.in_err-plans.field-0.0
    c.from_residual-in_err-plans.ensures.1
    (λ memory. none_prepared c.args.settings.now plans c.in_ok-settings.settings c.in_err-plans.field-0.0
    c.in_ok-settings.ensures
    (tells (is_want_of_memory c.in_err-plans.field-0.0) c.in_err-plans.field-0.0 _ c.in_err-plans.ensures memory))

pub returns-in_err-auditor-clause-error : goal.returns-in_err-auditor-clause-error
returns-in_err-auditor-clause-error c =
    let plans = map (λ plan. plan.items) c.args.plans.now in
    handed_on c.args.settings.now plans c.from_residual-in_err-auditor.result (Segments c.in_err-auditor.field-0.0)
    c.from_residual-in_err-auditor.ensures.1
    (λ memory. none_kept c.args.settings.now plans c.in_ok-settings.settings c.in_ok-plans.plans.items
    c.in_err-auditor.field-0.0 c.in_ok-settings.ensures c.in_ok-plans.ensures
    (tells (is_want_of_memory (Segments c.in_err-auditor.field-0.0)) c.in_err-auditor.field-0.0 _
    c.in_err-auditor.ensures.error memory))

pub returns-clause-begins : goal.returns-clause-begins
returns-clause-begins c =
    let plans = map (λ plan. plan.items) c.args.plans.now in
    has_passed c.args.settings.now plans _ c.in_ok-auditor.auditor
    (c.in_ok-settings.settings, c.in_ok-plans.plans.items) (outset c.in_ok-settings.settings)
    (both_read c.args.settings.now plans c.in_ok-settings.settings c.in_ok-plans.plans.items c.in_ok-settings.ensures
    c.in_ok-plans.ensures)
    c.in_ok-auditor.ensures.can refl c.in_ok-auditor.ensures.begins
