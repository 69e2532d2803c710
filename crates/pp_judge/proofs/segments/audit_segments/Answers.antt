use Rattle.std.proofs.Common.{◌≡◌, ◌+◌, ◌++◌, ◌∷◌, [], ℕ, List, drop, map, refl, sym, ap, subst, ◌∙◌, append_assoc}
use Rattle.std.proofs.lemmas.List.{append-nil, drop_all}
use Rattle.pp_segments.specs.Audits.{counts}
use Rattle.pp_text.specs.Steps.{Gives}
use Rattle.pp_judge.specs.Judgement.{segments_audited_in}
use Rattle.pp_judge.specs.Steps.{is_want_of_memory}
use Rattle.pp_judge.proofs.Refusals.{tells}
use Rattle.pp_judge.proofs.Staged.{next_file}
use Rattle.pp_judge.proofs.Steps.{handed_on}
use Rattle.pp_judge.proofs.segments.audit_segments.Goals as goal

pub returns-in_err-auditor : goal.returns-in_err-auditor
returns-in_err-auditor c =
    let plans = map (λ plan. plan.items) c.args.files.plans.now in
    let files = map (λ file. file.items) c.args.files.files.now in
    handed_on counts c.from_residual.result c.in_err-auditor.field-0.0
    (segments_audited_in c.args.files.ended c.args.files.settings.now plans files) c.from_residual.ensures.1
    (λ memory. tells (is_want_of_memory c.in_err-auditor.field-0.0) c.in_err-auditor.field-0.0 _
    (c.in_err-auditor.ensures.error c.args.files.ended files) memory)

pub loop-text-init : goal.loop-text-init
loop-text-init c = ([], c.in_ok-auditor.ensures.begins, refl)

pub returns-in_err-pass_segments : goal.returns-in_err-pass_segments
returns-in_err-pass_segments c =
    let (done, passed, is) = c.loop-text.invariant in
    let plans = map (λ plan. plan.items) c.args.files.plans.now in
    let files = map (λ file. file.items) c.args.files.files.now in
    let text = c.deref.result.now in
    let more = map (λ file. file.items) (drop (c.loop-text.text-index + 1) c.args.files.files.now) in
    let split : files ≡ done ++ text ∷ more =
    is ∙ ap (λ left. done ++ left)
    (next_file (λ file. file.items) c.args.files.files.now c.loop-text.text-index c.text-item.result text
    c.loop-text-test.true c.text-item.is c.deref.ensures.value) in
    handed_on counts c.from_residual-in_err-pass_segments.result c.in_err-pass_segments.field-0.0
    (segments_audited_in c.args.files.ended c.args.files.settings.now plans files)
    c.from_residual-in_err-pass_segments.ensures.1
    (λ memory. ap (segments_audited_in c.args.files.ended c.args.files.settings.now plans) split
    ∙ c.in_err-pass_segments.ensures.error c.args.files.settings.now plans done passed c.args.files.ended more)

pub loop-text-preserved : goal.loop-text-preserved
loop-text-preserved c =
    let (done, passed, is) = c.loop-text.invariant in
    let plans = map (λ plan. plan.items) c.args.files.plans.now in
    let text = c.deref.result.now in
    let more = map (λ file. file.items) (drop (c.loop-text.text-index + 1) c.args.files.files.now) in (
      done ++ text ∷ [],
      c.in_ok-pass_segments.ensures.passed c.args.files.settings.now plans done passed,
      is ∙ ap (λ left. done ++ left)
          (next_file (λ file. file.items) c.args.files.files.now c.loop-text.text-index c.text-item.result text
          c.loop-text-test.true c.text-item.is c.deref.ensures.value)
          ∙ sym (append_assoc done (text ∷ []) more),
    )

pub returns : goal.returns
returns c =
    let (done, passed, is) = c.loop-text.invariant in
    let plans = map (λ plan. plan.items) c.args.files.plans.now in
    let files = map (λ file. file.items) c.args.files.files.now in
    let all : files ≡ done =
    is ∙ ap (λ left. done ++ map (λ file. file.items) left)
    (drop_all c.loop-text.text-index c.args.files.files.now c.loop-text-test.false) ∙ append-nil done in
    subst (λ fs. Gives is_want_of_memory counts c.audited_segments.result
    (segments_audited_in c.args.files.ended c.args.files.settings.now plans fs)) (sym all)
    (c.audited_segments.ensures c.args.files.settings.now plans done passed)
