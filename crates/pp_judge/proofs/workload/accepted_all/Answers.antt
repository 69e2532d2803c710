use Rattle.std.proofs.Common.{◌+◌, drop, map, sym, ap, ◌∙◌}
use Rattle.std.proofs.lemmas.List.{drop_all}
use Rattle.pp_judge.specs.Judgement.{accepted_all}
use Rattle.pp_judge.specs.Steps.{is_want_of_memory}
use Rattle.pp_judge.proofs.Refusals.{tells}
use Rattle.pp_judge.proofs.Staged.{all_accepted, behind, next_accepted, next_file, next_refused}
use Rattle.pp_judge.proofs.Steps.{handed_on}
use Rattle.pp_judge.proofs.workload.accepted_all.Goals as goal

pub returns-in_err-accepted_in : goal.returns-in_err-accepted_in
returns-in_err-accepted_in c =
    handed_on _ c.from_residual.result c.in_err-accepted_in.field-0.0
    (accepted_all c.args.settings.now (map (λ plan. plan.items) c.args.files.now)) c.from_residual.ensures.1
    (λ memory. c.loop-bytes.invariant
    ∙ ap (λ files. behind c.loop-bytes.plans.items (accepted_all c.args.settings.now files))
    (next_file (λ plan. plan.items) c.args.files.now c.loop-bytes.bytes-index c.bytes-item.result c.deref.result.now
    c.loop-bytes-test.true c.bytes-item.is c.deref.ensures.value)
    ∙ next_refused c.args.settings.now c.loop-bytes.plans.items c.deref.result.now
    (map (λ plan. plan.items) (drop (c.loop-bytes.bytes-index + 1) c.args.files.now)) c.in_err-accepted_in.field-0.0
    (tells (is_want_of_memory c.in_err-accepted_in.field-0.0) c.in_err-accepted_in.field-0.0 _
    c.in_err-accepted_in.ensures memory))

pub loop-bytes-preserved : goal.loop-bytes-preserved
loop-bytes-preserved c =
    let left = map (λ plan. plan.items) (drop (c.loop-bytes.bytes-index + 1) c.args.files.now) in
    c.loop-bytes.invariant
    ∙ ap (λ files. behind c.loop-bytes.plans.items (accepted_all c.args.settings.now files))
    (next_file (λ plan. plan.items) c.args.files.now c.loop-bytes.bytes-index c.bytes-item.result c.deref.result.now
    c.loop-bytes-test.true c.bytes-item.is c.deref.ensures.value)
    ∙ next_accepted c.args.settings.now c.loop-bytes.plans.items c.deref.result.now left c.in_ok-accepted_in.field-0
    c.in_ok-accepted_in.ensures
    ∙ ap (λ plans. behind plans (accepted_all c.args.settings.now left)) (sym c.in_ok-push.ensures.items)

pub returns : goal.returns
returns c =
    c.loop-bytes.invariant
    ∙ ap (λ files. behind c.loop-bytes.plans.items (accepted_all c.args.settings.now (map (λ plan. plan.items) files)))
    (drop_all c.loop-bytes.bytes-index c.args.files.now c.loop-bytes-test.false)
    ∙ all_accepted c.args.settings.now c.loop-bytes.plans.items
