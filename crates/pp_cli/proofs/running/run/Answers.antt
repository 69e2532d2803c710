use Rattle.std.proofs.Common.{◌∷◌, ◌∙◌, ap, sym, inl, inr, length, map, subst}
use Rattle.std.proofs.lemmas.List.{length-map}
use Rattle.std.specs.List.{Contains}
use Rattle.pp_judge.specs.Answers.{seen}
use Rattle.pp_judge.specs.Steps.{is_want_of_memory}
use Rattle.pp_words.specs.CommandLine.{asked_run, text_in, texts}
use Rattle.pp_cli.proofs.Ran.{comes_of_run, refused_run}
use Rattle.pp_cli.proofs.Stopping.{behind_one, handed_on, stopped_among}
use Rattle.pp_cli.proofs.running.run.Goals as goal

pub returns-in_err-plans-clause-comes : goal.returns-in_err-plans-clause-comes
returns-in_err-plans-clause-comes g c =
    let plans = texts c.args.paths.plans.items in
    handed_on (asked_run c.args.paths) c.from_residual-in_err-plans.result c.in_err-plans.field-0.0
    c.from_residual-in_err-plans.ensures.1
    (inl (stopped_among (texts c.deref.result.now) (c.args.paths.settings.now ∷ plans) c.in_err-plans.field-0.0
    (λ path h. behind_one c.args.paths.settings.now plans path
    (subst (λ paths. Contains (texts paths) path) c.deref.ensures.value h))
    c.in_err-plans.ensures.stopped))

pub returns-in_err-trace-clause-comes : goal.returns-in_err-trace-clause-comes
returns-in_err-trace-clause-comes g c =
    handed_on (asked_run c.args.paths) c.from_residual-in_err-trace.result c.in_err-trace.field-0.0
    c.from_residual-in_err-trace.ensures.1 (inr (inl c.in_err-trace.ensures.stopped))

pub returns-in-Ok-clause-comes : goal.returns-in-Ok-clause-comes
returns-in-Ok-clause-comes g c =
    comes_of_run (text_in c.args.paths.journal) (text_in c.args.paths.trace) c.args.paths.settings.now
    c.args.paths.device.now c.args.paths.seed (texts c.args.paths.plans.items) c.as_slice.result.now
    (map (λ plan. plan.items) c.as_slice-2.result.now) _ (seen c.run_traced.result)
    (length-map c.as_slice-2.result.now (λ plan. plan.items) ∙ ap length c.as_slice-2.ensures.value
    ∙ c.in_ok-plans.ensures.each ∙ ap length c.deref.ensures.value
    ∙ sym (length-map c.args.paths.plans.items (λ text. text.now))) c.in-Ok.ensures.exact
    c.run_traced.ensures.comes

pub returns-clause-comes : goal.returns-clause-comes
returns-clause-comes g c =
    refused_run (is_want_of_memory c.in-Err.refusal) (text_in c.args.paths.journal) (text_in c.args.paths.trace)
    c.args.paths.settings.now c.args.paths.device.now c.args.paths.seed (texts c.args.paths.plans.items)
    c.as_slice.result.now (map (λ plan. plan.items) c.as_slice-2.result.now) c.in-Err.refusal c.from-exit.result
    (length-map c.as_slice-2.result.now (λ plan. plan.items) ∙ ap length c.as_slice-2.ensures.value
    ∙ c.in_ok-plans.ensures.each ∙ ap length c.deref.ensures.value
    ∙ sym (length-map c.args.paths.plans.items (λ text. text.now))) c.from-exit.ensures c.in-Err.ensures.exact
