use Rattle.std.proofs.Common.{[], ◌∷◌, ◌∙◌, ap, inl, length, map, subst, sym}
use Rattle.std.proofs.lemmas.List.{length-map}
use Rattle.std.specs.List.{Contains}
use Rattle.pp_judge.specs.Answers.{seen}
use Rattle.pp_words.specs.CommandLine.{asked_draw, text_in, texts}
use Rattle.pp_cli.proofs.Putting.{drawn_put}
use Rattle.pp_cli.proofs.Stopping.{behind_two, handed_on, second, stopped_among}
use Rattle.pp_cli.proofs.files.draw.Goals as goal

pub returns-in_err-text-clause-comes : goal.returns-in_err-text-clause-comes
returns-in_err-text-clause-comes g c =
    let plans = texts c.args.paths.plans.items in
    handed_on (asked_draw c.args.paths) c.from_residual-in_err-text.result c.in_err-text.field-0.0
    c.from_residual-in_err-text.ensures.1
    (inl (stopped_among (c.args.paths.journal.now ∷ [])
    (c.args.paths.settings.now ∷ c.args.paths.journal.now ∷ plans) c.in_err-text.field-0.0
    (second c.args.paths.settings.now c.args.paths.journal.now plans)
    c.in_err-text.ensures))

pub returns-in_err-plans-clause-comes : goal.returns-in_err-plans-clause-comes
returns-in_err-plans-clause-comes g c =
    let plans = texts c.args.paths.plans.items in
    handed_on (asked_draw c.args.paths) c.from_residual-in_err-plans.result c.in_err-plans.field-0.0
    c.from_residual-in_err-plans.ensures.1
    (inl (stopped_among (texts c.deref.result.now)
    (c.args.paths.settings.now ∷ c.args.paths.journal.now ∷ plans) c.in_err-plans.field-0.0
    (λ path h. behind_two c.args.paths.settings.now c.args.paths.journal.now plans path
    (subst (λ paths. Contains (texts paths) path) c.deref.ensures.value h))
    c.in_err-plans.ensures.stopped))

pub returns-clause-comes : goal.returns-clause-comes
returns-clause-comes g c =
    drawn_put (text_in c.args.paths.output) c.args.paths.settings.now c.args.paths.journal.now
    (texts c.args.paths.plans.items) c.as_slice.result.now c.as_slice-2.result.now
    (map (λ plan. plan.items) c.as_slice-3.result.now) c.exit_of-exit.result (seen c.put_out.result)
    (length-map c.as_slice-3.result.now (λ plan. plan.items) ∙ ap length c.as_slice-3.ensures.value
    ∙ c.in_ok-plans.ensures.each ∙ ap length c.deref.ensures.value
    ∙ sym (length-map c.args.paths.plans.items (λ text. text.now))) c.exit_of-exit.ensures c.put_out.ensures
