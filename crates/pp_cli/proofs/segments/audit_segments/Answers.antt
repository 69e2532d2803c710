use Rattle.std.proofs.Common.{[], ◌++◌, ◌∷◌, IfSome, inl, length, map, option_map, sym, ap, subst, ◌∙◌}
use Rattle.std.proofs.lemmas.List.{length-map}
use Rattle.std.specs.List.{Contains}
use Rattle.pp_explain.specs.Paragraphs.{IsAbout}
use Rattle.pp_judge.specs.Answers.{seen}
use Rattle.pp_judge.specs.Steps.{is_want_of_memory}
use Rattle.pp_words.specs.CommandLine.{Asked, asked_segments, texts}
use Rattle.pp_cli.specs.Runs.{ComesOf, stopped_by}
use Rattle.pp_cli.proofs.Segmented.{explained_few, explained_more, none_begun}
use Rattle.pp_cli.proofs.Stopping.{behind_one, handed_on, stopped_among}
use Rattle.pp_cli.proofs.segments.audit_segments.Goals as goal

pub returns-in_err-plans-clause-comes : goal.returns-in_err-plans-clause-comes
returns-in_err-plans-clause-comes g c =
    let plans = texts c.args.paths.plans.items in
    handed_on (asked_segments c.args.paths) c.from_residual-in_err-plans.result c.in_err-plans.field-0.0
    c.from_residual-in_err-plans.ensures.1
    (inl (stopped_among (texts c.deref.result.now) (c.args.paths.settings.now ∷ plans) c.in_err-plans.field-0.0
    (λ path h. behind_one c.args.paths.settings.now plans path
    (subst (λ paths. Contains (texts paths) path) c.deref.ensures.value h))
    c.in_err-plans.ensures.stopped))

pub returns-in_err-exit-in-Ok-clause-comes : goal.returns-in_err-exit-in-Ok-clause-comes
returns-in_err-exit-in-Ok-clause-comes g c =
    let plans = texts c.args.paths.plans.items in
    handed_on (asked_segments c.args.paths) c.from_residual-in_err-exit-in-Ok.result c.in_err-exit-in-Ok.field-0.0
    c.from_residual-in_err-exit-in-Ok.ensures.1
    (subst (λ files. ComesOf (Asked.segments c.args.paths.ended c.args.paths.settings.now plans (texts files))
    (stopped_by c.in_err-exit-in-Ok.field-0.0)) c.deref-in-Ok.ensures.value
    (c.in_err-exit-in-Ok.ensures.comes c.args.paths.settings.now plans c.as_slice.result.now
    (map (λ plan. plan.items) c.as_slice-2.result.now)
    (length-map c.as_slice-2.result.now (λ plan. plan.items) ∙ ap length c.as_slice-2.ensures.value
    ∙ c.in_ok-plans.ensures.each ∙ ap length c.deref.ensures.value
    ∙ sym (length-map c.args.paths.plans.items (λ text. text.now)))
    c.in-Ok.ensures.begins))

pub returns-in-Ok-clause-comes : goal.returns-in-Ok-clause-comes
returns-in-Ok-clause-comes g c =
    let plans = texts c.args.paths.plans.items in
    subst (λ files. ComesOf (Asked.segments c.args.paths.ended c.args.paths.settings.now plans (texts files))
    (seen c.in_ok-exit-in-Ok.exit)) c.deref-in-Ok.ensures.value
    (c.in_ok-exit-in-Ok.ensures.comes c.args.paths.settings.now plans c.as_slice.result.now
    (map (λ plan. plan.items) c.as_slice-2.result.now)
    (length-map c.as_slice-2.result.now (λ plan. plan.items) ∙ ap length c.as_slice-2.ensures.value
    ∙ c.in_ok-plans.ensures.each ∙ ap length c.deref.ensures.value
    ∙ sym (length-map c.args.paths.plans.items (λ text. text.now)))
    c.in-Ok.ensures.begins)

pub returns-in-Ok-clause-explained : goal.returns-in-Ok-clause-explained
returns-in-Ok-clause-explained g c =
    let settings = c.args.paths.settings.now in
    let file = c.in_ok-exit-in-Ok.place.path.now in
    let why = option_map (λ text. text.items) c.explained.result in
    explained_more settings file (texts c.args.paths.plans.items) (texts c.args.paths.files.items) why
    (subst (λ files. Contains (settings ∷ texts files) file) c.deref-in-Ok.ensures.value
    c.in_ok-exit-in-Ok.ensures.place)
    (subst (λ plans. IfSome why (IsAbout ((settings ∷ file ∷ []) ++ texts plans))) c.deref-3.ensures.value
    (subst (λ path. IfSome why (IsAbout ((path ∷ file ∷ []) ++ texts c.deref-3.result.now))) c.source.ensures
    c.explained.ensures))

pub returns-clause-explained : goal.returns-clause-explained
returns-clause-explained g c =
    let settings = c.args.paths.settings.now in
    let why = option_map (λ text. text.items) c.explained-in-Err.result in
    explained_few settings (texts c.args.paths.plans.items) (texts c.args.paths.files.items) why
    (subst (λ plans. IfSome why (IsAbout ((settings ∷ []) ++ texts plans))) c.deref-3.ensures.value
    (subst (λ path. IfSome why (IsAbout ((path ∷ []) ++ texts c.deref-3.result.now))) c.source.ensures
    c.explained-in-Err.ensures))

pub returns-clause-comes : goal.returns-clause-comes
returns-clause-comes g c =
    none_begun (is_want_of_memory c.in-Err.refusal) c.args.paths.ended c.args.paths.settings.now
    (texts c.args.paths.plans.items) (texts c.args.paths.files.items) c.as_slice.result.now
    (map (λ plan. plan.items) c.as_slice-2.result.now) c.in-Err.refusal c.from-exit.result
    (length-map c.as_slice-2.result.now (λ plan. plan.items) ∙ ap length c.as_slice-2.ensures.value
    ∙ c.in_ok-plans.ensures.each ∙ ap length c.deref.ensures.value
    ∙ sym (length-map c.args.paths.plans.items (λ text. text.now))) c.from-exit.ensures
    (c.in-Err.ensures.error c.args.paths.ended)
