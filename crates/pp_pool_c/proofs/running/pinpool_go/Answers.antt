-- What is left to show of pinpool_go: what the handle holds after it.
use Rattle.std.proofs.Common.{sym, ap, ◌∙◌}
use Rattle.std.specs.Prelude.{Some}
use Rattle.pp_pool_c.specs.Answers.{is_refusal}
use Rattle.pp_pool_c.specs.Calls.{Steps}
use Rattle.pp_pool_c.proofs.CallLemmas.{goes, same_code, stays_in, step_stays}
use Rattle.pp_pool_c.proofs.running.pinpool_go.Goals as goal

pub returns-in-Some-clause-goes : goal.returns-in-Some-clause-goes
returns-in-Some-clause-goes c =
    goes (λ old new. Steps c.args.ticket c.args.argument c.code-in-Some.result c.go-answer.new.ask c.go-answer.new.told old new)
    c.args.handle.now.value c.put.new.handle.value c.deref_mut.result.now c.go-answer.new.kept
    (c.in-Some.ensures.taken ∙ ap Some (sym c.deref_mut.ensures.value)) c.put.ensures
    (record { answered = c.go-answer.result; makes = rw c.of.ensures at c.go-answer.ensures.makes; status_is = c.code-in-Some.ensures }) c.go-answer.ensures.settings

pub returns-in-Some-clause-unchanged : goal.returns-in-Some-clause-unchanged
returns-in-Some-clause-unchanged c = λ why refusal is.
    stays_in c.args.handle.now.value c.put.new.handle.value c.deref_mut.result.now c.go-answer.new.kept
    (c.in-Some.ensures.taken ∙ ap Some (sym c.deref_mut.ensures.value)) c.put.ensures
    (step_stays c.of.result c.args.argument c.go-answer.result c.go-answer.new.ask c.go-answer.new.told c.deref_mut.result.now.steps c.go-answer.new.kept.steps c.go-answer.ensures.makes (ap is_refusal (same_code c.go-answer.result why (sym c.code-in-Some.ensures ∙ is)) ∙ refusal)) c.go-answer.ensures.settings
