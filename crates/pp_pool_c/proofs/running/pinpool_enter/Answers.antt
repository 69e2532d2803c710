-- What is left to show of pinpool_enter: what the handle holds after it.
use Rattle.std.proofs.Common.{sym, ap, ◌∙◌}
use Rattle.std.specs.Prelude.{Some}
use Rattle.pp_pool_c.specs.Answers.{code}
use Rattle.pp_pool_c.specs.Calls.{Queues}
use Rattle.pp_pool_c.proofs.CallLemmas.{goes, stays_in, enter_stays}
use Rattle.pp_pool_c.proofs.running.pinpool_enter.Goals as goal

pub returns-in-Some-clause-enters : goal.returns-in-Some-clause-enters
returns-in-Some-clause-enters c =
    goes (λ old new. Queues c.args.plan c.enter-answer.new.ticket c.code-in-Some.result old new)
    c.args.handle.now.value c.put.new.handle.value c.deref_mut.result.now c.enter-answer.new.kept
    (c.in-Some.ensures.taken ∙ ap Some (sym c.deref_mut.ensures.value)) c.put.ensures
    (record { answered = c.enter-answer.result; comes = c.enter-answer.ensures.comes; status_is = c.code-in-Some.ensures }) c.enter-answer.ensures.settings

pub returns-in-Some-clause-unchanged : goal.returns-in-Some-clause-unchanged
returns-in-Some-clause-unchanged c = λ not.
    stays_in c.args.handle.now.value c.put.new.handle.value c.deref_mut.result.now c.enter-answer.new.kept
    (c.in-Some.ensures.taken ∙ ap Some (sym c.deref_mut.ensures.value)) c.put.ensures
    (enter_stays c.args.plan c.enter-answer.new.ticket c.enter-answer.result c.deref_mut.result.now.steps c.enter-answer.new.kept.steps c.enter-answer.ensures.comes (λ e. not (c.code-in-Some.ensures ∙ ap code e))) c.enter-answer.ensures.settings
