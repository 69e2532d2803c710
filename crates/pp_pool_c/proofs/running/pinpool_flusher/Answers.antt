-- What is left to show of pinpool_flusher: what the handle holds after it.
use Rattle.std.proofs.Common.{sym, ap, ◌∙◌}
use Rattle.std.specs.Prelude.{Some}
use Rattle.pp_pool_c.specs.Answers.{code}
use Rattle.pp_pool_c.specs.Calls.{HandsFlusher}
use Rattle.pp_pool_c.proofs.CallLemmas.{goes, stays_in, flusher_given}
use Rattle.pp_pool_c.proofs.running.pinpool_flusher.Goals as goal

pub returns-in-Some-clause-gives : goal.returns-in-Some-clause-gives
returns-in-Some-clause-gives c =
    goes (λ old new. HandsFlusher c.flusher-answer.new.ticket c.code-in-Some.result c.flusher-answer.new.ask old new)
    c.args.handle.now.value c.put.new.handle.value c.deref_mut.result.now c.flusher-answer.new.kept
    (c.in-Some.ensures.taken ∙ ap Some (sym c.deref_mut.ensures.value)) c.put.ensures
    (record { answered = c.flusher-answer.result; gives = c.flusher-answer.ensures.gives; status_is = c.code-in-Some.ensures }) c.flusher-answer.ensures.settings

pub returns-in-Some-clause-unchanged : goal.returns-in-Some-clause-unchanged
returns-in-Some-clause-unchanged c = λ not.
    stays_in c.args.handle.now.value c.put.new.handle.value c.deref_mut.result.now c.flusher-answer.new.kept
    (c.in-Some.ensures.taken ∙ ap Some (sym c.deref_mut.ensures.value)) c.put.ensures
    (flusher_given c.flusher-answer.new.ticket c.flusher-answer.new.ask c.flusher-answer.result c.deref_mut.result.now.steps c.flusher-answer.new.kept.steps c.flusher-answer.ensures.gives (λ e. not (c.code-in-Some.ensures ∙ ap code e))) c.flusher-answer.ensures.settings
