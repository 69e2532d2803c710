-- What is left to show of pinpool_leave: what the handle holds after it.
use Rattle.std.proofs.Common.{sym, ap, ◌∙◌}
use Rattle.std.specs.Prelude.{Some}
use Rattle.pp_pool_c.specs.Answers.{code}
use Rattle.pp_pool_c.specs.Calls.{Leaves}
use Rattle.pp_pool_c.proofs.CallLemmas.{goes, stays_in, leave_stays}
use Rattle.pp_pool_c.proofs.running.pinpool_leave.Goals as goal

pub returns-in-Some-clause-leaves : goal.returns-in-Some-clause-leaves
returns-in-Some-clause-leaves c =
    goes (λ old new. Leaves c.args.ticket c.code-in-Some.result c.leave-answer.new.told old new)
    c.args.handle.now.value c.put.new.handle.value c.deref_mut.result.now c.leave-answer.new.kept
    (c.in-Some.ensures.taken ∙ ap Some (sym c.deref_mut.ensures.value)) c.put.ensures
    (record { answered = c.leave-answer.result; out = rw c.of.ensures at c.leave-answer.ensures.leaves; status_is = c.code-in-Some.ensures }) c.leave-answer.ensures.settings

pub returns-in-Some-clause-unchanged : goal.returns-in-Some-clause-unchanged
returns-in-Some-clause-unchanged c = λ not.
    stays_in c.args.handle.now.value c.put.new.handle.value c.deref_mut.result.now c.leave-answer.new.kept
    (c.in-Some.ensures.taken ∙ ap Some (sym c.deref_mut.ensures.value)) c.put.ensures
    (leave_stays c.of.result c.leave-answer.result c.leave-answer.new.told c.deref_mut.result.now.steps c.leave-answer.new.kept.steps c.leave-answer.ensures.leaves (λ e. not (c.code-in-Some.ensures ∙ ap code e))) c.leave-answer.ensures.settings
