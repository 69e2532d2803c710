-- What is left to show of pinpool_start: what the handle holds after it.
use Rattle.std.proofs.Common.{sym, ap, ◌∙◌}
use Rattle.std.specs.Prelude.{Some}
use Rattle.pp_pool_c.specs.Answers.{is_refusal}
use Rattle.pp_pool_c.specs.Calls.{Starts}
use Rattle.pp_pool_c.proofs.CallLemmas.{goes, same_code, stays_in, start_stays}
use Rattle.pp_pool_c.proofs.running.pinpool_start.Goals as goal

pub returns-in-Some-clause-starts : goal.returns-in-Some-clause-starts
returns-in-Some-clause-starts c =
    goes (λ old new. Starts c.args.ticket.now c.start-answer.new.ticket c.code-in-Some.result c.asked.result c.start-answer.new.told old new)
    c.args.handle.now.value c.put.new.handle.value c.deref_mut.result.now c.start-answer.new.kept
    (c.in-Some.ensures.taken ∙ ap Some (sym c.deref_mut.ensures.value)) c.put.ensures
    (record { answered = c.start-answer.result; begins = c.start-answer.ensures.begins; status_is = c.code-in-Some.ensures; ask_is = rw (c.of.ensures, c.deref.ensures) at c.asked.ensures }) c.start-answer.ensures.settings

pub returns-in-Some-clause-unchanged : goal.returns-in-Some-clause-unchanged
returns-in-Some-clause-unchanged c = λ why refusal is.
    stays_in c.args.handle.now.value c.put.new.handle.value c.deref_mut.result.now c.start-answer.new.kept
    (c.in-Some.ensures.taken ∙ ap Some (sym c.deref_mut.ensures.value)) c.put.ensures
    (start_stays c.args.ticket.now c.start-answer.new.ticket c.start-answer.result c.start-answer.new.told c.deref_mut.result.now.steps c.start-answer.new.kept.steps c.start-answer.ensures.begins (ap is_refusal (same_code c.start-answer.result why (sym c.code-in-Some.ensures ∙ is)) ∙ refusal)) c.start-answer.ensures.settings
