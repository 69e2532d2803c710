-- What is left to show of pinpool_flush_wanted: what the handle holds after it.
use Rattle.std.proofs.Common.{sym, ap, ◌∙◌, ◌==◌, not}
use Rattle.std.specs.Prelude.{Some}
use Rattle.pp_pool_c.specs.Answers.{is_refusal}
use Rattle.pp_pool_c.specs.Calls.{FlushWanted}
use Rattle.pp_pool_c.proofs.CallLemmas.{goes, same_code, stays_in, wish_stays}
use Rattle.pp_pool_c.proofs.running.pinpool_flush_wanted.Goals as goal

pub returns-in-Some-clause-wishes : goal.returns-in-Some-clause-wishes
returns-in-Some-clause-wishes c =
    goes (λ old new. FlushWanted c.args.ticket (not (c.args.is_on == 0)) c.code-in-Some.result old new)
    c.args.handle.now.value c.put.new.handle.value c.deref_mut.result.now c.flush_wanted-answer.new.kept
    (c.in-Some.ensures.taken ∙ ap Some (sym c.deref_mut.ensures.value)) c.put.ensures
    (record { answered = c.flush_wanted-answer.result; wishes = rw c.of.ensures at c.flush_wanted-answer.ensures.wishes; status_is = c.code-in-Some.ensures }) c.flush_wanted-answer.ensures.settings

pub returns-in-Some-clause-unchanged : goal.returns-in-Some-clause-unchanged
returns-in-Some-clause-unchanged c = λ why refusal is.
    stays_in c.args.handle.now.value c.put.new.handle.value c.deref_mut.result.now c.flush_wanted-answer.new.kept
    (c.in-Some.ensures.taken ∙ ap Some (sym c.deref_mut.ensures.value)) c.put.ensures
    (wish_stays c.of.result (not (c.args.is_on == 0)) c.flush_wanted-answer.result c.deref_mut.result.now.steps c.flush_wanted-answer.new.kept.steps c.flush_wanted-answer.ensures.wishes (ap is_refusal (same_code c.flush_wanted-answer.result why (sym c.code-in-Some.ensures ∙ is)) ∙ refusal)) c.flush_wanted-answer.ensures.settings
