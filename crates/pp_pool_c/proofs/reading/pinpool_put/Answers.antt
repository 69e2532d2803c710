-- What is left to show of pinpool_put: what the handle holds after it.
use Rattle.std.proofs.Common.{sym, ap, ◌∙◌}
use Rattle.std.specs.Prelude.{Some}
use Rattle.pp_pool_c.specs.Answers.{code}
use Rattle.pp_pool_c.specs.Calls.{PutsTo}
use Rattle.pp_pool_c.proofs.CallLemmas.{goes, stays_in, put_stays}
use Rattle.pp_pool_c.proofs.reading.pinpool_put.Goals as goal

pub returns-in-Some-clause-puts : goal.returns-in-Some-clause-puts
returns-in-Some-clause-puts c =
    goes (λ old new. PutsTo c.args.ticket c.code-in-Some.result c.put_back-answer.new.ask c.put_back-answer.new.told old new)
    c.args.handle.now.value c.put.new.handle.value c.deref_mut.result.now c.put_back-answer.new.kept
    (c.in-Some.ensures.taken ∙ ap Some (sym c.deref_mut.ensures.value)) c.put.ensures
    (record { answered = c.put_back-answer.result; puts = rw c.of.ensures at c.put_back-answer.ensures.puts; status_is = c.code-in-Some.ensures })
    c.put_back-answer.ensures.settings

pub returns-in-Some-clause-unchanged : goal.returns-in-Some-clause-unchanged
returns-in-Some-clause-unchanged c = λ not.
    stays_in c.args.handle.now.value c.put.new.handle.value c.deref_mut.result.now c.put_back-answer.new.kept
    (c.in-Some.ensures.taken ∙ ap Some (sym c.deref_mut.ensures.value)) c.put.ensures
    (put_stays c.of.result c.put_back-answer.result c.put_back-answer.new.ask
    c.put_back-answer.new.told c.deref_mut.result.now.steps c.put_back-answer.new.kept.steps c.put_back-answer.ensures.puts
    (λ e. not (c.code-in-Some.ensures ∙ ap code e))) c.put_back-answer.ensures.settings
