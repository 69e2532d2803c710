-- What is left to show of pinpool_get: what the handle holds after it.
use Rattle.std.proofs.Common.{sym, ap, ◌∙◌}
use Rattle.std.specs.Prelude.{Some}
use Rattle.pp_pool_c.specs.Answers.{code}
use Rattle.pp_pool_c.specs.Calls.{GetsTo}
use Rattle.pp_pool_c.proofs.CallLemmas.{goes, stays_in, get_stays}
use Rattle.pp_pool_c.proofs.reading.pinpool_get.Goals as goal

pub returns-in-Some-clause-gets : goal.returns-in-Some-clause-gets
returns-in-Some-clause-gets c =
    goes (λ old new. GetsTo c.args.ticket c.args.page c.args.from c.args.bytes.now c.code-in-Some.result c.get-answer.new.bytes
    c.get-answer.new.ask c.get-answer.new.told old new)
    c.args.handle.now.value c.put.new.handle.value c.deref_mut.result.now c.get-answer.new.kept
    (c.in-Some.ensures.taken ∙ ap Some (sym c.deref_mut.ensures.value)) c.put.ensures
    (record { answered = c.get-answer.result; gets = rw c.of.ensures at c.get-answer.ensures.gets; status_is = c.code-in-Some.ensures })
    c.get-answer.ensures.settings

pub returns-in-Some-clause-unchanged : goal.returns-in-Some-clause-unchanged
returns-in-Some-clause-unchanged c = λ not.
    stays_in c.args.handle.now.value c.put.new.handle.value c.deref_mut.result.now c.get-answer.new.kept
    (c.in-Some.ensures.taken ∙ ap Some (sym c.deref_mut.ensures.value)) c.put.ensures
    (get_stays c.of.result c.args.page c.args.from c.args.bytes.now c.get-answer.result c.get-answer.new.bytes c.get-answer.new.ask
    c.get-answer.new.told c.deref_mut.result.now.steps c.get-answer.new.kept.steps c.get-answer.ensures.gets
    (λ e. not (c.code-in-Some.ensures ∙ ap code e))).0 c.get-answer.ensures.settings

pub returns-in-Some-clause-bytes : goal.returns-in-Some-clause-bytes
returns-in-Some-clause-bytes c = λ not.
    (get_stays c.of.result c.args.page c.args.from c.args.bytes.now c.get-answer.result c.get-answer.new.bytes c.get-answer.new.ask
    c.get-answer.new.told c.deref_mut.result.now.steps c.get-answer.new.kept.steps c.get-answer.ensures.gets
    (λ e. not (c.code-in-Some.ensures ∙ ap code e))).1
