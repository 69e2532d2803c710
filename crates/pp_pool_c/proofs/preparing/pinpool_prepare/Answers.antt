-- What is left to show of pinpool_prepare: why the plan isn't prepared.
use Rattle.std.proofs.Common.{sym, ap, ◌∙◌}
use Rattle.std.specs.Prelude.{Some}
use Rattle.pp_pool_c.specs.Texts.{certified_in}
use Rattle.pp_pool_c.proofs.CallLemmas.{isnt_prepared}
use Rattle.pp_pool_c.proofs.preparing.pinpool_prepare.Goals as goal

pub returns-in-Some-clause-isnt : goal.returns-in-Some-clause-isnt
returns-in-Some-clause-isnt c =
    isnt_prepared c.args.handle.now.value c.deref.result.now (λ s. certified_in s c.args.plan.now c.args.certificate.now)
    c.certified_in-accepted.result c.code-in-Some.result c.keep-answer.result c.args.fault.now c.keep-answer.new.fault
    (c.in-Some.ensures.taken ∙ ap Some (sym c.deref.ensures)) c.code-in-Some.ensures c.certified_in-accepted.ensures.gives
    c.keep-answer.ensures.refused
    (rw (c.deref_mut.ensures.value, sym c.deref.ensures) at c.keep-answer.ensures.isnt)
