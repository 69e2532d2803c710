-- What is left to show of pinpool_came: what the handle holds after it.
use Rattle.std.proofs.Common.{refl, sym, ap, ◌∙◌}
use Rattle.std.specs.Prelude.{Some}
use Rattle.pp_pool_c.specs.Calls.{CameTo}
use Rattle.pp_pool_c.proofs.CallLemmas.{came_to, goes, refused, stays_in}
use Rattle.pp_pool_c.proofs.pages.pinpool_came.Goals as goal

pub returns-in-Some-clause-came : goal.returns-in-Some-clause-came
returns-in-Some-clause-came c =
    goes (λ old new. CameTo c.args.ticket c.status.result c.args.bytes.now old new)
    c.args.handle.now.value c.put.new.handle.value c.deref_mut.result.now
    (record { steps = c.came-done.new.self; settings = c.deref_mut.result.now.settings })
    (c.in-Some.ensures.taken ∙ ap Some (sym c.deref_mut.ensures.value)) c.put.ensures
    (came_to c.args.ticket c.status.result c.args.bytes.now c.came-done.result c.deref_mut.result.now.steps c.came-done.new.self
    (rw c.of.ensures at c.came-done.ensures.some) (rw c.of.ensures at c.came-done.ensures.none) c.status.ensures) refl

pub returns-in-Some-clause-unchanged : goal.returns-in-Some-clause-unchanged
returns-in-Some-clause-unchanged c = λ not.
    let came : CameTo c.args.ticket c.status.result c.args.bytes.now c.deref_mut.result.now.steps c.came-done.new.self =
    came_to c.args.ticket c.status.result c.args.bytes.now c.came-done.result c.deref_mut.result.now.steps c.came-done.new.self
    (rw c.of.ensures at c.came-done.ensures.some) (rw c.of.ensures at c.came-done.ensures.none) c.status.ensures in
    stays_in c.args.handle.now.value c.put.new.handle.value c.deref_mut.result.now
    (record { steps = c.came-done.new.self; settings = c.deref_mut.result.now.settings })
    (c.in-Some.ensures.taken ∙ ap Some (sym c.deref_mut.ensures.value)) c.put.ensures
    (refused came.done c.status.result came.status_is not came.stays) refl
