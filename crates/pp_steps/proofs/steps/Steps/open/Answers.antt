use Rattle.std.proofs.Common.{◌∙◌, None, replicate, sym, ap, subst}
use Rattle.pp_hall.specs.Halls as halls
use Rattle.pp_hall.specs.Calls as hall
use Rattle.pp_steps.proofs.Home.{opened_steps}
use Rattle.pp_steps.proofs.steps.Steps.open.Goals as goal

pub invariant_of-result : goal.invariant_of-result
invariant_of-result c =
    let fresh : hall.IsFresh c.args.settings.now c.args.policy c.in-Ok-new.hall.value =
    subst (λ (h : halls.Parts). hall.IsFresh c.args.settings.now c.args.policy h) (sym c.in-Ok-new.ensures.ok)
    c.in-Ok.ensures.fresh in
    opened_steps c.args.settings.now c.args.policy c.in-Ok-new.hall.value c.new-4.result.items c.in-Ok-Ok.line
    c.in-Ok-new-2.seats fresh
    (c.in-Ok-new-2.ensures
    ∙ ap (λ n. replicate n (record { turn = 0; seated = None })) c.workers-workers.ensures.is)
