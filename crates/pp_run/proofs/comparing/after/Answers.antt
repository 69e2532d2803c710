use Rattle.std.proofs.Common.{sym, subst, ◌∙◌}
use Rattle.std.proofs.lemmas.Bool.{false≢true}
use Rattle.pp_run.specs.Agreeing.{Agrees}
use Rattle.pp_run.proofs.Agreements.{agrees_next, agrees_no_more}
use Rattle.pp_run.proofs.comparing.after.Goals as goal

pub returns-in-Some : goal.returns-in-Some
returns-in-Some c worker event here named h =
    agrees_next c.in-Some.next c.args.log.now.items worker c.args.events.now.items c.args.place event here named
    ((c.stands_at.ensures.same event here).0 c.if-stands_at.true)
    (subst (λ o. Agrees o c.args.log.now.items worker c.args.events.now.items c.args.place) c.in-Some.is h)

pub returns-in_default : goal.returns-in_default
returns-in_default c worker event here named h =
    agrees_no_more c.in-Some.next c.args.log.now.items worker c.args.events.now.items c.args.place event here named
    (λ at. false≢true (sym c.if-stands_at.false ∙ (c.stands_at.ensures.same event here).1 at))
    (subst (λ o. Agrees o c.args.log.now.items worker c.args.events.now.items c.args.place) c.in-Some.is h)
