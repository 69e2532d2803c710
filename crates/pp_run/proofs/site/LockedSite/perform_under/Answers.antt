use Rattle.std.proofs.Common.{subst}
use Rattle.pp_pool.specs.declared.response.BookAnswer.{BookAnswer}
use Rattle.pp_pool.specs.declared.response.BookAnswer.TheVariants as answer
use Rattle.pp_run.specs.Shared.{IsGiven}
use Rattle.pp_run.proofs.site.LockedSite.perform_under.Goals as goal

pub returns-in-Nothing : goal.returns-in-Nothing
returns-in-Nothing g c =
    let p = c.perform-event in
    let given : IsGiven g.B.Site.gives c.loop.request p.result =
    (p.ensures.fits, (c.deref_mut.result.now.desk, p.new.self, p.ensures.given)) in
    let refused =
    subst (λ (a : BookAnswer). IsGiven g.B.Site.gives c.loop.request (record { event = p.result.event; answer = a })) c.in-No.is given in
    subst (λ q. IsGiven g.B.Site.gives q (record { event = p.result.event; answer = answer.No c.in-No.back c.in-No.refusal })) c.loop.invariant refused

pub returns-in_default : goal.returns-in_default
returns-in_default g c =
    let p = c.perform-event in
    subst (λ q. IsGiven g.B.Site.gives q p.result) c.loop.invariant
    (p.ensures.fits, (c.deref_mut.result.now.desk, p.new.self, p.ensures.given))
