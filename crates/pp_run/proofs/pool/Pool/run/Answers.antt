use Rattle.std.proofs.Common.{◌≡◌, length, subst, rules}
use Rattle.pp_run.specs.Rested.{opening_of, IsEnd}
use Rattle.pp_run.proofs.Ran.{opened_as, ran}
use Rattle.pp_run.proofs.RunsOn.{over_of, kept_verdict}
use Rattle.pp_run.proofs.pool.Pool.run.Goals as goal

pub returns-in-Ok-renewed-clause-journal : goal.returns-in-Ok-renewed-clause-journal
returns-in-Ok-renewed-clause-journal g c =
    let p = c.args.self in
    let plans = c.args.plans.items in
    let b = c.in-Ok-ran.ended.stalled.book in
    let dirty = c.in-Ok-ran.ended.dirty in
    let end : IsEnd (opening_of p) plans b dirty
    = subst (λ o. IsEnd o plans b dirty)
    (opened_as p.settings p.began c.in-Ok.ready.book c.in-Ok.ensures.settings c.in-Ok.ensures.outset) c.in-Ok-ran.ensures.end in
    let count : c.in-Ok-renewed.kept.0.plans ≡ length plans = search rules in
    ran (opening_of p) plans b dirty c.in-Ok-renewed.kept.0 end c.known.ensures.kept c.in-Ok-renewed.ensures.events count
    c.in-Ok-renewed.ensures.dirty

pub returns-in-Ok-renewed-clause-over : goal.returns-in-Ok-renewed-clause-over
returns-in-Ok-renewed-clause-over g c =
    let p = c.args.self in
    let plans = c.args.plans.items in
    let b = c.in-Ok-ran.ended.stalled.book in
    let dirty = c.in-Ok-ran.ended.dirty in
    let end : IsEnd (opening_of p) plans b dirty
    = subst (λ o. IsEnd o plans b dirty)
    (opened_as p.settings p.began c.in-Ok.ready.book c.in-Ok.ensures.settings c.in-Ok.ensures.outset) c.in-Ok-ran.ensures.end in
    over_of (opening_of p) plans b dirty c.in-Ok-renewed.kept.0.events.items end c.known.ensures.kept
    c.in-Ok-renewed.ensures.events

pub returns-in-Err-renewed-clause-verdict : goal.returns-in-Err-renewed-clause-verdict
returns-in-Err-renewed-clause-verdict g c =
    let p = c.args.self in
    let plans = c.args.plans.items in
    let b = c.in-Ok-ran.ended.stalled.book in
    let dirty = c.in-Ok-ran.ended.dirty in
    let end : IsEnd (opening_of p) plans b dirty
    = subst (λ o. IsEnd o plans b dirty)
    (opened_as p.settings p.began c.in-Ok.ready.book c.in-Ok.ensures.settings c.in-Ok.ensures.outset) c.in-Ok-ran.ensures.end in
    kept_verdict g.D.Device.calls g.D.Device.failures (opening_of p) plans c.args.devices.items b
    c.in-Err-renewed.stalled.book dirty c.in-Err-renewed.stalled.hands c.in-Err-renewed.error end
    c.in-Err-renewed.ensures.stalled c.in-Err-renewed.ensures.error
