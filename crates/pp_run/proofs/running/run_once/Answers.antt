use Rattle.std.proofs.Common.{◌≡◌, length, subst, rules}
use Rattle.pp_model.specs.Pool.{opening}
use Rattle.pp_core.specs.Opening.{kept_of}
use Rattle.pp_report.specs.Audits.{IsWhole}
use Rattle.pp_run.specs.Rested.{opening_of, IsEnd}
use Rattle.pp_run.specs.Unrun.{IsNotBegun}
use Rattle.pp_run.proofs.Ran.{opened_as, opened_new, ran}
use Rattle.pp_run.proofs.Ready.{unbegun_new, unbegun_answer}
use Rattle.pp_run.proofs.RunsOn.{new_whole}
use Rattle.pp_run.proofs.running.run_once.Goals as goal

pub returns-in-Ok-ran-clause-journal : goal.returns-in-Ok-ran-clause-journal
returns-in-Ok-ran-clause-journal g c =
    let k = kept_of c.args.settings.now in
    let plans = c.args.plans.items in
    let p = c.in_ok-pool.pool in
    let b = c.in-Ok-ran.ended.stalled.book in
    let dirty = c.in-Ok-ran.ended.dirty in
    let end : IsEnd (opening_of p) plans b dirty
    = subst (λ o. IsEnd o plans b dirty)
    (opened_as p.settings p.began c.in-Ok.ready.book c.in-Ok.ensures.settings c.in-Ok.ensures.outset) c.in-Ok-ran.ensures.end in
    let first : IsEnd (opening k) plans b dirty
    = subst (λ o. IsEnd o plans b dirty) (opened_new k p c.in_ok-pool.ensures.settings c.in_ok-pool.ensures.outset) end in
    let count : c.closed-record.result.0.plans ≡ length plans = search rules in
    ran (opening k) plans b dirty c.closed-record.result.0 first c.known.ensures.kept c.closed-record.ensures.events count
    c.closed-record.ensures.dirty

pub returns-in-Ok-ran-clause-audited : goal.returns-in-Ok-ran-clause-audited
returns-in-Ok-ran-clause-audited g c =
    let k = c.args.settings.now in
    let plans = c.args.plans.items in
    let p = c.in_ok-pool.pool in
    let b = c.in-Ok-ran.ended.stalled.book in
    let dirty = c.in-Ok-ran.ended.dirty in
    let events = c.closed-record.result.0.events.items in
    let end : IsEnd (opening_of p) plans b dirty
    = subst (λ o. IsEnd o plans b dirty)
    (opened_as p.settings p.began c.in-Ok.ready.book c.in-Ok.ensures.settings c.in-Ok.ensures.outset) c.in-Ok-ran.ensures.end in
    let whole : IsWhole k plans events
    = new_whole k p plans b dirty events c.in_ok-pool.ensures.settings c.in_ok-pool.ensures.outset end c.known.ensures.kept
    c.closed-record.ensures.events in
    c.whole_journals_are_audited.ensures.verdict k plans c.requires.bounded whole

pub returns-in-Err-clause-error : goal.returns-in-Err-clause-error
returns-in-Err-clause-error g c =
    let k = kept_of c.args.settings.now in
    let p = c.in_ok-pool.pool in
    let unbegun : IsNotBegun (opening_of p) c.args.plans.items c.in-Err.error
    = subst (λ ps. IsNotBegun (opening_of p) ps c.in-Err.error) c.as_slice.ensures.value c.in-Err.ensures.error in
    unbegun_new k c.args.plans.items c.in-Err.error
    (subst (λ o. IsNotBegun o c.args.plans.items c.in-Err.error)
    (opened_new k p c.in_ok-pool.ensures.settings c.in_ok-pool.ensures.outset) unbegun)

pub returns-in-Err-clause-verdict : goal.returns-in-Err-clause-verdict
returns-in-Err-clause-verdict g c =
    let k = kept_of c.args.settings.now in
    let p = c.in_ok-pool.pool in
    let unbegun : IsNotBegun (opening_of p) c.args.plans.items c.in-Err.error
    = subst (λ ps. IsNotBegun (opening_of p) ps c.in-Err.error) c.as_slice.ensures.value c.in-Err.ensures.error in
    unbegun_answer g.D.Device.calls g.D.Device.failures k c.args.plans.items c.args.devices.items c.in-Err.error
    (subst (λ o. IsNotBegun o c.args.plans.items c.in-Err.error)
    (opened_new k p c.in_ok-pool.ensures.settings c.in_ok-pool.ensures.outset) unbegun)
