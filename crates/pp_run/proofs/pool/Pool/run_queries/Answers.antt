use Rattle.std.proofs.Common.{◌≡◌, ◌∙◌, length, refl, sym, subst, inr, rules}
use Rattle.std.specs.Prelude.{◌⊎◌, IsOk}
use Rattle.pp_model.specs.Submitting.{after_submits}
use Rattle.pp_run.specs.Joins.{IsAnswerFrom}
use Rattle.pp_run.specs.Planned.{plans_in}
use Rattle.pp_run.specs.Queries.{IsLeftOfQueries, IsUnrenewedQueries}
use Rattle.pp_run.specs.Rested.{opening_of, IsEnd}
use Rattle.pp_run.proofs.Ran.{ends_from, ran}
use Rattle.pp_run.proofs.Ready.{not_begun}
use Rattle.pp_run.proofs.RunsOn.{over_of, kept_verdict, kept_error, kept_stopped, kept_may_stop}
use Rattle.pp_run.proofs.pool.Pool.run_queries.Goals as goal

pub returns-in-Err-readied-clause-verdict : goal.returns-in-Err-readied-clause-verdict
returns-in-Err-readied-clause-verdict g c =
    let p = c.args.self in
    let plans = plans_in c.args.plans.items in
    let error = c.in-Err-readied.error in
    let taken : IsOk (after_submits (opening_of p) plans)
    = subst (λ asked. IsOk (after_submits (opening_of p) (plans_in asked))) c.as_slice.ensures.value c.in-Ok.ensures.taken in
    inr (subst (λ left. IsUnrenewedQueries (opening_of p) plans error left) (sym c.unbegun-in-Err-readied.ensures)
    (not_begun (opening_of p) plans error taken c.in-Err-readied.ensures.error))

pub returns-in-Err-readied-clause-left : goal.returns-in-Err-readied-clause-left
returns-in-Err-readied-clause-left g c =
    let p = c.args.self in
    let plans = plans_in c.args.plans.items in
    let error = c.in-Err-readied.error in
    let taken : IsOk (after_submits (opening_of p) plans)
    = subst (λ asked. IsOk (after_submits (opening_of p) (plans_in asked))) c.as_slice.ensures.value c.in-Ok.ensures.taken in
    subst (λ left. IsLeftOfQueries p c.args.plans.items c.args.devices.items error left) (sym c.unbegun-in-Err-readied.ensures) (
      record { pool_back = c.in-Err-readied.ensures.back; plans_back = refl; devices_back = refl },
      not_begun (opening_of p) plans error taken c.in-Err-readied.ensures.error,
    )

pub returns-in-Ok-renewed-clause-journal : goal.returns-in-Ok-renewed-clause-journal
returns-in-Ok-renewed-clause-journal g c =
    let p = c.args.self in
    let plans = plans_in c.args.plans.items in
    let b = c.in-Ok-ran.ended.stalled.book in
    let dirty = c.in-Ok-ran.ended.dirty in
    let end : IsEnd (opening_of p) plans b dirty
    = ends_from p plans _ c.in-Ok-readied.ready.book b dirty c.in-Ok-readied.ensures.settings c.in-Ok-readied.ensures.outset
    c.parted-accepted.ensures.plans c.in-Ok-ran.ensures.end in
    let many : c.in-Ok-renewed.record.plans ≡ length plans = search rules in
    ran (opening_of p) plans b dirty c.in-Ok-renewed.record end c.known.ensures.kept c.in-Ok-renewed.ensures.events many
    c.in-Ok-renewed.ensures.dirty

pub returns-in-Ok-renewed-clause-over : goal.returns-in-Ok-renewed-clause-over
returns-in-Ok-renewed-clause-over g c =
    let p = c.args.self in
    let plans = plans_in c.args.plans.items in
    let b = c.in-Ok-ran.ended.stalled.book in
    let dirty = c.in-Ok-ran.ended.dirty in
    let end : IsEnd (opening_of p) plans b dirty
    = ends_from p plans _ c.in-Ok-readied.ready.book b dirty c.in-Ok-readied.ensures.settings c.in-Ok-readied.ensures.outset
    c.parted-accepted.ensures.plans c.in-Ok-ran.ensures.end in
    over_of (opening_of p) plans b dirty c.in-Ok-renewed.record.events.items end c.known.ensures.kept c.in-Ok-renewed.ensures.events

pub returns-in-Ok-ran-clause-error : goal.returns-in-Ok-ran-clause-error
returns-in-Ok-ran-clause-error g c =
    let p = c.args.self in
    let plans = plans_in c.args.plans.items in
    let b = c.in-Ok-ran.ended.stalled.book in
    let dirty = c.in-Ok-ran.ended.dirty in
    let end : IsEnd (opening_of p) plans b dirty
    = ends_from p plans _ c.in-Ok-readied.ready.book b dirty c.in-Ok-readied.ensures.settings c.in-Ok-readied.ensures.outset
    c.parted-accepted.ensures.plans c.in-Ok-ran.ensures.end in
    let taken : IsOk (after_submits (opening_of p) plans)
    = subst (λ asked. IsOk (after_submits (opening_of p) (plans_in asked))) c.as_slice.ensures.value c.in-Ok.ensures.taken in
    kept_error (opening_of p) plans b dirty c.in-Err-renewed.stalled.hands c.in-Err-renewed.error taken end
    c.in-Err-renewed.ensures.error

pub returns-in-Ok-ran-clause-verdict : goal.returns-in-Ok-ran-clause-verdict
returns-in-Ok-ran-clause-verdict g c =
    let p = c.args.self in
    let plans = plans_in c.args.plans.items in
    let b = c.in-Ok-ran.ended.stalled.book in
    let dirty = c.in-Ok-ran.ended.dirty in
    let end : IsEnd (opening_of p) plans b dirty
    = ends_from p plans _ c.in-Ok-readied.ready.book b dirty c.in-Ok-readied.ensures.settings c.in-Ok-readied.ensures.outset
    c.parted-accepted.ensures.plans c.in-Ok-ran.ensures.end in
    let calls = g.D.Device.calls in
    let failures = g.D.Device.failures in
    let error = c.in-Err-renewed.error in
    subst (λ left. IsAnswerFrom calls failures (opening_of p) plans c.args.devices.items error ⊎ IsUnrenewedQueries (opening_of p) plans error left)
    (sym c.stopped.ensures)
    (kept_verdict calls failures (opening_of p) plans c.args.devices.items b c.in-Err-renewed.stalled.book dirty
    c.in-Err-renewed.stalled.hands error end c.in-Err-renewed.ensures.stalled c.in-Err-renewed.ensures.error)

pub returns-in-Ok-ran-clause-left : goal.returns-in-Ok-ran-clause-left
returns-in-Ok-ran-clause-left g c =
    let p = c.args.self in
    let plans = plans_in c.args.plans.items in
    let b = c.in-Ok-ran.ended.stalled.book in
    let dirty = c.in-Ok-ran.ended.dirty in
    let end : IsEnd (opening_of p) plans b dirty
    = ends_from p plans _ c.in-Ok-readied.ready.book b dirty c.in-Ok-readied.ensures.settings c.in-Ok-readied.ensures.outset
    c.parted-accepted.ensures.plans c.in-Ok-ran.ensures.end in
    let s = c.in-Err-renewed.stalled in
    let error = c.in-Err-renewed.error in
    let many : length c.into_queries-queries.result.items ≡ length c.args.plans.items = search rules in
    subst (λ left. IsLeftOfQueries p c.args.plans.items c.args.devices.items error left) (sym c.stopped.ensures) (
      kept_stopped p plans b dirty s end c.in-Err-renewed.ensures.stalled s.laid
          (c.in-Err-renewed.ensures.pages.1 ∙ (c.in-Ok-ran.ensures.page_bytes ∙ c.in-Ok-readied.ensures.page_bytes))
          (c.in-Err-renewed.ensures.pages.2 ∙ (c.in-Ok-ran.ensures.from ∙ c.in-Ok-readied.ensures.from)),
      kept_may_stop b s.hands error c.in-Err-renewed.ensures.error,
      many,
    )
