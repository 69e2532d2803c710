use Rattle.std.proofs.Common.{◌≡◌, ◌∙◌, ◌+◌, [], ◌∷◌, ◌++◌, append_assoc, length, arith, rules, sym, ap, subst, length-append}
use Rattle.std.specs.Prelude.{IsOk, sum_by}
use Rattle.std.specs.Vec.Iter.{into_iter_items}
use Rattle.pp_model.specs.Budget.{cost_of}
use Rattle.pp_model.specs.Submitting.{after_submits}
use Rattle.pp_vault.specs.Parts as vault
use Rattle.pp_pool.specs.Parts.{plans_of, state_of}
use Rattle.pp_run.specs.Planned.{HasRoomFor}
use Rattle.pp_run.proofs.Begun.{submit_next}
use Rattle.pp_run.proofs.Taken.{taken_next}
use Rattle.pp_run.proofs.Submitted.{not_refused, room_left}
use Rattle.pp_run.proofs.planning.submit_all.Goals as goal

pub overflow_add-count : goal.overflow_add-count
overflow_add-count c =
    let taken = c.in-Ok.ensures.ok in omega (arith, taken.few, taken.numbered, c.loop-plan.invariant.4)

pub unreachable-requires : goal.unreachable-requires
unreachable-requires c =
    let was = c.loop-plan.invariant in
    let book = c.loop-plan.book in
    let rest = into_iter_items c.next.new.self in
    let step : into_iter_items c.loop-plan.plan-iterator ≡ c.in-Some.plan ∷ rest = search rules in
    not_refused book c.in-Some.plan rest _ (subst (λ ps. IsOk (after_submits (state_of book) ps)) step was.8)
    (subst (λ ps. HasRoomFor book (sum_by cost_of ps + length ps)) step was.9) c.in-Err.ensures.error

pub loop-plan-preserved : goal.loop-plan-preserved
loop-plan-preserved c =
    let was = c.loop-plan.invariant in
    let taken = c.in-Ok.ensures.ok in
    let book = c.loop-plan.book in
    let rest = into_iter_items c.next.new.self in
    let step : into_iter_items c.loop-plan.plan-iterator ≡ c.in-Some.plan ∷ rest = search rules in
    let next =
    taken_next (state_of book) c.in-Some.plan rest taken.allowed ∙ ap (λ s. after_submits s rest) (sym taken.state) in
    let longer = ap length taken.plans ∙ length-append (plans_of book) (c.in-Some.plan ∷ []) in (
      search rules,
      was.1
          ∙ (ap (λ r. plans_of book ++ r) step
          ∙ (sym (append_assoc (plans_of book) (c.in-Some.plan ∷ []) rest) ∙ ap (λ ps. ps ++ rest) (sym taken.plans))),
      search rules,
      was.3 ∙ (ap (after_submits (state_of book)) step ∙ next),
      omega (arith, longer, was.4),
      submit_next book.journal _ _ _ _ _ _ _ taken.numbered taken.journal (ap length taken.plans ∙ length-append (plans_of book) (c.in-Some.plan ∷ [])) (search rules) was.5,
      taken.outset ∙ was.6,
      c.submit.ensures.kept,
      subst IsOk (ap (after_submits (state_of book)) step ∙ next) was.8,
      room_left book _ c.in-Some.plan rest _ was.7 taken c.submit.ensures.grown
          (subst (λ ps. HasRoomFor book (sum_by cost_of ps + length ps)) step was.9),
      ap (λ (v : vault.Parts). v.page_bytes) taken.vault.rest ∙ was.10,
    )
