use Rattle.std.proofs.Common.{◌≡◌, ◌+◌, [], ◌∷◌, get_or, vec_items, length, subst, rules, arith, below_more, ap, sym, ◌∙◌}
use Rattle.std.proofs.lemmas.List.{get_or_append_left}
use Rattle.std.proofs.Math.Seq.{get_or-append_seam}
use Rattle.std.specs.Vec.Iter.{into_iter_items}
use Rattle.pp_run.specs.Ends.{WorkedFrom}
use Rattle.pp_run.proofs.threads.run_workers.Goals as goal

pub loop-device-preserved : goal.loop-device-preserved
loop-device-preserved g c =
    let was = c.loop-device.invariant in let step = c.in-Some.ensures.steps in let done = c.loop-device.worker in
    let pushed = c.push_reserved in let all = vec_items pushed.new.self in let olds = vec_items c.loop-device.handles in
    let many : length olds ≡ done = search rules in
    let devices = into_iter_items c.into_iter-device-iterator.result in
    let kept : c.in-Ok.handle.promise.0.value ≡ c.in-Some.device = search rules in (
      search rules,
      search rules,
      (λ k d below. let h = was.2 (k + 1) d in grind rules),
      λ k d h below. below_more (λ i. (get_or all i h).promise.0.value ≡ get_or devices i d) done
          (λ i low.
          let here : get_or all i h ≡ get_or olds i h
          = ap (λ xs. get_or xs i h) pushed.ensures.items
          ∙ get_or_append_left olds (c.in-Ok.handle ∷ []) h i (omega (arith, low, many)) in
          ap (λ x. x.promise.0.value) here ∙ was.3 i d h low)
          (let next : c.in-Some.device ≡ get_or devices done d = let h = was.2 0 d in grind rules in
          let mine : get_or all done h ≡ c.in-Ok.handle
          = ap (λ n. get_or all n h) (sym many) ∙ (ap (λ xs. get_or xs (length olds) h) pushed.ensures.items
          ∙ get_or-append_seam olds c.in-Ok.handle [] h) in
          ap (λ x. x.promise.0.value) mine ∙ (kept ∙ next)) k (omega arith),
      search rules,
      search rules,
    )

pub returns-in-Ok-join_promised-clause-workers : goal.returns-in-Ok-join_promised-clause-workers
returns-in-Ok-join_promised-clause-workers g c =
    let was = c.loop-device.invariant in
    let each = c.in-Ok-join_promised.ensures.each in
    let given = c.into_iter-device-iterator.ensures.into_iter_gives in
    let long : length c.in-Ok-join_promised.all.items ≡ length c.args.devices.items = search rules in
    let same : into_iter_items c.into_iter-device-iterator.result ≡ c.args.devices.items = search rules in
    let all_started : length c.args.devices.items ≡ c.loop-device.worker = search rules in (
      long,
      λ w d e low.
          let k = (each w e (omega (arith, low, all_started, was.1))).1 in
          let began = ap (λ x. x.promise.0.value) k.handle_is
          ∙ (was.3 w d k.handle (omega (arith, low, all_started)) ∙ ap (λ xs. get_or xs w d) same) in
          subst (λ x. WorkedFrom g.D.Device.calls g.D.Device.failures x (get_or c.in-Ok-join_promised.all.items w e)) began
          k.kept,
    )
