use Rattle.std.proofs.Common.{◌≡◌, ◌≢◌, ◌+◌, length, get_or, vec_items, subst, rules, arith, below_more, ap, sym, ◌∙◌}
use Rattle.std.proofs.lemmas.Bool.{false≢true}
use Rattle.std.specs.Vec.Iter.{into_iter_items}
use Rattle.pp_model.specs.WorkerParts.{part_of}
use Rattle.pp_run.specs.Agreeing.{Agrees}
use Rattle.pp_run.specs.Ends.{SettledAt}
use Rattle.pp_run.specs.declared.stop.Worked.{Worked}
use Rattle.pp_run.specs.declared.stop.Stop.TheVariants.{Broken}
use Rattle.pp_run.proofs.judging.settle.Goals as goal

pub loop-end-preserved : goal.loop-end-preserved
loop-end-preserved g c =
    let was = c.loop-end.invariant in let step = c.in-Some.ensures.steps in let done = c.loop-end.worker in
    let pushed = c.push in let all = vec_items pushed.new.self in
    let worked = into_iter_items c.into_iter-end-iterator.result in
    let given = c.into_iter-end-iterator.ensures.into_iter_gives in
    let same : worked ≡ c.args.worked.items = search rules in
    let log : c.in-Some.end.log.items ≡ part_of done c.args.events.now.items = search rules in (
      search rules,
      search rules,
      (λ k e below. let h = was.2 (k + 1) e in grind rules),
      λ k e d below. below_more (λ i. SettledAt (get_or worked i e) c.args.events.now.items i (get_or all i d)) done
          (λ i low. let old = was.3 i e d low in record {
            log = old.log;
            sound = old.sound;
            back = pushed.ensures.by_index.0 i d (omega (arith, low, was.1)) ∙ old.back;
          })
          (let next : c.in-Some.end ≡ get_or worked done e = let h = was.2 0 e in grind rules in
          let sound : c.in-Some.end.stop ≢ Broken
          = subst (λ x. x.stop ≢ Broken) (ap (λ xs. get_or xs done e) (sym same) ∙ sym next)
          (c.requires.sound done e (search rules)) in
          let mine : get_or all done d ≡ c.in-Some.end.device
          = ap (λ n. get_or all n d) (sym was.1) ∙ pushed.ensures.by_index.1 d (search rules) in
          let here : SettledAt c.in-Some.end c.args.events.now.items done (get_or all done d)
          = record { log = log; sound = sound; back = mine } in
          subst (λ (x : Worked g.row.D.Denot). SettledAt x c.args.events.now.items done (get_or all done d)) next here) k
          (omega arith),
    )

pub returns-then-not-is_part-clause-error : goal.returns-then-not-is_part-clause-error
returns-then-not-is_part-clause-error g c =
    let was = c.loop-end.invariant in let done = c.loop-end.worker in
    let worked = into_iter_items c.into_iter-end-iterator.result in
    let same : worked ≡ c.args.worked.items = search rules in
    record {
      within = search rules;
      other = λ x is.
          let next : c.in-Some.end ≡ get_or worked done x = let h = was.2 0 x in grind rules in
          let log : c.in-Some.end.log.items ≡ part_of done c.args.events.now.items
          = ap (λ (e : Worked g.row.D.Denot). e.log.items) (next ∙ ap (λ xs. get_or xs done x) same) ∙ is in
          false≢true (sym c.if-not-is_part.true ∙ c.is_part.ensures.1 (let l = log in grind rules));
      before = λ v x low.
          ap (λ xs. (get_or xs v x).log.items) (sym same) ∙ (was.3 v x c.in-Some.end.device low).log;
    }

pub returns-then-is_err-clause-error : goal.returns-then-is_err-clause-error
returns-then-is_err-clause-error g c =
    let was = c.loop-end.invariant in let done = c.loop-end.worker in
    let worked = into_iter_items c.into_iter-end-iterator.result in
    let same : worked ≡ c.args.worked.items = search rules in
    let log : c.in-Some.end.log.items ≡ part_of done c.args.events.now.items = search rules in
    record {
      worker = done;
      within = search rules;
      logs = λ v x low. below_more (λ i. (get_or c.args.worked.items i x).log.items ≡ part_of i c.args.events.now.items) done
          (λ i less. ap (λ xs. (get_or xs i x).log.items) (sym same) ∙ (was.3 i x c.in-Some.end.device less).log)
          (let next : c.in-Some.end ≡ get_or worked done x = let h = was.2 0 x in grind rules in
          ap (λ xs. (get_or xs done x).log.items) (sym same)
          ∙ (ap (λ (e : Worked g.row.D.Denot). e.log.items) (sym next) ∙ log)) v (omega (arith, low));
    }

pub is_part-requires : goal.is_part-requires
is_part-requires g c count low =
    let was = c.loop-end.invariant in let done = c.loop-end.worker in let end = c.in-Some.end in
    let step = c.in-Some.ensures.steps in
    let worked = into_iter_items c.into_iter-end-iterator.result in
    let given = c.into_iter-end-iterator.ensures.into_iter_gives in
    let same : worked ≡ c.args.worked.items = search rules in
    let next : end ≡ get_or worked done end = let h = was.2 0 end in grind rules in
    let log : (get_or c.as_slice.result.now done end).log.items ≡ end.log.items
    = ap (λ xs. (get_or xs done end).log.items) (c.as_slice.ensures.value ∙ sym same)
    ∙ ap (λ (e : Worked g.row.D.Denot). e.log.items) (sym next) in
    subst (λ items. Agrees (get_or c.agreement-counts.result done count) items done c.args.events.now.items
    (length c.args.events.now.items)) log (c.agreement-counts.ensures done count end low (search rules))
