use Rattle.std.proofs.Common.{◌≡◌, ◌+◌, None, Some, get_or, slice_set, inl, inr, ap, sym, subst, ◌∙◌, arith}
use Rattle.std.proofs.lemmas.Bool.Decides.{eqb_tells}
use Rattle.std.proofs.lemmas.Option.{slice_get-get_or}
use Rattle.std.proofs.lemmas.List.{get_or-set_same, get_or-set_other, get_or_default}
use Rattle.std.specs.Prelude.{slice_get}
use Rattle.pp_model.specs.declared.event.Event.{Event}
use Rattle.pp_model.specs.declared.event.Event.TheVariants.{Submit}
use Rattle.pp_model.specs.WorkerParts.{names_worker}
use Rattle.pp_run.specs.Agreeing.{Agrees}
use Rattle.pp_run.specs.declared.stop.Worked.{Worked}
use Rattle.pp_run.proofs.Agreements.{agrees_other, else_false}
use Rattle.pp_run.proofs.comparing.compare.Goals as goal
use Rattle.pp_run.proofs.comparing.compare.Goals.{else-worker-lt-TOGETHER-via-then-worker-lt-TOGETHER+else-worker-worked, else-worker-lt-TOGETHER-via-else-worker-lt-TOGETHER}

pub returns-in_default : goal.returns-in_default
returns-in_default g c all w count x low long =
    let events = c.args.events.now.items in let place = c.args.place in
    let e : Event = get_or events place (Submit 0) in
    let here : slice_get events place ≡ Some e = slice_get-get_or events place (Submit 0) c.requires in
    agrees_other (get_or c.args.counts.now w count) (get_or c.args.worked.now w x).log.items w events place e here
    (else_false (names_worker w e) (λ is. c.in_default.not-Some w ((c.worker.ensures.names e here w).0 is)))
    (all w count x low long)

pub returns-then-worker-worked : goal.returns-then-worker-worked
returns-then-worker-worked g c all w count x low long =
    let events = c.args.events.now.items in let place = c.args.place in
    let e : Event = get_or events place (Submit 0) in
    let here : slice_get events place ≡ Some e = slice_get-get_or events place (Submit 0) c.requires in
    let v = c.in-Some.worker in
    let counts = c.args.counts.now in
    elim (eqb_tells v w) [
      | inl t ↦
          let mine : Agrees c.after.result (get_or c.args.worked.now v c.index-worked-worker.result).log.items v events (place + 1) =
          c.after.ensures v e here ((c.worker.ensures.names e here v).1 c.in-Some.is)
          (all v None c.index-worked-worker.result (omega (arith, c.told-counts, c.if-worker-lt-TOGETHER.true))
          c.if-worker-worked.true) in
          let log : (get_or c.args.worked.now v c.index-worked-worker.result).log.items ≡ (get_or c.args.worked.now v x).log.items =
          ap (λ (y : Worked g.row.D.Denot). y.log.items)
          (get_or_default c.args.worked.now v c.index-worked-worker.result x c.if-worker-worked.true) in
          let set_now : get_or (slice_set counts v c.after.result) v count ≡ c.after.result =
          get_or-set_same counts v c.after.result count (omega (arith, c.told-counts, c.if-worker-lt-TOGETHER.true)) in
          subst (λ j. Agrees (get_or (slice_set counts v c.after.result) j count) (get_or c.args.worked.now j x).log.items j events (place + 1))
          t.1
          (subst (λ o. Agrees o (get_or c.args.worked.now v x).log.items v events (place + 1)) (sym set_now)
          (subst (λ items. Agrees c.after.result items v events (place + 1)) log mine))
      | inr t ↦
          rw (get_or-set_other counts v w c.after.result count (λ same. t.1 (sym same))) (agrees_other (get_or counts w count) (get_or c.args.worked.now w x).log.items w events
          place e here
          (else_false (names_worker w e)
          (λ is. let same : Some v ≡ Some w = sym c.in-Some.is ∙ (c.worker.ensures.names e here w).0 is in t.1 (cc)))
          (all w count x (omega (arith, low, c.told-counts, c.after.array_long)) long))
    ]

pub returns-else-worker-lt-TOGETHER : goal.returns-else-worker-lt-TOGETHER
returns-else-worker-lt-TOGETHER g c all w count x low long =
    let events = c.args.events.now.items in let place = c.args.place in
    let e : Event = get_or events place (Submit 0) in
    let here : slice_get events place ≡ Some e = slice_get-get_or events place (Submit 0) c.requires in
    agrees_other (get_or c.args.counts.now w count) (get_or c.args.worked.now w x).log.items w events place e here
    (else_false (names_worker w e)
    (λ is. let same : Some c.in-Some.worker ≡ Some w = sym c.in-Some.is ∙ (c.worker.ensures.names e here w).0 is in
    elim c.else-worker-lt-TOGETHER.branch [
      | else-worker-lt-TOGETHER-via-then-worker-lt-TOGETHER+else-worker-worked v ↦
          let is_w : c.in-Some.worker ≡ w = cc in absurd (omega (arith, is_w, v.if-worker-worked.false, long))
      | else-worker-lt-TOGETHER-via-else-worker-lt-TOGETHER v ↦
          let is_w : c.in-Some.worker ≡ w = cc in
          absurd (omega (arith, is_w, v.if-worker-lt-TOGETHER.false, low, c.told-counts))
    ]))
    (all w count x low long)
