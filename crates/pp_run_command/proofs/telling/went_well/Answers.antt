use Rattle.std.proofs.Common.{◌≡◌, ◌∙◌, ◌+◌, ◌<◌, ◌≤◌, ℕ, List, length, drop, get_or, refl, sym, ap, arith, add-one, drop-cons}
use Rattle.std.proofs.lemmas.List.{drop_all}
use Rattle.std.specs.Prelude.{◌&&◌, not}
use Rattle.pp_model.specs.declared.event.Event.{Event}
use Rattle.pp_run_command.specs.Endings.{is_trouble, went_well}
use Rattle.pp_run_command.proofs.telling.went_well.Goals as goal

well_at : (es : List Event) (place : ℕ) (e : Event) → place < length es → e ≡ get_or es place e
    → went_well (drop place es) ≡ (not (is_trouble e) && went_well (drop (place + 1) es))
well_at es place e low is = rw (add-one, drop-cons es place e low, ← is) refl

pub loop-place-preserved : goal.loop-place-preserved
loop-place-preserved c =
    let es = c.args.events.now.items in
    let place = c.loop-place.place in
    let low : place < length es = omega (arith, c.loop-place-test.true, c.len-place-end.ensures) in
    c.loop-place.invariant
    ∙ (well_at es place c.event.result low c.event.ensures
    ∙ ap (λ b. not b && went_well (drop (place + 1) es)) (sym c.is_trouble.ensures ∙ c.if-is_trouble.false))

pub returns-then-is_trouble : goal.returns-then-is_trouble
returns-then-is_trouble c =
    let es = c.args.events.now.items in
    let place = c.loop-place.place in
    let low : place < length es = omega (arith, c.loop-place-test.true, c.len-place-end.ensures) in
    sym (c.loop-place.invariant
    ∙ (well_at es place c.event.result low c.event.ensures
    ∙ ap (λ b. not b && went_well (drop (place + 1) es)) (sym c.is_trouble.ensures ∙ c.if-is_trouble.true)))

pub returns : goal.returns
returns c =
    let es = c.args.events.now.items in
    let all : length es ≤ c.loop-place.place = omega (arith, c.loop-place-test.false, c.len-place-end.ensures) in
    sym (c.loop-place.invariant ∙ ap went_well (drop_all c.loop-place.place es all))
