use Rattle.std.proofs.Common.{◌≡◌, ◌∙◌, Some, rules, refl, sym, ap}
use Rattle.std.specs.Prelude.{slice_set}
use Rattle.pp_vault.specs.declared.guards.Guard.TheVariants as guard
use Rattle.pp_vault.specs.declared.guards.ReadGuard.{ReadGuard}
use Rattle.pp_vault.specs.Holding.{placed, slot_by}
use Rattle.pp_steps.proofs.Bodies.{guard_back}
use Rattle.pp_steps.proofs.reading.put_back.Goals as goal

pub returns-in-Err-clause-guards : goal.returns-in-Err-clause-guards
returns-in-Err-clause-guards c =
    let g = c.in-Some-Read.guard in
    let there : placed c.args.guards.now c.in-Some.slot ≡ Some (guard.Read g) =
    sym c.take.ensures.guard ∙ c.in-Some-Read.is ∙ ap (λ x. Some x) c.in-Some-Read.field-0-is in
    guard_back c.args.guards.now c.take.new.self c.put.new.guards c.in-Some.slot g.slot (guard.Read g) (sym there)
    c.in-Some-Read.ensures.taken (ap slot_by (sym c.in-Some-Read.field-0-is) ∙ c.in-Some-Read.ensures.slot)
    (c.put.ensures ∙ ap (λ (r : ReadGuard). slice_set c.take.new.self r.slot (Some (guard.Read r))) c.in-Err.ensures.back)

pub returns-in-Some-take : goal.returns-in-Some-take
returns-in-Some-take c = record {
  some = tt;
  step = tt;
  none = search rules;
  session = refl;
  guards =
      guard_back c.args.guards.now c.take.new.self c.put-in-Some-take.new.guards c.in-Some.slot
      (slot_by c.in-Some-take.guard) c.in-Some-take.guard (sym c.in-Some-take.is ∙ c.take.ensures.guard)
      c.in-Some-take.ensures.taken c.in-Some-take.ensures.slot c.put-in-Some-take.ensures;
  hall = refl;
}
