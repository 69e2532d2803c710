use Rattle.std.proofs.Common.{◌≡◌, get_or, arith, refl, ap, ◌∙◌, take, sym}
use Rattle.std.specs.Prelude.{◌||◌}
use Rattle.std.proofs.lemmas.List.{take_all}
use Rattle.std.proofs.lemmas.List.Folds.{list_any_more}
use Rattle.pp_admission.specs.declared.waiting.Waiting.{Waiting}
use Rattle.pp_admission.specs.Queues.{awakened, any_asleep}
use Rattle.pp_admission.proofs.Lines.{blank, one_more, as_it_was, all_changed}
use Rattle.pp_admission.proofs.line.wake.Goals as goal

pub loop-one-preserved : goal.loop-one-preserved
loop-one-preserved c =
    let i = c.loop-one.one-index in
    let same : get_or c.loop-one.one-items i blank ≡ get_or c.args.line.now i blank =
    as_it_was awakened c.args.line.now c.loop-one.one-items i blank (omega arith) c.loop-one.invariant.items in
    record {
      items = one_more awakened c.args.line.now c.loop-one.one-items i _ blank c.loop-one-test.true
          c.loop-one.invariant.items refl;
      some = ap (λ b. b || (get_or c.loop-one.one-items i blank).is_asleep) c.loop-one.invariant.some
          ∙ ap (λ (w : Waiting). any_asleep (take i c.args.line.now) || w.is_asleep) same
          ∙ sym (list_any_more (λ (w : Waiting). w.is_asleep) c.args.line.now i blank (omega arith));
    }

pub returns-clause-woken : goal.returns-clause-woken
returns-clause-woken c = all_changed awakened c.args.line.now c.loop-one.one-items c.loop-one.one-index (omega arith)
    c.loop-one.invariant.items

pub returns-clause-some : goal.returns-clause-some
returns-clause-some c =
    c.loop-one.invariant.some ∙ ap any_asleep (take_all c.loop-one.one-index c.args.line.now (omega arith))
