-- What is left to show of Search::pass: one more page may have a number.
use Rattle.std.proofs.Common.{◌≡◌, ◌<◌, length, arith, get_or, sym, subst, ◌∙◌}
use Rattle.pp_arc.specs.Search.{SearchMarks, number_of}
use Rattle.pp_arc.specs.Slots.{numbers_of}
use Rattle.pp_arc.proofs.PassedLemmas.{fits_more}
use Rattle.pp_arc.proofs.SlotLemmas.{long}
use Rattle.pp_arc.proofs.search.Search.pass.Goals as goal

pub set-requires : goal.set-requires
set-requires c =
    let low : c.args.page < length (numbers_of c.self.inside.numbers) = rw (← c.self.view_is) at c.requires.below in
    record {
      below = omega (arith, low, long c.self.inside.numbers.slots c.self.inside.numbers.numbers);
      number = c.requires.number;
    }

pub overflow_add-self : goal.overflow_add-self
overflow_add-self c =
    let zero : number_of c.args.self.now c.args.page ≡ 0 = sym c.number-old.ensures ∙ c.if-old-eq0.true in
    let none : get_or (numbers_of c.self.inside.numbers) c.args.page 0 ≡ 0 = subst (λ (w : SearchMarks).
    number_of w c.args.page ≡ 0) (sym c.self.view_is) zero in
    let low : c.args.page < length (numbers_of c.self.inside.numbers) = rw (← c.self.view_is) at c.requires.below in
    omega (
      arith,
      fits_more c.self.inside.passed (numbers_of c.self.inside.numbers) c.args.page c.self.invariant low
          none,
    )
