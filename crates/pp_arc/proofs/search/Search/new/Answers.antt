-- What is left to show of Search::new: nothing was passed over yet.
use Rattle.std.proofs.Common.{◌≡◌, ℕ, length, get_or, refl, arith, sym, ◌∙◌}
use Rattle.std.specs.Prelude.{None}
use Rattle.pp_arc.specs.Slots.{numbers_of, freed_t1_of, freed_t2_of, marks_of}
use Rattle.pp_arc.proofs.SearchLemmas.{KnowsBusy-new}
use Rattle.pp_arc.proofs.SlotLemmas.{long, no_slot, none_counted}
use Rattle.pp_arc.proofs.search.Search.new.Goals as goal

pub invariant_of-result : goal.invariant_of-result
invariant_of-result c =
    let n = c.in_ok-new.field-0 in
    record {
      count = sym (none_counted (numbers_of n) (λ x. no_slot n n.numbers x c.in_ok-new.ensures.slotted.numbers
          (c.in_ok-new.ensures.blank x)));
      fits = omega (arith, long n.slots n.numbers, c.in_ok-new.ensures.pages, c.ranges.pages);
    }

pub returns : goal.returns
returns c =
    let n = c.in_ok-new.field-0 in
    record {
      knows = λ s busy le. KnowsBusy-new s (marks_of None None n) busy refl refl
          (λ x. no_slot n n.numbers x c.in_ok-new.ensures.slotted.numbers (c.in_ok-new.ensures.blank x))
          (λ x. no_slot n n.freed_t1 x c.in_ok-new.ensures.slotted.freed_t1 (c.in_ok-new.ensures.blank x))
          (λ x. no_slot n n.freed_t2 x c.in_ok-new.ensures.slotted.freed_t2 (c.in_ok-new.ensures.blank x))
          (long n.slots n.freed_t1 ∙ sym (long n.slots n.numbers))
          (long n.slots n.freed_t2 ∙ sym (long n.slots n.numbers))
          (omega (arith, le, long n.slots n.numbers, c.in_ok-new.ensures.pages));
    }
