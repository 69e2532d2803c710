-- What is left to show of Numbers::set_freed_t2: a page without a slot isn't among the freed ones.
use Rattle.std.proofs.Common.{◌≡◌, arith, get_or, set, sym, subst, ap, inl, inr, ℕ, List, ◌∙◌}
use Rattle.pp_arc.specs.Slots.{freed_t2_of, numbers_of, by_page}
use Rattle.pp_arc.proofs.SlotLemmas.{no_slot, none_written}
use Rattle.pp_arc.proofs.numbers.Numbers.set_freed_t2.Goals as goal

pub returns-else-slot-gt0-clause-freed : goal.returns-else-slot-gt0-clause-freed
returns-else-slot-gt0-clause-freed c =
    let none : get_or c.args.self.now.slots c.args.page 0 ≡ 0 =
    omega (arith, c.slot-slot.ensures.slot, c.if-slot-gt0.false) in
    let zero : c.args.number ≡ 0 = elim c.requires.numbered [
      | inl e ↦ e
      | inr lt ↦ absurd (omega (
        arith,
        lt,
        no_slot c.args.self.now c.args.self.now.numbers c.args.page c.slot-slot.ensures.slotted.numbers none,
      ))
    ] in
    none_written (freed_t2_of c.args.self.now) c.args.page
    (no_slot c.args.self.now c.args.self.now.freed_t2 c.args.page c.slot-slot.ensures.slotted.freed_t2 none)
    ∙ ap (λ (n : ℕ). set (freed_t2_of c.args.self.now) c.args.page n) (sym zero)
