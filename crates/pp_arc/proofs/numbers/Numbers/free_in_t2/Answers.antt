-- What is left to show of Numbers::free_in_t2: what the slot has is its page's alone.
use Rattle.pp_arc.specs.Slots.{slotted_of}
use Rattle.std.proofs.Common.{sym, subst, ◌∙◌, ap, List, ℕ}
use Rattle.pp_arc.specs.Slots.{IsSlotted, by_page}
use Rattle.pp_arc.proofs.SlotLemmas.{Sets, sets_t2, IsSlotted-t2, with_freed_t2}
use Rattle.pp_arc.proofs.numbers.Numbers.free_in_t2.Goals as goal

pub invariant_of-self : goal.invariant_of-self
invariant_of-self c = subst (λ (xs : List ℕ). IsSlotted (with_freed_t2 (slotted_of c.self.inside) xs)) (sym
    c.set.ensures)
    (IsSlotted-t2 (slotted_of c.self.inside) _ c.self.invariant
    (sets_t2 (slotted_of c.self.inside) c.args.self.now c.args.page c.args.slot c.args.number
    c.self.invariant c.self.view_is c.requires.slot c.requires.some).kept)

pub returns-clause-freed : goal.returns-clause-freed
returns-clause-freed c = ap (by_page c.self.inside.slots.items) c.set.ensures
    ∙ (sets_t2 (slotted_of c.self.inside) c.args.self.now c.args.page c.args.slot c.args.number
    c.self.invariant c.self.view_is c.requires.slot c.requires.some).is
