-- What is left to show of Numbers::let_go: the slot is free, and no page has it.
use Rattle.std.proofs.Common.{sym, subst, ap, ◌∙◌, arith, set, List, ℕ}
use Rattle.pp_arc.specs.Slots.{Slotted, IsSlotted, slotted_of, by_page}
use Rattle.pp_arc.proofs.SlotLemmas.{lets_go, let_go}
use Rattle.pp_arc.proofs.numbers.Numbers.let_go.Goals as goal

pub index_mut-requires : goal.index_mut-requires
index_mut-requires c = omega (
  arith,
  (lets_go (slotted_of c.self.inside) c.args.self.now c.args.page c.args.slot c.self.invariant
      c.self.view_is c.requires.slot c.requires.some).low,
)

pub index_mut-requires-2 : goal.index_mut-requires-2
index_mut-requires-2 c = omega (
  arith,
  (lets_go (slotted_of c.self.inside) c.args.self.now c.args.page c.args.slot c.self.invariant
      c.self.view_is c.requires.slot c.requires.some).below,
)

pub index_mut-requires-3 : goal.index_mut-requires-3
index_mut-requires-3 c = omega (
  arith,
  (lets_go (slotted_of c.self.inside) c.args.self.now c.args.page c.args.slot c.self.invariant
      c.self.view_is c.requires.slot c.requires.some).room,
)

pub overflow_add-self : goal.overflow_add-self
overflow_add-self c = omega (
  arith,
  (lets_go (slotted_of c.self.inside) c.args.self.now c.args.page c.args.slot c.self.invariant
      c.self.view_is c.requires.slot c.requires.some).room,
  c.self.inside.free.ok.0,
)

pub invariant_of-self : goal.invariant_of-self
invariant_of-self c =
    subst (λ (xs : List ℕ). IsSlotted (record (let_go (slotted_of c.self.inside) c.args.page c.args.slot)
    { freed_t1 = xs; freed_t2 = c.set-2.new.self })) (sym c.set.ensures)
    (subst (λ (xs : List ℕ). IsSlotted (record (let_go (slotted_of c.self.inside) c.args.page c.args.slot)
    { freed_t2 = xs })) (sym c.set-2.ensures)
    (lets_go (slotted_of c.self.inside) c.args.self.now c.args.page c.args.slot c.self.invariant
    c.self.view_is c.requires.slot c.requires.some).slotted)

pub returns-clause-numbers : goal.returns-clause-numbers
returns-clause-numbers c = (lets_go (slotted_of c.self.inside) c.args.self.now c.args.page c.args.slot c.self.invariant
    c.self.view_is c.requires.slot c.requires.some).numbers

pub returns-clause-freed_t1 : goal.returns-clause-freed_t1
returns-clause-freed_t1 c =
    ap (by_page (set c.self.inside.slots.items c.args.page 0)) c.set.ensures
    ∙ (lets_go (slotted_of c.self.inside) c.args.self.now c.args.page c.args.slot c.self.invariant
    c.self.view_is c.requires.slot c.requires.some).t1

pub returns-clause-freed_t2 : goal.returns-clause-freed_t2
returns-clause-freed_t2 c =
    ap (by_page (set c.self.inside.slots.items c.args.page 0)) c.set-2.ensures
    ∙ (lets_go (slotted_of c.self.inside) c.args.self.now c.args.page c.args.slot c.self.invariant
    c.self.view_is c.requires.slot c.requires.some).t2
