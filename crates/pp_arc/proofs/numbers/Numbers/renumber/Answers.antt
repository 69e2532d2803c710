-- What is left to show of Numbers::renumber: the number of the slot is that of its page alone.
use Rattle.std.proofs.Common.{arith}
use Rattle.pp_arc.specs.Slots.{slotted_of}
use Rattle.pp_arc.proofs.SlotLemmas.{Sets, sets_number, IsSlotted-number}
use Rattle.pp_arc.proofs.numbers.Numbers.renumber.Goals as goal

pub index_mut-requires : goal.index_mut-requires
index_mut-requires c = omega (
  arith,
  (sets_number (slotted_of c.self.inside) c.args.self.now c.args.page c.args.slot c.args.number
      c.self.invariant c.self.view_is c.requires.slot c.requires.some).low,
)

pub invariant_of-self : goal.invariant_of-self
invariant_of-self c =
    let sets : Sets (slotted_of c.self.inside) c.args.self.now (slotted_of c.self.inside).numbers
    c.args.self.now.numbers c.args.page c.args.slot c.args.number =
    sets_number (slotted_of c.self.inside) c.args.self.now c.args.page c.args.slot c.args.number c.self.invariant
    c.self.view_is c.requires.slot c.requires.some in
    IsSlotted-number (slotted_of c.self.inside) c.args.slot c.args.number c.self.invariant c.requires.number sets.low
    sets.kept

pub returns-clause-numbers : goal.returns-clause-numbers
returns-clause-numbers c = (sets_number (slotted_of c.self.inside) c.args.self.now c.args.page c.args.slot c.args.number
    c.self.invariant c.self.view_is c.requires.slot c.requires.some).is
