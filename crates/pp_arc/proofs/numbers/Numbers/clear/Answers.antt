-- What is left to show of Numbers::clear: a page without a slot has no number.
use Rattle.std.proofs.Common.{◌≡◌, arith, get_or}
use Rattle.pp_arc.specs.Slots.{numbers_of, freed_t1_of, freed_t2_of}
use Rattle.pp_arc.proofs.SlotLemmas.{no_slot, none_written}
use Rattle.pp_arc.proofs.numbers.Numbers.clear.Goals as goal

pub returns-else-slot-gt0 : goal.returns-else-slot-gt0
returns-else-slot-gt0 c =
    let none : get_or c.args.self.now.slots c.args.page 0 ≡ 0 =
    omega (arith, c.slot-slot.ensures.slot, c.if-slot-gt0.false) in
    record {
      numbers = none_written (numbers_of c.args.self.now) c.args.page
          (no_slot c.args.self.now c.args.self.now.numbers c.args.page c.slot-slot.ensures.slotted.numbers none);
      freed_t1 = none_written (freed_t1_of c.args.self.now) c.args.page
          (no_slot c.args.self.now c.args.self.now.freed_t1 c.args.page c.slot-slot.ensures.slotted.freed_t1 none);
      freed_t2 = none_written (freed_t2_of c.args.self.now) c.args.page
          (no_slot c.args.self.now c.args.self.now.freed_t2 c.args.page c.slot-slot.ensures.slotted.freed_t2 none);
    }
