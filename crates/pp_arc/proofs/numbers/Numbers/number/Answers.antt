-- What is left to show of Numbers::number: the number of the page is that of its slot.
use Rattle.pp_arc.proofs.SlotLemmas.{number_at}
use Rattle.pp_arc.proofs.numbers.Numbers.number.Goals as goal

pub returns : goal.returns
returns c = record {
  number = number_at c.args.self.now c.args.page c.slot.result c.number_in.result c.slot.ensures.slotted
      c.slot.ensures.slot c.number_in.ensures;
}
