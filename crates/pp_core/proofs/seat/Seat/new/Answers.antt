use Rattle.std.proofs.Common.{[], refl}
use Rattle.pp_core.proofs.seat.Seat.new.Goals as goal

pub returns : goal.returns
returns c = record {
  number = refl;
  place = refl;
  cursor = c.new-cursor.ensures;
  ask = c.ask-ask.ensures.is [] c.new-cursor.ensures;
  actions = refl;
  holds = refl;
  slots = refl;
  phase = refl;
}
