-- What is left to show of move_into: the four lists are all that moved.
use Rattle.pp_arc.proofs.MoveLemmas.{poured}
use Rattle.pp_arc.proofs.lists.move_into.Goals as goal

pub returns : goal.returns
returns g c = record {
  lists = poured (g.L.Lists.lists c.args.links.now) (g.L.Lists.lists c.pour.new.from)
      (g.L.Lists.lists c.pour-2.new.from) (g.L.Lists.lists c.pour-3.new.from) (g.L.Lists.lists c.args.larger)
      (g.L.Lists.lists c.pour.new.to) (g.L.Lists.lists c.pour-2.new.to) (g.L.Lists.lists c.pour-3.new.to)
      (g.L.Lists.lists c.pour-4.new.to) c.requires.empty c.pour.ensures.left c.pour.ensures.lists
      c.pour-2.ensures.left c.pour-2.ensures.lists c.pour-3.ensures.left c.pour-3.ensures.lists c.pour-4.ensures.lists;
}
