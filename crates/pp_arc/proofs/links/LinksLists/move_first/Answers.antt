-- What is left to show of Links::move_first: the list has room still.
use Rattle.std.proofs.Common.{arith}
use Rattle.pp_arc.specs.FourLists.{list_of}
use Rattle.pp_arc.proofs.PageLemmas.{length-without}
use Rattle.pp_arc.proofs.ListLemmas.{list_of-forget}
use Rattle.pp_arc.proofs.links.LinksLists.move_first.Goals as goal

pub put_first-requires-clause-short : goal.put_first-requires-clause-short
put_first-requires-clause-short c =
    rw (c.take_out_below.ensures.lists, list_of-forget c.args.self.now c.args.list c.args.page)
    (omega (arith, length-without (list_of c.args.self.now c.args.list) c.args.page, c.requires.short))

pub put_first-requires-clause-room : goal.put_first-requires-clause-room
put_first-requires-clause-room c = rw c.take_out_below.ensures.lists c.requires.room
