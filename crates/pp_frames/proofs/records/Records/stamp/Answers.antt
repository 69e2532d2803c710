-- What the check leaves to show of Records::stamp.
use Rattle.std.proofs.Common.{◌∙◌, sym}
use Rattle.pp_frames.specs.ArraysInside.{arrays_of}
use Rattle.pp_frames.proofs.Tables.{stamp_read, stamp_unknown}
use Rattle.pp_frames.proofs.records.Records.stamp.Goals as goal

pub returns-then-contains : goal.returns-then-contains
returns-then-contains c =
    rw (← c.self.view_is)
    (stamp_read (arrays_of c.self.inside) c.self.invariant c.args.page c.index.result.now
    (sym c.contains.ensures ∙ c.if-contains.true) c.index.ensures)

pub returns-else-contains : goal.returns-else-contains
returns-else-contains c =
    rw (← c.self.view_is)
    (stamp_unknown (arrays_of c.self.inside) c.self.invariant c.args.page
    (sym c.contains.ensures ∙ c.if-contains.false))
