-- What the check leaves to show of Records::frame.
use Rattle.std.proofs.Common.{◌∙◌, arith}
use Rattle.pp_frames.specs.ArraysInside.{arrays_of}
use Rattle.pp_frames.proofs.Tables.{home_read, home_past}
use Rattle.pp_frames.proofs.records.Records.frame.Goals as goal

pub returns-then-page-limit : goal.returns-then-page-limit
returns-then-page-limit c =
    rw (← c.self.view_is)
    (c.frame_at.ensures
    ∙ home_read (arrays_of c.self.inside) c.self.invariant c.args.page c.index.result.now
    (omega (arith, c.if-page-limit.true, c.limit.ensures, c.self.invariant.dirty)) c.index.ensures)

pub returns-else-page-limit : goal.returns-else-page-limit
returns-else-page-limit c =
    rw (← c.self.view_is)
    (home_past (arrays_of c.self.inside) c.self.invariant c.args.page
    (omega (arith, c.if-page-limit.false, c.limit.ensures, c.self.invariant.dirty)))
