-- What the check leaves to show of Records::is_dirty.
use Rattle.std.proofs.Common.{◌∙◌, sym}
use Rattle.pp_frames.specs.ArraysInside.{arrays_of}
use Rattle.pp_frames.proofs.Tables.{dirty_is}
use Rattle.pp_frames.proofs.records.Records.is_dirty.Goals as goal

pub returns : goal.returns
returns c =
    rw (← c.self.view_is)
    (c.contains.ensures ∙ sym (dirty_is (arrays_of c.self.inside) c.self.invariant c.args.page))
