-- What the check leaves to show of Records::set_dirty.
use Rattle.std.proofs.Common.{◌∙◌, ◌<◌, ap, arith}
use Rattle.pp_frames.specs.Marks.{page_count}
use Rattle.pp_frames.specs.Arrays.{Arrays, map_of}
use Rattle.pp_frames.specs.ArraysInside.{arrays_of}
use Rattle.pp_frames.proofs.Tables.{count_is, map_dirtied}
use Rattle.pp_frames.proofs.records.Records.set_dirty.Goals as goal

pub put-requires : goal.put-requires
put-requires c =
    let a : Arrays = arrays_of c.self.inside in
    let lt : c.args.page < page_count (map_of a) = rw (← c.self.view_is) at c.requires in
    omega (arith, lt, count_is a c.self.invariant, c.self.invariant.dirty)

pub returns : goal.returns
returns c =
    let a : Arrays = arrays_of c.self.inside in
    let lt : c.args.page < page_count (map_of a) = rw (← c.self.view_is) at c.requires in
    rw (← c.self.view_is)
    (ap (λ d. map_of (record a { dirty = d })) c.put.ensures ∙ map_dirtied a c.args.page c.args.is c.self.invariant lt)
