-- What the check leaves to show of Records::set_stamp.
use Rattle.std.proofs.Common.{◌∙◌, ◌<◌, ◌≤◌, ap, arith, set}
use Rattle.pp_frames.specs.Marks.{page_count}
use Rattle.pp_frames.specs.Arrays.{Arrays, map_of}
use Rattle.pp_frames.specs.ArraysInside.{arrays_of}
use Rattle.pp_frames.proofs.Tables.{count_is, map_stamped}
use Rattle.pp_frames.proofs.records.Records.set_stamp.Goals as goal

pub index_mut-requires : goal.index_mut-requires
index_mut-requires c =
    let a : Arrays = arrays_of c.self.inside in
    let lt : c.args.page < page_count (map_of a) = rw (← c.self.view_is) at c.requires in
    omega (arith, lt, count_is a c.self.invariant, c.self.invariant.stamps)

pub insert-requires : goal.insert-requires
insert-requires c =
    let a : Arrays = arrays_of c.self.inside in
    let lt : c.args.page < page_count (map_of a) = rw (← c.self.view_is) at c.requires in
    omega (arith, lt, count_is a c.self.invariant, c.self.invariant.known)

pub returns : goal.returns
returns c =
    let a : Arrays = arrays_of c.self.inside in
    let lt : c.args.page < page_count (map_of a) = rw (← c.self.view_is) at c.requires in
    let over : a.top ≤ c.max-top.result = omega (arith, c.max-top.ensures) in
    let reaches : c.args.stamp ≤ c.max-top.result = omega (arith, c.max-top.ensures) in
    rw (← c.self.view_is)
    (ap (λ k. map_of (record a { stamps = set a.stamps c.args.page c.args.stamp; known = k; top = c.max-top.result }))
    c.insert.ensures
    ∙ map_stamped a c.args.page c.args.stamp c.max-top.result c.self.invariant lt over reaches)
