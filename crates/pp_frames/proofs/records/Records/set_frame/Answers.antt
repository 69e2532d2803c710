-- What the check leaves to show of Records::set_frame.
use Rattle.std.proofs.Common.{◌<◌, arith}
use Rattle.pp_frames.specs.Marks.{page_count}
use Rattle.pp_frames.specs.Arrays.{Arrays, map_of}
use Rattle.pp_frames.specs.ArraysInside.{arrays_of}
use Rattle.pp_frames.proofs.Tables.{count_is, home_fits, tidy_housed, map_housed}
use Rattle.pp_frames.proofs.records.Records.set_frame.Goals as goal

pub home_for-requires : goal.home_for-requires
home_for-requires c =
    let a : Arrays = arrays_of c.self.inside in
    home_fits a c.args.frame c.self.invariant (rw (← c.self.view_is) at c.requires.free)

pub index_mut-home-requires : goal.index_mut-home-requires
index_mut-home-requires c =
    let a : Arrays = arrays_of c.self.inside in
    let lt : c.args.page < page_count (map_of a) = rw (← c.self.view_is) at c.requires.page in
    omega (arith, lt, count_is a c.self.invariant)

pub invariant_of-self : goal.invariant_of-self
invariant_of-self c =
    tidy_housed (arrays_of c.self.inside) c.args.page c.home_for.result c.args.frame c.self.invariant
    (rw (← c.self.view_is) at c.requires.page) (rw (← c.self.view_is) at c.requires.unpinned)
    (rw (← c.self.view_is) at c.requires.unlatched) (rw (← c.self.view_is) at c.requires.free) c.home_for.ensures

pub returns : goal.returns
returns c =
    rw (← c.self.view_is)
    (map_housed (arrays_of c.self.inside) c.args.page c.home_for.result c.args.frame c.self.invariant
    (rw (← c.self.view_is) at c.requires.page) (rw (← c.self.view_is) at c.requires.unpinned)
    (rw (← c.self.view_is) at c.requires.unlatched) (rw (← c.self.view_is) at c.requires.free) c.home_for.ensures)
