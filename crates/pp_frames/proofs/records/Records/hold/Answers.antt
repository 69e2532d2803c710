-- What the check leaves to show of Records::hold.
use Rattle.std.proofs.Common.{◌-◌, arith}
use Rattle.std.specs.Prelude.{IsSome}
use Rattle.pp_frames.specs.Marks.{frame_of}
use Rattle.pp_frames.specs.Arrays.{Arrays, map_of}
use Rattle.pp_frames.specs.ArraysInside.{arrays_of}
use Rattle.pp_frames.proofs.Tables.{placed_low, home_some, home_low, home_stands, tidy_held, map_held}
use Rattle.pp_frames.proofs.records.Records.hold.Goals as goal

pub index-home-requires : goal.index-home-requires
index-home-requires c =
    let a : Arrays = arrays_of c.self.inside in
    let placed : IsSome (frame_of (map_of a) c.args.page) = rw (← c.self.view_is) at c.requires in
    omega (arith, placed_low a c.args.page c.self.invariant placed, c.self.inside.homes.ok.0)

pub overflow_sub-home : goal.overflow_sub-home
overflow_sub-home c =
    let a : Arrays = arrays_of c.self.inside in
    let placed : IsSome (frame_of (map_of a) c.args.page) = rw (← c.self.view_is) at c.requires in
    home_some a c.args.page c.self.invariant placed c.index-home.result.now c.index-home.ensures

pub index_mut-requires : goal.index_mut-requires
index_mut-requires c =
    let a : Arrays = arrays_of c.self.inside in
    let placed : IsSome (frame_of (map_of a) c.args.page) = rw (← c.self.view_is) at c.requires in
    omega (
      arith,
      home_low a c.args.page c.self.invariant placed c.index-home.result.now c.index-home.ensures,
      c.self.inside.held.ok.0,
    )

pub invariant_of-self : goal.invariant_of-self
invariant_of-self c =
    let a : Arrays = arrays_of c.self.inside in
    let placed : IsSome (frame_of (map_of a) c.args.page) = rw (← c.self.view_is) at c.requires in
    tidy_held a c.args.page (c.index-home.result.now - 1) c.args.to c.self.invariant
    (home_stands a c.args.page c.self.invariant placed c.index-home.result.now c.index-home.ensures)

pub returns : goal.returns
returns c =
    let a : Arrays = arrays_of c.self.inside in
    let placed : IsSome (frame_of (map_of a) c.args.page) = rw (← c.self.view_is) at c.requires in
    rw (← c.self.view_is)
    (map_held a c.args.page (c.index-home.result.now - 1) c.args.to c.self.invariant
    (home_stands a c.args.page c.self.invariant placed c.index-home.result.now c.index-home.ensures))
