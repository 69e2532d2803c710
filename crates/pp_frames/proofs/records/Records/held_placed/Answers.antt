-- What the check leaves to show of Records::held_placed.
use Rattle.std.proofs.Common.{◌∙◌, ap, sym, arith}
use Rattle.std.specs.Prelude.{IsSome}
use Rattle.pp_frames.specs.declared.held.Held.{Held}
use Rattle.pp_frames.specs.Marks.{frame_of}
use Rattle.pp_frames.specs.Arrays.{Arrays, map_of, latches_at}
use Rattle.pp_frames.specs.ArraysInside.{arrays_of}
use Rattle.pp_frames.proofs.Tables.{placed_low, home_some, home_low, held_there, pins_are, latches_are}
use Rattle.pp_frames.proofs.records.Records.held_placed.Goals as goal

pub index-home-requires : goal.index-home-requires
index-home-requires c =
    let a : Arrays = arrays_of c.self.inside in
    let placed : IsSome (frame_of (map_of a) c.args.page) = rw (← c.self.view_is) at c.requires in
    omega (arith, placed_low a c.args.page c.self.invariant placed, c.self.inside.homes.ok.0)

pub overflow_sub-home : goal.overflow_sub-home
overflow_sub-home c =
    let a : Arrays = arrays_of c.self.inside in
    let placed : IsSome (frame_of (map_of a) c.args.page) = rw (← c.self.view_is) at c.requires in
    home_some a c.args.page c.self.invariant placed c.index-home.result.now c.index-home.ensures

pub index-requires : goal.index-requires
index-requires c =
    let a : Arrays = arrays_of c.self.inside in
    let placed : IsSome (frame_of (map_of a) c.args.page) = rw (← c.self.view_is) at c.requires in
    omega (
      arith,
      home_low a c.args.page c.self.invariant placed c.index-home.result.now c.index-home.ensures,
      c.self.inside.held.ok.0,
    )

pub returns-clause-pins : goal.returns-clause-pins
returns-clause-pins c =
    let a : Arrays = arrays_of c.self.inside in
    let placed : IsSome (frame_of (map_of a) c.args.page) = rw (← c.self.view_is) at c.requires in
    rw (← c.self.view_is)
    (ap (λ (h : Held). h.pins)
    (held_there a c.args.page c.self.invariant placed c.index-home.result.now c.index.result.now c.index-home.ensures
    c.index.ensures)
    ∙ sym (pins_are a c.self.invariant c.args.page))

pub returns-clause-latches : goal.returns-clause-latches
returns-clause-latches c =
    let a : Arrays = arrays_of c.self.inside in
    let placed : IsSome (frame_of (map_of a) c.args.page) = rw (← c.self.view_is) at c.requires in
    rw (← c.self.view_is)
    (ap latches_at
    (held_there a c.args.page c.self.invariant placed c.index-home.result.now c.index.result.now c.index-home.ensures
    c.index.ensures)
    ∙ sym (latches_are a c.self.invariant c.args.page))
