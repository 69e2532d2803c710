-- What the check leaves to show of Marks::latch.
use Rattle.std.proofs.Common.{◌≡◌, ◌∙◌, ◌≤◌, set, ap, arith, refl}
use Rattle.std.specs.Prelude.{IsSome}
use Rattle.pp_frames.specs.Marks.{marks_of, pins_of, frame_of, latch_count, with_latches, is_flushable}
use Rattle.pp_frames.specs.Arrays.{latches_at}
use Rattle.pp_frames.proofs.Steps.{placed_below, flushes}
use Rattle.pp_frames.proofs.Narrow.{with_held, latched}
use Rattle.pp_frames.specs.Kept.{Parts}
use Rattle.pp_frames.specs.KeptInside.{parts_of}
use Rattle.pp_frames.proofs.marks.Marks.latch.Goals as goal

pub invariant_of-self : goal.invariant_of-self
invariant_of-self c =
    let p : Parts = parts_of c.self.inside in
    let placed : IsSome (frame_of p.marks c.args.page) = rw (← c.self.view_is) at c.requires.placed in
    let as_many : c.args.to.pins ≡ pins_of p.marks c.args.page = rw (← c.self.view_is) at c.requires.pins in
    let fit : latch_count (latches_at c.args.to) ≤ pins_of p.marks c.args.page =
    omega (arith, c.requires.pinned, as_many) in
    let new_is : c.hold.new.self ≡ with_latches p.marks c.args.page (latches_at c.args.to) =
    with_held p.marks c.hold.new.self c.args.page c.args.to (pins_of p.marks c.args.page) (latches_at c.args.to)
    c.hold.ensures as_many refl in
    let set_is : c.keep.new.set ≡ set p.flushable c.args.page
    (is_flushable (record (marks_of p.marks c.args.page) { latches = latches_at c.args.to })) =
    c.keep.ensures
    ∙ ap (set p.flushable c.args.page)
    (c.is_flushable.ensures
    ∙ flushes p.marks c.hold.new.self c.args.page
    (record (marks_of p.marks c.args.page) { latches = latches_at c.args.to })
    (placed_below p.marks c.args.page placed) new_is) in
    latched p c.args.page (latches_at c.args.to) c.self.invariant placed fit c.hold.new.self c.keep.new.set new_is
    set_is

pub returns-clause-sound : goal.returns-clause-sound
returns-clause-sound c =
    let p : Parts = parts_of c.self.inside in
    let placed : IsSome (frame_of p.marks c.args.page) = rw (← c.self.view_is) at c.requires.placed in
    let as_many : c.args.to.pins ≡ pins_of p.marks c.args.page = rw (← c.self.view_is) at c.requires.pins in
    let fit : latch_count (latches_at c.args.to) ≤ pins_of p.marks c.args.page =
    omega (arith, c.requires.pinned, as_many) in
    let new_is : c.hold.new.self ≡ with_latches p.marks c.args.page (latches_at c.args.to) =
    with_held p.marks c.hold.new.self c.args.page c.args.to (pins_of p.marks c.args.page) (latches_at c.args.to)
    c.hold.ensures as_many refl in
    let set_is : c.keep.new.set ≡ set p.flushable c.args.page
    (is_flushable (record (marks_of p.marks c.args.page) { latches = latches_at c.args.to })) =
    c.keep.ensures
    ∙ ap (set p.flushable c.args.page)
    (c.is_flushable.ensures
    ∙ flushes p.marks c.hold.new.self c.args.page
    (record (marks_of p.marks c.args.page) { latches = latches_at c.args.to })
    (placed_below p.marks c.args.page placed) new_is) in
    (latched p c.args.page (latches_at c.args.to) c.self.invariant placed fit c.hold.new.self c.keep.new.set new_is
    set_is).sound
