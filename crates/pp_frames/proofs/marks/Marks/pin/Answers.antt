-- What the check leaves to show of Marks::pin.
use Rattle.std.proofs.Common.{◌≡◌, ◌+◌, ap}
use Rattle.pp_frames.specs.Marks.{pins_of, latches_of, with_pins}
use Rattle.pp_frames.proofs.Narrow.{with_held, one_pin_more}
use Rattle.pp_frames.specs.Kept.{Parts}
use Rattle.pp_frames.specs.KeptInside.{parts_of}
use Rattle.pp_frames.proofs.marks.Marks.pin.Goals as goal

pub invariant_of-self : goal.invariant_of-self
invariant_of-self c =
    let p : Parts = parts_of c.self.inside in
    let pins : c.held_placed-now.result.pins + 1 ≡ pins_of p.marks c.args.page + 1 = ap (λ n. n + 1) c.held_placed-now.ensures.pins in
    let new_is : c.hold.new.self ≡ with_pins p.marks c.args.page (pins_of p.marks c.args.page + 1) =
    with_held p.marks c.hold.new.self c.args.page (record c.held_placed-now.result { pins = c.held_placed-now.result.pins + 1 })
    (pins_of p.marks c.args.page + 1) (latches_of p.marks c.args.page) c.hold.ensures pins c.held_placed-now.ensures.latches in
    one_pin_more p c.args.page c.hold.new.self c.self.invariant (rw (← c.self.view_is) at c.requires.placed)
    (rw (← c.self.view_is) at c.requires.room) new_is

pub returns-clause-sound : goal.returns-clause-sound
returns-clause-sound c =
    let p : Parts = parts_of c.self.inside in
    let pins : c.held_placed-now.result.pins + 1 ≡ pins_of p.marks c.args.page + 1 = ap (λ n. n + 1) c.held_placed-now.ensures.pins in
    let new_is : c.hold.new.self ≡ with_pins p.marks c.args.page (pins_of p.marks c.args.page + 1) =
    with_held p.marks c.hold.new.self c.args.page (record c.held_placed-now.result { pins = c.held_placed-now.result.pins + 1 })
    (pins_of p.marks c.args.page + 1) (latches_of p.marks c.args.page) c.hold.ensures pins c.held_placed-now.ensures.latches in
    (one_pin_more p c.args.page c.hold.new.self c.self.invariant (rw (← c.self.view_is) at c.requires.placed)
    (rw (← c.self.view_is) at c.requires.room) new_is).sound
