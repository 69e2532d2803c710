-- What the check leaves to show of Marks::share.
use Rattle.std.proofs.Common.{◌≡◌, ◌+◌, true}
use Rattle.pp_frames.specs.declared.mode.Mode.TheVariants.{S}
use Rattle.pp_frames.specs.Marks.{pins_of, latches_of, is_compatible, with_latch, with_latches}
use Rattle.pp_frames.proofs.Narrow.{with_held, more_is, one_reader_more}
use Rattle.pp_frames.specs.Kept.{Parts}
use Rattle.pp_frames.specs.KeptInside.{parts_of}
use Rattle.pp_frames.proofs.marks.Marks.share.Goals as goal

pub invariant_of-self : goal.invariant_of-self
invariant_of-self c =
    let p : Parts = parts_of c.self.inside in
    let goes : is_compatible S (latches_of p.marks c.args.page) ≡ true = rw (← c.self.view_is) at c.requires.goes in
    let new_is : c.hold.new.self ≡ with_latches p.marks c.args.page (with_latch S (latches_of p.marks c.args.page)) =
    with_held p.marks c.hold.new.self c.args.page (record c.held_placed-now.result { readers = c.held_placed-now.result.readers + 1 })
    (pins_of p.marks c.args.page) (with_latch S (latches_of p.marks c.args.page)) c.hold.ensures c.held_placed-now.ensures.pins
    (more_is p.marks c.args.page c.held_placed-now.result c.held_placed-now.ensures.latches goes) in
    one_reader_more p c.args.page c.hold.new.self c.self.invariant goes
    (rw (← c.self.view_is) at c.requires.spare_pin) new_is

pub returns-clause-sound : goal.returns-clause-sound
returns-clause-sound c =
    let p : Parts = parts_of c.self.inside in
    let goes : is_compatible S (latches_of p.marks c.args.page) ≡ true = rw (← c.self.view_is) at c.requires.goes in
    let new_is : c.hold.new.self ≡ with_latches p.marks c.args.page (with_latch S (latches_of p.marks c.args.page)) =
    with_held p.marks c.hold.new.self c.args.page (record c.held_placed-now.result { readers = c.held_placed-now.result.readers + 1 })
    (pins_of p.marks c.args.page) (with_latch S (latches_of p.marks c.args.page)) c.hold.ensures c.held_placed-now.ensures.pins
    (more_is p.marks c.args.page c.held_placed-now.result c.held_placed-now.ensures.latches goes) in
    (one_reader_more p c.args.page c.hold.new.self c.self.invariant goes
    (rw (← c.self.view_is) at c.requires.spare_pin) new_is).sound
