-- What the check leaves to show of Marks::unshare.
use Rattle.std.proofs.Common.{◌≡◌, ◌-◌, true}
use Rattle.pp_frames.specs.declared.mode.Mode.TheVariants.{S}
use Rattle.pp_frames.specs.Marks.{pins_of, latches_of, has_latch, without_latch, with_latches}
use Rattle.pp_frames.proofs.Narrow.{with_held, less_is, one_reader_less}
use Rattle.pp_frames.specs.Kept.{Parts}
use Rattle.pp_frames.specs.KeptInside.{parts_of}
use Rattle.pp_frames.proofs.marks.Marks.unshare.Goals as goal

pub invariant_of-self : goal.invariant_of-self
invariant_of-self c =
    let p : Parts = parts_of c.self.inside in
    let has : has_latch S (latches_of p.marks c.args.page) ≡ true = rw (← c.self.view_is) at c.requires.latched in
    let new_is : c.hold.new.self ≡ with_latches p.marks c.args.page (without_latch (latches_of p.marks c.args.page)) =
    with_held p.marks c.hold.new.self c.args.page (record c.held_placed-now.result { readers = c.held_placed-now.result.readers - 1 })
    (pins_of p.marks c.args.page) (without_latch (latches_of p.marks c.args.page)) c.hold.ensures
    c.held_placed-now.ensures.pins
    (less_is p.marks c.args.page c.held_placed-now.result c.held_placed-now.ensures.latches has) in
    one_reader_less p c.args.page c.hold.new.self c.self.invariant has new_is

pub returns-clause-sound : goal.returns-clause-sound
returns-clause-sound c =
    let p : Parts = parts_of c.self.inside in
    let has : has_latch S (latches_of p.marks c.args.page) ≡ true = rw (← c.self.view_is) at c.requires.latched in
    let new_is : c.hold.new.self ≡ with_latches p.marks c.args.page (without_latch (latches_of p.marks c.args.page)) =
    with_held p.marks c.hold.new.self c.args.page (record c.held_placed-now.result { readers = c.held_placed-now.result.readers - 1 })
    (pins_of p.marks c.args.page) (without_latch (latches_of p.marks c.args.page)) c.hold.ensures
    c.held_placed-now.ensures.pins
    (less_is p.marks c.args.page c.held_placed-now.result c.held_placed-now.ensures.latches has) in
    (one_reader_less p c.args.page c.hold.new.self c.self.invariant has new_is).sound
