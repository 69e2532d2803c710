-- What the check leaves to show of Marks::set_stamp.
use Rattle.pp_frames.specs.KeptInside.{parts_of}
use Rattle.pp_frames.proofs.Narrow.{stamped_kept}
use Rattle.pp_frames.proofs.marks.Marks.set_stamp.Goals as goal

pub invariant_of-self : goal.invariant_of-self
invariant_of-self c =
    stamped_kept (parts_of c.self.inside) c.args.page c.self.invariant (rw (← c.self.view_is) at c.requires.page)
    c.args.stamp c.set_stamp.new.self c.set_stamp.ensures

pub returns-clause-sound : goal.returns-clause-sound
returns-clause-sound c =
    (stamped_kept (parts_of c.self.inside) c.args.page c.self.invariant (rw (← c.self.view_is) at c.requires.page)
    c.args.stamp c.set_stamp.new.self c.set_stamp.ensures).sound
