-- What the check leaves to show of Marks::is_free.
use Rattle.std.proofs.Common.{◌<◌, ◌∙◌, sym, length, arith}
use Rattle.pp_frames.proofs.marks.Marks.is_free.Goals as goal

pub returns-clause-free : goal.returns-clause-free
returns-clause-free c =
    let within : c.args.frame < length c.self.inside.free =
    omega (arith, c.self.invariant.frames, rw (← c.self.view_is) at c.requires.frame) in
    let says = c.self.invariant.free c.args.frame within in
    rw (← c.self.view_is) (λ is. says.0 (sym c.contains.ensures ∙ is), λ free. c.contains.ensures ∙ says.1 free)
