-- What the check leaves to show of Records::may_have_reached.
use Rattle.std.proofs.lemmas.Bool.{leb-false}
use Rattle.pp_frames.specs.ArraysInside.{arrays_of}
use Rattle.pp_frames.proofs.Tables.{none_reached}
use Rattle.pp_frames.proofs.records.Records.may_have_reached.Goals as goal

pub returns : goal.returns
returns c =
    rw (← c.self.view_is) (λ over page.
    none_reached (arrays_of c.self.inside) c.self.invariant c.args.limit
    (leb-false c.args.limit c.self.inside.top over) page)
