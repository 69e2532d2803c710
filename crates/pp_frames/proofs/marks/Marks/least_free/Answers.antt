-- What the check leaves to show of Marks::least_free.
use Rattle.std.proofs.Common.{◌∙◌, ◌≡◌}
use Rattle.pp_frames.specs.Marks.{least_free}
use Rattle.pp_frames.specs.KeptInside.{parts_of}
use Rattle.pp_frames.proofs.Whole.{least_free_is, no_free, none_free, least_is_free}
use Rattle.pp_frames.proofs.marks.Marks.least_free.Goals as goal

pub returns-clause-exact : goal.returns-clause-exact
returns-clause-exact c =
    rw (← c.self.view_is) (c.least_from.ensures ∙ least_free_is (parts_of c.self.inside) c.self.invariant)

pub returns-clause-none : goal.returns-clause-none
returns-clause-none c =
    let exact : c.least_from.result ≡ least_free c.args.self.now =
    rw (← c.self.view_is) (c.least_from.ensures ∙ least_free_is (parts_of c.self.inside) c.self.invariant) in
    (no_free c.args.self.now c.least_from.result exact, none_free c.args.self.now c.least_from.result exact)

pub returns-clause-least : goal.returns-clause-least
returns-clause-least c =
    let exact : c.least_from.result ≡ least_free c.args.self.now =
    rw (← c.self.view_is) (c.least_from.ensures ∙ least_free_is (parts_of c.self.inside) c.self.invariant) in
    least_is_free c.args.self.now c.least_from.result exact
