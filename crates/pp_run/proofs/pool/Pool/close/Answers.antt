use Rattle.std.proofs.Common.{◌∙◌, ap}
use Rattle.pp_model.specs.Pool.{dirty_pages}
use Rattle.pp_run.specs.Rested.{Rested, opening_of}
use Rattle.pp_run.proofs.Rests.{at_begin}
use Rattle.pp_run.proofs.pool.Pool.close.Goals as goal

pub returns : goal.returns
returns c =
    c.dirty-dirty.ensures ∙ (ap dirty_pages (at_begin c.self.inside.book c.self.invariant.journal)
    ∙ ap (λ (p : Rested). dirty_pages (opening_of p)) c.self.view_is)
