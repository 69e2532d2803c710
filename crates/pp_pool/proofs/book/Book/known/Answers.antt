use Rattle.std.proofs.Common.{subst}
use Rattle.pp_pool.specs.Parts.{parts_with}
use Rattle.pp_pool.specs.Books.{MarksAreTold}
use Rattle.pp_pool.proofs.Growing.{marks_told}
use Rattle.pp_pool.proofs.book.Book.known.Goals as goal

pub returns-clause-marks : goal.returns-clause-marks
returns-clause-marks c =
    subst MarksAreTold c.self.view_is
    (marks_told (parts_with c.self.inside.vault c.self.inside.workers c.self.inside.journal c.self.inside.most c.self.inside.flushes c.self.inside.began) c.self.invariant)
