-- What is left to show of Frames::page.
use Rattle.std.proofs.Common.{subst}
use Rattle.pp_cache.specs.Frames.{IsOneToOne}
use Rattle.pp_cache.specs.KeptInside.{parts_of}
use Rattle.pp_cache.proofs.FrameLemmas.{one_to_one}
use Rattle.pp_cache.proofs.frames.Frames.page.Goals as goal

pub returns-then-key-len-clause-one_to_one : goal.returns-then-key-len-clause-one_to_one
returns-then-key-len-clause-one_to_one c =
    subst IsOneToOne c.self.view_is (one_to_one (parts_of c.self.inside) c.self.invariant)

pub returns-else-key-len-clause-one_to_one : goal.returns-else-key-len-clause-one_to_one
returns-else-key-len-clause-one_to_one c =
    subst IsOneToOne c.self.view_is (one_to_one (parts_of c.self.inside) c.self.invariant)
