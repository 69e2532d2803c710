-- What is left to show of Directory::freed.
use Rattle.std.proofs.Common.{subst}
use Rattle.pp_arc.specs.FourLists.{FourLists}
use Rattle.pp_arc.proofs.SearchLemmas.{Keeps}
use Rattle.pp_arc.proofs.directory.Directory.freed.Goals as goal

pub returns-clause-knows : goal.returns-clause-knows
returns-clause-knows g c =
    subst (λ (w : FourLists). Keeps w w c.args.search.now c.freed.new.self c.args.page) c.self.view_is
    c.freed.ensures.knows
