use Rattle.std.proofs.Common.{◌∙◌, sym, subst}
use Rattle.pp_core.specs.Parts.{Parts, parts_of}
use Rattle.pp_core.specs.StandsFor.{StandsFor, IsKept}
use Rattle.pp_core.proofs.QueryTies.{few_seats, gathered_told}
use Rattle.pp_core.proofs.machine.Core.gathered.Goals as goal

pub gathered-requires : goal.gathered-requires
gathered-requires c =
    few_seats (parts_of c.self.inside.table) (subst IsKept (sym c.self.view_is) c.known.ensures.kept)

pub returns : goal.returns
returns c = λ s st.
    let f = parts_of c.self.inside.table in
    let here = subst (λ (g : Parts). StandsFor g s) (sym c.self.view_is) st in
    c.gathered.ensures ∙ gathered_told f s here c.args.worker c.args.slot
