use Rattle.std.proofs.Common.{◌∙◌, sym, subst}
use Rattle.pp_core.specs.Parts.{Parts, parts_of}
use Rattle.pp_core.specs.StandsFor.{StandsFor}
use Rattle.pp_core.proofs.PlanTies.{plans_told, taken_small}
use Rattle.pp_core.proofs.machine.Core.plans.Goals as goal

pub returns : goal.returns
returns c = λ s st.
    let f = parts_of c.self.inside.table in
    let here = subst (λ (g : Parts). StandsFor g s) (sym c.self.view_is) st in
    c.plan_count.ensures ∙ plans_told f s here

pub plan_count-requires : goal.plan_count-requires
plan_count-requires c = taken_small (parts_of c.self.inside.table) c.self.invariant
