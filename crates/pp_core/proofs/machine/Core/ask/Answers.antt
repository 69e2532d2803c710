use Rattle.std.proofs.Common.{sym, subst}
use Rattle.pp_core.specs.Parts.{Parts, parts_of}
use Rattle.pp_core.specs.StandsFor.{StandsFor}
use Rattle.pp_core.proofs.QueryTies.{ask_told, none_told}
use Rattle.pp_core.proofs.machine.Core.ask.Goals as goal

pub returns-in-Ok : goal.returns-in-Ok
returns-in-Ok c = λ s st.
    let f = parts_of c.self.inside.table in
    let here = subst (λ (g : Parts). StandsFor g s) (sym c.self.view_is) st in
    ask_told f s c.args.worker c.in-Ok.ask here c.in-Ok.ensures.asks

pub returns-in-Err : goal.returns-in-Err
returns-in-Err c = λ s st.
    let f = parts_of c.self.inside.table in
    let here = subst (λ (g : Parts). StandsFor g s) (sym c.self.view_is) st in
    none_told f s c.args.worker c.in-Err.field-0 here c.in-Err.ensures.cause
