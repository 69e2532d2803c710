use Rattle.std.proofs.Common.{◌∙◌, refl, sym, subst}
use Rattle.pp_plan.specs.declared.action.Action.TheVariants as action
use Rattle.pp_cursor.specs.Cursor.{NamesAction}
use Rattle.pp_core.specs.Draining.{host_of}
use Rattle.pp_core.specs.Parts.{parts_of}
use Rattle.pp_core.specs.StandsFor.{Asks}
use Rattle.pp_core.proofs.DrainTies.{asked_action, some_region, page_action, page_decided, some_branch}
use Rattle.pp_core.proofs.table.Table.do_asked.Goals as goal

pub unreachable-requires : goal.unreachable-requires
unreachable-requires g c =
    some_region (parts_of c.args.self.now) c.args.worker c.args.ask c.in-Fix.region c.requires.kept c.requires.asks
    c.in-Fix.is (sym c.extent.ensures ∙ c.in-None.is)

pub branch-decide-requires : goal.branch-decide-requires
branch-decide-requires g c =
    let f = parts_of c.args.self.now in
    some_branch f c.args.worker c.in-Choose.branches c.requires.kept
    (subst (Asks f c.args.worker) c.in-Choose.is c.requires.asks)

pub returns-in-Some-clause-possible : goal.returns-in-Some-clause-possible
returns-in-Some-clause-possible g c =
    page_action (parts_of c.args.self.now) c.args.worker c.args.ask c.in-Fix.region c.page.result c.in-Some.extent
    c.requires.open c.requires.asks c.in-Fix.is (sym c.extent.ensures ∙ c.in-Some.is) c.page.ensures.from
    c.page.ensures.below

pub returns-in-Latch-clause-possible : goal.returns-in-Latch-clause-possible
returns-in-Latch-clause-possible g c =
    let f = parts_of c.args.self.now in
    let a = action.Latch c.in-Latch.slot c.in-Latch.mode in
    asked_action f c.args.worker c.args.ask a c.requires.open c.requires.asks
    (subst (λ x. NamesAction f.layout x a) (sym c.in-Latch.is) (refl, refl))

pub returns-in-Some-clause-decided : goal.returns-in-Some-clause-decided
returns-in-Some-clause-decided g c =
    let d = g.D.Decide in
    page_decided (host_of d.picks d.chooses d.reads d.writes d.flushes) (parts_of c.args.self.now) c.args.worker
    c.args.ask c.in-Fix.region c.page.result c.in-Some.extent c.args.decide.now c.page.new.self c.requires.asks
    c.in-Fix.is (sym c.extent.ensures ∙ c.in-Some.is) c.page.ensures.picked
