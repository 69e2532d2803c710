use Rattle.std.proofs.Common.{◌≡◌, None, rules}
use Rattle.pp_model.specs.Budget.{cost_of}
use Rattle.pp_core.specs.Parts.{parts_of}
use Rattle.pp_core.specs.Submits.{submit_fault}
use Rattle.pp_core.proofs.SubmitTies.{needs_less, can_add, takes_prepared}
use Rattle.pp_core.proofs.PlanTies.{taken_small}
use Rattle.pp_core.proofs.table.Table.submit_prepared.Goals as goal

pub submit_fault-requires-clause-need : goal.submit_fault-requires-clause-need
submit_fault-requires-clause-need c = needs_less (parts_of c.args.self.now) c.requires

pub submit_fault-requires-clause-taken : goal.submit_fault-requires-clause-taken
submit_fault-requires-clause-taken c = taken_small (parts_of c.args.self.now) c.requires

pub plan_count-number-requires : goal.plan_count-number-requires
plan_count-number-requires c = taken_small (parts_of c.args.self.now) c.requires

pub enqueue-requires : goal.enqueue-requires
enqueue-requires c =
    let f = parts_of c.args.self.now in
    let a = c.in-Some.accepted.now in
    let none : submit_fault f a ≡ None = search rules in
    (a, can_add f a c.requires none, search rules)

pub returns-clause-ok : goal.returns-clause-ok
returns-clause-ok c =
    let f = parts_of c.args.self.now in
    let a = c.in-Some.accepted.now in
    let none : submit_fault f a ≡ None = search rules in
    let costs : cost_of a ≡ c.cost-cost.result = search rules in
    let kept = c.in-Some.ensures.some in (
      a,
      takes_prepared f (parts_of c.enqueue.new.self) c.args.place c.plan_count-number.result a kept.0
          c.submit_fault.ensures.facts kept.1 none (c.enqueue.ensures a costs) c.plan_count-number.ensures,
    )
