use Rattle.std.proofs.Common.{◌≡◌, ◌∙◌, None, false, length, ap, rules}
use Rattle.pp_model.specs.Budget.{cost_of}
use Rattle.pp_core.specs.Parts.{Parts, parts_of}
use Rattle.pp_core.specs.Submits.{submit_fault, with_waiting, with_kept}
use Rattle.pp_core.proofs.SubmitTies.{needs_less, can_add_kept, takes_in, bounded_by}
use Rattle.pp_core.proofs.PlanTies.{taken_small}
use Rattle.pp_core.proofs.table.Table.submit.Goals as goal

pub submit_fault-requires-clause-need : goal.submit_fault-requires-clause-need
submit_fault-requires-clause-need c = needs_less (parts_of c.args.self.now) c.requires

pub submit_fault-requires-clause-taken : goal.submit_fault-requires-clause-taken
submit_fault-requires-clause-taken c = taken_small (parts_of c.args.self.now) c.requires

pub enqueue-requires : goal.enqueue-requires
enqueue-requires c =
    let f = parts_of c.args.self.now in
    let none : submit_fault f c.args.accepted ≡ None = search rules in (
      c.args.accepted,
      can_add_kept f (parts_of c.keep.new.self) c.args.accepted c.requires none c.keep.ensures,
      search rules,
    )

pub returns-clause-ok : goal.returns-clause-ok
returns-clause-ok c =
    let f = parts_of c.args.self.now in
    let none : submit_fault f c.args.accepted ≡ None = search rules in
    let costs : cost_of c.args.accepted ≡ c.cost-cost.result = search rules in
    let last : c.len-place.result ≡ length f.plans = search rules in
    let off : c.is_endless.result ≡ false = search rules in
    takes_in f (parts_of c.enqueue.new.self) c.args.accepted c.plan_count-number.result
    (bounded_by f.span c.is_endless.result off c.is_endless.ensures) c.submit_fault.ensures.facts none
    (c.enqueue.ensures c.args.accepted costs
    ∙ ap (λ (z : Parts). with_waiting z c.len-place.result c.args.accepted) c.keep.ensures
    ∙ ap (λ n. with_waiting (with_kept f c.args.accepted) n c.args.accepted) last)
    c.plan_count-number.ensures
