use Rattle.std.proofs.Common.{◌≡◌, subst, ap, inr, rules}
use Rattle.pp_pool.specs.declared.response.Response.{Response}
use Rattle.pp_core.specs.Submits.{PreparedFails}
use Rattle.pp_hall.specs.Seatings.{Parts, TakesPlan}
use Rattle.pp_hall.proofs.Taking.{may_is, taken_seats, takes_plan, not_refused}
use Rattle.pp_hall.proofs.seating.Seating.take.Goals as goal

pub invariant_of-self : goal.invariant_of-self
invariant_of-self c =
    let x : Parts = record {
      vault = c.self.inside.site.vault;
      frames = c.self.inside.frames;
      peaks = c.self.inside.peaks.items;
      counts = c.self.inside.counts;
    } in
    record {
      seating =
          taken_seats x c.self.invariant.seating c.args.chair c.args.prepared c.in-Ok._id c.in-Ok.ensures.ok.0
          c.submit_prepared.new.self
          (may_is c.args.self.now x c.self.view_is c.may_take.result c.worker.result c.args.chair.worker c.args.prepared
          c.worker.ensures (search rules) c.may_take.ensures)
          c.in-Ok.ensures.ok.1 c.perform.result c.perform.new.self.vault c.perform.ensures.given.0;
      sum = c.self.invariant.sum;
    }

pub returns-in-Ok-clause-takes : goal.returns-in-Ok-clause-takes
returns-in-Ok-clause-takes c =
    let x : Parts = record {
      vault = c.self.inside.site.vault;
      frames = c.self.inside.frames;
      peaks = c.self.inside.peaks.items;
      counts = c.self.inside.counts;
    } in
    λ done.
    subst (λ (p : Parts). TakesPlan p c.args.chair c.args.prepared c.perform.result
    (record x { vault = c.perform.new.self.vault })) c.self.view_is
    (takes_plan x c.self.invariant.seating c.args.chair c.args.prepared c.in-Ok._id c.in-Ok.ensures.ok.0
    c.submit_prepared.new.self
    (may_is c.args.self.now x c.self.view_is c.may_take.result c.worker.result c.args.chair.worker c.args.prepared
    c.worker.ensures (search rules) c.may_take.ensures)
    c.in-Ok.ensures.ok.1 c.perform.result c.perform.new.self.vault c.perform.ensures.given.0)

pub returns-in-Ok-clause-cannot : goal.returns-in-Ok-clause-cannot
returns-in-Ok-clause-cannot c =
    let x : Parts = record {
      vault = c.self.inside.site.vault;
      frames = c.self.inside.frames;
      peaks = c.self.inside.peaks.items;
      counts = c.self.inside.counts;
    } in
    λ refused.
    not_refused x c.self.invariant.seating c.args.chair c.args.prepared c.in-Ok._id c.in-Ok.ensures.ok.0
    c.submit_prepared.new.self
    (may_is c.args.self.now x c.self.view_is c.may_take.result c.worker.result c.args.chair.worker c.args.prepared
    c.worker.ensures (search rules) c.may_take.ensures)
    c.in-Ok.ensures.ok.1 c.perform.result c.perform.new.self.vault c.perform.ensures.given.0 refused

pub returns-in-Ok-clause-unchanged : goal.returns-in-Ok-clause-unchanged
returns-in-Ok-clause-unchanged c =
    let x : Parts = record {
      vault = c.self.inside.site.vault;
      frames = c.self.inside.frames;
      peaks = c.self.inside.peaks.items;
      counts = c.self.inside.counts;
    } in
    λ refused.
    not_refused x c.self.invariant.seating c.args.chair c.args.prepared c.in-Ok._id c.in-Ok.ensures.ok.0
    c.submit_prepared.new.self
    (may_is c.args.self.now x c.self.view_is c.may_take.result c.worker.result c.args.chair.worker c.args.prepared
    c.worker.ensures (search rules) c.may_take.ensures)
    c.in-Ok.ensures.ok.1 c.perform.result c.perform.new.self.vault c.perform.ensures.given.0 refused

pub returns-in-Err-clause-cannot : goal.returns-in-Err-clause-cannot
returns-in-Err-clause-cannot c =
    λ refused. inr (
      ap (λ (r : Response). r.answer) c.refused-in-Err.ensures,
      c.in-Err._error,
      subst (λ (p : Parts). PreparedFails p.vault.core c.args.prepared c.in-Err._error) c.self.view_is
          c.in-Err.ensures.error,
    )
