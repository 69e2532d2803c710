use Rattle.std.proofs.Common.{◌∙◌, length, sym, ap}
use Rattle.pp_hall.specs.Halls as halls
use Rattle.pp_steps.specs.Bytes.{lies_in}
use Rattle.pp_steps.specs.Parts.{Parts}
use Rattle.pp_steps.proofs.Bodies.{read_in}
use Rattle.pp_steps.proofs.steps.Steps.read.Goals as goal

pub returns-in-Some-clause-ok : goal.returns-in-Some-clause-ok
returns-in-Some-clause-ok c =
    let x : Parts = record {
      hall = c.self.inside.hall.value;
      plans = c.self.inside.plans.items;
      line = c.self.inside.line;
      seats = c.self.inside.seats;
      flushed = c.self.inside.flushed;
      flusher = c.self.inside.flusher;
    } in
    read_in x c.args.self.now c.args.pass c.args.slot c.args.from (length c.args.bytes.now) c.read.new.bytes
    c.in-Some.read c.self.view_is c.in-Some.ensures.some c.in-Some.ensures.bytes
    (ap (λ (h : halls.Parts). lies_in h.seating.vault.page_bytes c.args.from (length c.args.bytes.now)) (sym c.deref.ensures)
    ∙ ap (λ n. lies_in n c.args.from (length c.args.bytes.now)) (sym c.page_bytes.ensures) ∙ sym c.lies_in.ensures
    ∙ c.if-not-lies_in.false)
