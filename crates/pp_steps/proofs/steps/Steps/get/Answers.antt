use Rattle.std.proofs.Common.{◌∙◌, length, refl, sym, ap, subst}
use Rattle.pp_hall.specs.Halls as halls
use Rattle.pp_steps.specs.Bytes.{lies_in}
use Rattle.pp_steps.specs.Parts.{Parts, IsSteps}
use Rattle.pp_steps.proofs.AtOnce.{HasBegun, begun_steps, get_begun}
use Rattle.pp_steps.proofs.steps.Steps.get.Goals as goal

pub invariant_of-self : goal.invariant_of-self
invariant_of-self c =
    let x : Parts = record {
      hall = c.self.inside.hall.value;
      plans = c.self.inside.plans.items;
      line = c.self.inside.line;
      seats = c.self.inside.seats;
      flushed = c.self.inside.flushed;
      flusher = c.self.inside.flusher;
    } in
    let b : HasBegun x.seats c.args.pass x.hall c.args.page c.args.from c.in-Some.field-0 c.begin_reading-begun.new.bytes
    c.begin_reading-begun.new.hall.value c.begin_reading-begun.new.self = c.in-Some.ensures.some in
    subst (λ places. IsSteps (record x { hall = c.begin_reading-begun.new.hall.value; seats = places })) (sym b.4)
    (begun_steps x c.args.pass b.0 b.2 c.begin_reading-begun.new.hall.value c.args.page c.args.from
    c.begin_reading-begun.new.bytes c.in-Some.field-0 c.self.invariant b.1 b.3)

pub returns-in-Some-clause-is : goal.returns-in-Some-clause-is
returns-in-Some-clause-is c =
    let x : Parts = record {
      hall = c.self.inside.hall.value;
      plans = c.self.inside.plans.items;
      line = c.self.inside.line;
      seats = c.self.inside.seats;
      flushed = c.self.inside.flushed;
      flusher = c.self.inside.flusher;
    } in
    get_begun x c.args.self.now c.args.pass c.args.page c.args.from c.args.bytes.now c.begin_reading-begun.new.bytes
    c.in-Some.field-0 c.begin_reading-begun.new.hall.value c.begin_reading-begun.new.self _ c.rings.result _ c.self.view_is
    c.in-Some.ensures.some
    (ap (λ (h : halls.Parts). lies_in h.seating.vault.page_bytes c.args.from (length c.args.bytes.now)) (sym c.deref.ensures)
    ∙ ap (λ n. lies_in n c.args.from (length c.args.bytes.now)) (sym c.page_bytes.ensures) ∙ sym c.lies_in.ensures
    ∙ c.if-not-lies_in.false) refl c.rings.ensures refl
