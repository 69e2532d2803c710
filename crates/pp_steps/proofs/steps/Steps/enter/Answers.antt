use Rattle.std.proofs.Common.{rules, ◌∙◌, inl, sym, subst}
use Rattle.pp_hall.specs.Halls as halls
use Rattle.pp_hall.specs.Calls as hall
use Rattle.pp_steps.specs.Lines as lines
use Rattle.pp_steps.specs.Parts.{Parts}
use Rattle.pp_steps.proofs.Entering.{full_for, put_there}
use Rattle.pp_steps.proofs.steps.Steps.enter.Goals as goal

pub returns-in_default-free-clause-error : goal.returns-in_default-free-clause-error
returns-in_default-free-clause-error c = record {
  goes_on = search rules;
  kind = c.in-Some.plan;
  there = sym c.kept.ensures ∙ c.in-Some.is;
  full = inl (subst (λ (p : Parts). lines.HasNoFree p.line.places) c.self.view_is c.in_default-free.ensures.none);
}

pub returns-in-Ok-clause-ok : goal.returns-in-Ok-clause-ok
returns-in-Ok-clause-ok c = record {
  fresh = subst (λ (p : Parts). lines.IsNextPass p.line c.put.result) c.self.view_is c.put.ensures.next;
  kind = c.in-Some.plan;
  there = sym c.kept.ensures ∙ c.in-Some.is;
  hall = search rules;
  line =
      let here =
      put_there c.self.inside.line c.put.new.self c.in-Some-free.place c.put.result
      (record { ticket = c.in-Ok.ticket; plan = c.in-Some.plan }) c.put.ensures.bell c.put.ensures.put in
      let next = c.in-Ok.ensures.ticket in
      search rules;
  waits = search rules;
  rest = search rules;
}

pub returns-in-Err-clause-error : goal.returns-in-Err-clause-error
returns-in-Err-clause-error c =
    let of_hall =
    subst (λ (h : halls.Parts). hall.EnterFails h c.in-Some.plan.peak c.in-Err.field-0) c.deref_mut.ensures.value
    c.in-Err.ensures.error in
    full_for c.args.self.now c.args.plan c.in-Some.plan c.in-Err.field-0 (sym c.kept.ensures ∙ c.in-Some.is) (search rules)
    (subst (λ (p : Parts). hall.EnterFails p.hall c.in-Some.plan.peak c.in-Err.field-0) c.self.view_is of_hall)
