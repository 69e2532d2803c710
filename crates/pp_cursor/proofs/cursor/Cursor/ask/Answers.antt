use Rattle.std.proofs.Common.{◌≡◌, length, sym, subst}
use Rattle.std.specs.Prelude.{◌↔◌}
use Rattle.pp_plan.specs.PlanTraces.{IsTraceOf}
use Rattle.pp_cursor.specs.Cursor.{IsAskOf}
use Rattle.pp_plan.specs.declared.action.Ask.TheVariants as ask
use Rattle.pp_cursor.proofs.OneAsk.{ask_is}
use Rattle.pp_cursor.proofs.Standing.{asks_end, answers_named, asks_known}
use Rattle.pp_cursor.proofs.cursor.Cursor.ask.Goals as goal

pub returns-clause-end : goal.returns-clause-end
returns-clause-end c before s =
    subst (λ x. (x ≡ ask.End) ↔ IsTraceOf c.args.plan.now before) (sym c.next_ask.ensures.is)
    (asks_end c.args.plan.now c.args.self.now.place before s.stands)

pub returns-clause-asked : goal.returns-clause-asked
returns-clause-asked c before a s =
    answers_named c.args.plan.now c.args.self.now.place c.next_ask.result before a c.next_ask.ensures.facts
    c.next_ask.ensures.is s.stands

pub returns-clause-within : goal.returns-clause-within
returns-clause-within c =
    subst (λ x. IsAskOf (length c.args.plan.now.slots) (length c.args.plan.now.layout.extents) x)
    (sym c.next_ask.ensures.is) (asks_known c.args.plan.now c.args.self.now.place c.next_ask.ensures.facts)

pub returns-clause-is : goal.returns-clause-is
returns-clause-is c before s =
    let plan = c.args.plan.now in
    let within =
    subst (λ x. IsAskOf (length plan.slots) (length plan.layout.extents) x) (sym c.next_ask.ensures.is)
    (asks_known plan c.args.self.now.place c.next_ask.ensures.facts) in
    ask_is plan before c.next_ask.result c.next_ask.ensures.facts within
    (λ a. answers_named plan c.args.self.now.place c.next_ask.result before a c.next_ask.ensures.facts
    c.next_ask.ensures.is s.stands)
