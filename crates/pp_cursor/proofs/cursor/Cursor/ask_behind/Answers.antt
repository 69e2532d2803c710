use Rattle.std.proofs.Common.{arith}
use Rattle.pp_cursor.proofs.Ahead.{of_step, in_list, asked_behind}
use Rattle.pp_cursor.proofs.Rows.{within, short}
use Rattle.pp_cursor.proofs.cursor.Cursor.ask_behind.Goals as goal

pub overflow_add-at : goal.overflow_add-at
overflow_add-at c =
    let plan = c.args.plan.now in
    let facts = c.body.ensures.facts in
    let (before, (stands, asks)) = c.requires in
    let low = within _ _ plan.body c.args.self.now.place facts.body stands.stands.at.path in
    let size = short _ _ plan.body facts.body in
    omega (arith, c.at.ensures, stands.on, low, size)

pub step-step-requires : goal.step-step-requires
step-step-requires c =
    let (before, (stands, asks)) = c.requires in
    let low =
    in_list c.args.plan.now c.args.self.now.place c.args.self.now.at c.args.action c.body.ensures.facts before stands.stands
    stands.on asks (of_step c.args.action c.in_default.not-Choose) in
    omega (arith, c.at.ensures, low)

pub returns-in-Asks : goal.returns-in-Asks
returns-in-Asks c before s =
    let (first, (stands, asks)) = c.requires in
    asked_behind c.args.plan.now c.args.self.now.place c.args.self.now.at c.args.action c.body.ensures.facts first
    stands.stands stands.on asks (of_step c.args.action c.in_default.not-Choose) c.step-step.result c.in-Asks.ask
    (rw c.at.ensures at c.step-step.ensures.is) c.in-Asks.is before s.stands
