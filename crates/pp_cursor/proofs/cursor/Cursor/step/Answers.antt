use Rattle.std.proofs.Common.{◌∙◌, arith}
use Rattle.pp_cursor.proofs.Rows.{within, next_there}
use Rattle.pp_cursor.proofs.cursor.Cursor.step.Goals as goal

pub step-requires : goal.step-requires
step-requires c =
    let low = within _ _ c.args.plan.now.body c.args.self.now.place c.body.ensures.facts.body c.requires.path in
    omega (arith, c.at.ensures, c.requires.on, low)

pub returns-clause-is : goal.returns-clause-is
returns-clause-is c =
    next_there _ _ c.args.plan.now.body c.args.self.now.place c.at.result c.step.result c.body.ensures.facts.body
    c.requires.path (c.at.ensures ∙ c.requires.on) c.step.ensures.is
