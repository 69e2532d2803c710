use Rattle.pp_plan.proofs.Accepting.{is_found, has_layout}
use Rattle.pp_plan.proofs.Only.{is_only}
use Rattle.pp_plan.proofs.First.{refused_first, accepted_clear}
use Rattle.pp_plan.proofs.plan.Plan.from_text.Goals as goal

pub returns-clause-found : goal.returns-clause-found
returns-clause-found c =
    is_found c.args.settings.now c.args.text.now c.read_plan.result c.read_plan.ensures.settings
    c.read_plan.ensures.gives

pub returns-clause-only : goal.returns-clause-only
returns-clause-only c = λ t. is_only c.args.settings.now c.args.text.now c.read_plan.result t c.read_plan.ensures.gives

pub returns-clause-first : goal.returns-clause-first
returns-clause-first c = refused_first c.args.settings.now c.args.text.now c.read_plan.result c.read_plan.ensures.gives

pub returns-clause-faultless : goal.returns-clause-faultless
returns-clause-faultless c =
    accepted_clear c.args.settings.now c.args.text.now c.read_plan.result c.read_plan.ensures.gives

pub returns-clause-layout : goal.returns-clause-layout
returns-clause-layout c =
    has_layout c.args.settings.now c.args.text.now c.read_plan.result c.read_plan.ensures.settings
    c.read_plan.ensures.gives
