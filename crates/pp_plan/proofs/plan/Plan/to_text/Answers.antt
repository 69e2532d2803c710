use Rattle.std.proofs.Common.{string_bytes}
use Rattle.serde_json.specs.View.{view}
use Rattle.pp_plan.proofs.Spelled.{keeps_rules, reads_as}
use Rattle.pp_plan.proofs.Written.{text_is}
use Rattle.pp_plan.proofs.plan.Plan.to_text.Goals as goal

pub returns-clause-text : goal.returns-clause-text
returns-clause-text c =
    let plan = c.in_ok-value.ensures.facts in
    text_is c.args.settings.now c.args.self.now c.layout.ensures.settings plan
    (keeps_rules c.args.settings.now c.args.self.now plan c.requires) (view c.in_ok-value.value)
    (string_bytes c.in_ok-to_string.field-0) c.in_ok-value.ensures.value c.in_ok-to_string.ensures.text

pub returns-clause-reads_back : goal.returns-clause-reads_back
returns-clause-reads_back c =
    reads_as c.args.settings.now c.args.self.now c.layout.ensures.settings c.in_ok-value.ensures.facts c.requires
    (view c.in_ok-value.value) (string_bytes c.in_ok-to_string.field-0)
    c.in_ok-value.ensures.value c.in_ok-to_string.ensures.reads_back
