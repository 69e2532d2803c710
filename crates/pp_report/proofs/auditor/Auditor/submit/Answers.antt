use Rattle.std.proofs.Common.{◌≡◌, ◌∙◌, ◌∷◌, [], ◌++◌, length, rules, ap}
use Rattle.pp_report.specs.declared.auditor.Auditor.{Auditor}
use Rattle.pp_report.proofs.Submitted.{taken, refused}
use Rattle.pp_report.proofs.auditor.Auditor.submit.Goals as goal

pub returns-in-Err : goal.returns-in-Err
returns-in-Err c = λ p at.
    let was = c.args.self.now in
    let n = c.args.number in
    let a = c.in_ok-next.next in
    let now : Auditor = record { core = c.submit.new.self; waiting = c.pop.new.self } in
    let left : Auditor = record { core = c.submit.new.self; waiting = c.push_reserved.new.self } in
    let same : n ≡ c.plans.result = search rules in
    let next : n ≡ length p.state.plans = same ∙ c.plans.ensures p.state at.stands in
    let back : c.in-Err.plan ≡ a = c.in-Err.ensures.back in
    refused was now n a c.in_ok-next.ensures.items p at next left c.in-Err.field-0-1
    c.in-Err.ensures.error c.in-Err.ensures.unchanged
    (c.push_reserved.ensures.items ∙ ap (λ x. c.pop.new.self.items ++ x ∷ []) back)

pub returns-in-Ok : goal.returns-in-Ok
returns-in-Ok c = λ p at.
    let was = c.args.self.now in
    let n = c.args.number in
    let now : Auditor = record { core = c.submit.new.self; waiting = c.pop.new.self } in
    let same : n ≡ c.plans.result = search rules in
    let next : n ≡ length p.state.plans = same ∙ c.plans.ensures p.state at.stands in
    taken was now n c.in_ok-next.next c.in_ok-next.ensures.items p at next c.submit.new.self c.in-Ok.field-0 c.in-Ok.ensures.ok
