use Rattle.std.proofs.Common.{◌≡◌, ◌∙◌, Err, length, rules, sym, ap, subst}
use Rattle.std.specs.Prelude.{slice_get}
use Rattle.pp_segments.specs.declared.error.SegmentError.TheVariants.{NotPrepared}
use Rattle.pp_segments.specs.Auditors.{Passes}
use Rattle.pp_segments.proofs.Passing.{named_some, named_none, submit_named, submit_unnamed}
use Rattle.pp_segments.proofs.auditor.SegmentAuditor.pass_submit.Goals as goal

pub returns-in-Some : goal.returns-in-Some
returns-in-Some c = λ prepared p at.
    let same : c.args.plan ≡ c.plans.result = search rules in
    let next : c.args.plan ≡ length p.state.plans = same ∙ c.plans.ensures p.state at.stands in
    let (a, there, is) =
    named_some c.in-Some.place c.args.name (slice_get prepared c.args.name) (c.in-Some.ensures prepared p at) in
    subst (λ r. Passes prepared c.submit.new.self r c.submit.result)
    (sym (submit_named prepared p c.args.plan c.args.name a next there))
    (c.submit.ensures prepared p a at (ap (slice_get prepared) is ∙ there))

pub returns-in-None : goal.returns-in-None
returns-in-None c = λ prepared p at.
    let same : c.args.plan ≡ c.plans.result = search rules in
    let next : c.args.plan ≡ length p.state.plans = same ∙ c.plans.ensures p.state at.stands in
    let none = named_none c.args.name (slice_get prepared c.args.name) (c.in-None.ensures prepared p at) in
    subst (λ r. Passes prepared c.args.self.now r (Err (NotPrepared c.next_line.result)))
    (sym (submit_unnamed prepared p c.args.plan c.args.name next none))
    (ap NotPrepared (c.next_line.ensures prepared p at))
