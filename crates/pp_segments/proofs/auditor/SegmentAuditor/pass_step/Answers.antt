use Rattle.std.proofs.Common.{◌≡◌, true, false, rules}
use Rattle.pp_report.specs.Sameness.{same_told}
use Rattle.pp_segments.specs.declared.auditor.SegmentAuditor.{SegmentAuditor}
use Rattle.pp_segments.proofs.Passing.{stepped_at, told_other, told_same}
use Rattle.pp_segments.proofs.auditor.SegmentAuditor.pass_step.Goals as goal

pub returns-then-not-is_same : goal.returns-then-not-is_same
returns-then-not-is_same c = λ prepared p at.
    let after : SegmentAuditor = record c.args.self.now { core = c.step.new.self } in
    let here = stepped_at prepared c.args.self.now c.step.new.self p c.args.did c.step.result at c.step.ensures.moves in
    let no : same_told c.args.told c.in-Some.due ≡ false = search rules in
    told_other prepared after p c.args.did c.args.told c.in-Some.due c.step.result c.next_line.result
    (c.step.ensures.moves.replies p.state at.stands) c.in-Some.ensures no (c.next_line.ensures prepared _ here)

pub returns : goal.returns
returns c = λ prepared p at.
    let after : SegmentAuditor = record c.args.self.now { core = c.step.new.self } in
    let here = stepped_at prepared c.args.self.now c.step.new.self p c.args.did c.step.result at c.step.ensures.moves in
    let yes_same : same_told c.args.told c.in-Some.due ≡ true = search rules in
    told_same prepared after p c.args.did c.args.told c.in-Some.due c.step.result c.next_line-self.result
    (c.step.ensures.moves.replies p.state at.stands) c.in-Some.ensures yes_same here
    (c.next_line-self.ensures prepared _ here)
