use Rattle.pp_judge.proofs.Segmented.{one_more, stops}
use Rattle.pp_judge.proofs.segments.pass_segments.Goals as goal

pub returns-in-Ok-clause-passed : goal.returns-in-Ok-clause-passed
returns-in-Ok-clause-passed c = λ settings plans files h.
    one_more settings plans files c.args.text.now c.args.auditor.now c.pass_segment.new.self c.in-Ok.field-0
    c.in-Ok.ensures.passes h

pub returns-in-Err-clause-error : goal.returns-in-Err-clause-error
returns-in-Err-clause-error c = λ settings plans files h ended more.
    stops settings plans files c.args.text.now c.args.auditor.now c.pass_segment.new.self c.in-Err.error
    c.in-Err.ensures.passes h ended more
