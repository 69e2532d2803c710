use Rattle.std.proofs.Common.{ap, inl, refl, sym}
use Rattle.pp_judge.specs.Answers.{answer_of_segments}
use Rattle.pp_judge.specs.Judgement.{segments_audited_in}
use Rattle.pp_judge.specs.Steps.{is_want_of_memory}
use Rattle.pp_judge.proofs.Ended.{refused_from}
use Rattle.pp_judge.proofs.segments.segments_exit.Goals as goal

pub returns-in-Ok : goal.returns-in-Ok
returns-in-Ok c = λ settings plans files h. inl (sym (ap answer_of_segments (c.in-Ok.ensures settings plans files h)))

pub returns-in-Err : goal.returns-in-Err
returns-in-Err c = λ settings plans files h.
    refused_from (is_want_of_memory c.in-Err.refusal) answer_of_segments
    (segments_audited_in c.args.ended settings plans files) c.in-Err.refusal c.from.result refl c.from.ensures
    (c.in-Err.ensures settings plans files h)
