use Rattle.std.proofs.Common.{refl}
use Rattle.pp_judge.specs.Answers.{answer_of_check}
use Rattle.pp_judge.specs.Judgement.{judgement}
use Rattle.pp_judge.specs.Steps.{is_want_of_memory}
use Rattle.pp_judge.proofs.Ended.{refused_from}
use Rattle.pp_judge.proofs.contents.checked.Goals as goal

pub returns-in-Err : goal.returns-in-Err
returns-in-Err c =
    refused_from (is_want_of_memory c.in-Err.refusal) answer_of_check
    (judgement c.args.files.settings.now c.args.files.plan.now c.args.files.certificate.now) c.in-Err.refusal
    c.from.result refl c.from.ensures c.in-Err.ensures
