use Rattle.std.proofs.Common.{map, refl}
use Rattle.pp_judge.specs.Answers.{answer_of_segments}
use Rattle.pp_judge.specs.Judgement.{segments_audited_in}
use Rattle.pp_judge.specs.Steps.{is_want_of_memory}
use Rattle.pp_judge.proofs.Ended.{refused_from}
use Rattle.pp_judge.proofs.contents.segments_audited.Goals as goal

pub returns-in-Err : goal.returns-in-Err
returns-in-Err c =
    refused_from (is_want_of_memory c.in-Err.refusal) answer_of_segments
    (segments_audited_in c.args.files.ended c.args.files.settings.now (map (λ plan. plan.items) c.args.files.plans.now)
    (map (λ file. file.items) c.args.files.files.now))
    c.in-Err.refusal c.from.result refl c.from.ensures c.in-Err.ensures
