use Rattle.pp_contents.proofs.Agreement.{step_agrees, answer_agrees}
use Rattle.pp_contents.proofs.AgreementFlushes.{empty_agree, flushes_keep, flush_answers_keep, submits_keep, renewals_keep}
use Rattle.pp_contents.proofs.ContentKept.{call_content, call_image, answer_content, answer_image}
use Rattle.pp_contents.proofs.ContentWriters.{writers_set_contents, contents_are_seen, loaded_are_told}
use Rattle.pp_contents.proofs.laws.contents_are_kept.Goals as goal

pub returns-clause-empty : goal.returns-clause-empty
returns-clause-empty c = empty_agree

pub returns-clause-calls : goal.returns-clause-calls
returns-clause-calls c = λ old new s hands after told w hand left m reply before there moves back said later agrees.
    record {
      stay = call_content old new s hands after told w hand left m reply before there back later agrees moves said;
      agrees =
          step_agrees old new s hands after told w hand left m reply before there moves back said later
          (call_image old new s hands after told w hand left m reply before there back later agrees moves said) agrees;
    }

pub returns-clause-answers : goal.returns-clause-answers
returns-clause-answers c =
    λ old new s hands after told w hand left errand given answer m reply before there out gives moves back said later
    agrees. (
      answer_content old new s hands after told w hand left m reply before there back later agrees errand given answer out
          gives moves said,
      answer_agrees old new s hands after told w hand left errand given answer m reply before there out gives moves back said
          later
          (answer_image old new s hands after told w hand left m reply before there back later agrees errand given answer out
          gives moves said)
          agrees,
    )

pub returns-clause-flushes : goal.returns-clause-flushes
returns-clause-flushes c = flushes_keep

pub returns-clause-flush_answers : goal.returns-clause-flush_answers
returns-clause-flush_answers c = flush_answers_keep

pub returns-clause-submits : goal.returns-clause-submits
returns-clause-submits c = submits_keep

pub returns-clause-renewals : goal.returns-clause-renewals
returns-clause-renewals c = renewals_keep

pub returns-clause-writers : goal.returns-clause-writers
returns-clause-writers c = writers_set_contents

pub returns-clause-seen : goal.returns-clause-seen
returns-clause-seen c = contents_are_seen

pub returns-clause-loaded : goal.returns-clause-loaded
returns-clause-loaded c = loaded_are_told
