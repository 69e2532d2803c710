use Rattle.pp_report.proofs.LivesLines.{renewal_unsaid}
use Rattle.pp_report.proofs.LivesWhole.{alike, accepted_alike}
use Rattle.pp_report.proofs.laws.one_life_is_audited_alike.Goals as goal

pub returns-clause-alike : goal.returns-clause-alike
returns-clause-alike c = alike

pub returns-clause-accepted : goal.returns-clause-accepted
returns-clause-accepted c = accepted_alike

pub returns-clause-apart : goal.returns-clause-apart
returns-clause-apart c = renewal_unsaid
