use Rattle.pp_model.proofs.Alone.{others_sit, all_sit, settings_stay, submit_leaves}
use Rattle.pp_model.proofs.Rest.{renewal_leaves}
use Rattle.pp_model.proofs.laws.moves_leave_others.Goals as goal

pub returns-clause-others : goal.returns-clause-others
returns-clause-others c = others_sit

pub returns-clause-flusher : goal.returns-clause-flusher
returns-clause-flusher c = all_sit

pub returns-clause-settings : goal.returns-clause-settings
returns-clause-settings c = settings_stay

pub returns-clause-submit : goal.returns-clause-submit
returns-clause-submit c = submit_leaves

pub returns-clause-renewal : goal.returns-clause-renewal
returns-clause-renewal c = renewal_leaves
