use Rattle.pp_vault.proofs.SubmitFits.{submits_still_fit}
use Rattle.pp_vault.proofs.RenewFits.{prepares_still_fit, renewals_still_fit}
use Rattle.pp_vault.proofs.StillFits.{still_fits, slot_still_fits, flushing_still_fits}
use Rattle.pp_vault.proofs.laws.hands_still_fit.Goals as goal

pub returns-clause-others : goal.returns-clause-others
returns-clause-others c = still_fits

pub returns-clause-slots : goal.returns-clause-slots
returns-clause-slots c = slot_still_fits

pub returns-clause-flushing : goal.returns-clause-flushing
returns-clause-flushing c = flushing_still_fits

pub returns-clause-submits : goal.returns-clause-submits
returns-clause-submits c = submits_still_fit

pub returns-clause-renewals : goal.returns-clause-renewals
returns-clause-renewals c = renewals_still_fit

pub returns-clause-prepares : goal.returns-clause-prepares
returns-clause-prepares c = prepares_still_fit
