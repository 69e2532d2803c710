use Rattle.pp_model.proofs.Shapes.{reply_fits}
use Rattle.pp_model.proofs.laws.replies_fit.Goals as goal

pub returns : goal.returns
returns c = record { fit = reply_fits }
