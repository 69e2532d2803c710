use Rattle.pp_model.proofs.Soundness.{sound}
use Rattle.pp_model.proofs.laws.lists_are_bounded.Goals as goal

pub returns : goal.returns
returns c = record { bounds = λ s h. (sound s h).bounds }
