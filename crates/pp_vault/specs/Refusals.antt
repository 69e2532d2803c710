-- The number and the name of a refusal: the core's, and a stranger's those of a move that has no place here.
use Rattle.std.specs.Prelude.{ℕ, List, codes}
use Rattle.pp_model.specs.Refusals.{delay_row, cause_row}
use Rattle.pp_vault.specs.declared.refusal.Refusal.{Refusal}
use Rattle.pp_vault.specs.declared.refusal.Refusal.TheVariants.{NotNow, OffPlan, Stranger}

abbrev pub refusal_number : Refusal → ℕ
refusal_number (NotNow delay) = (delay_row delay).number
refusal_number (OffPlan cause) = (cause_row cause).number
refusal_number Stranger = 62

abbrev pub refusal_name : Refusal → List ℕ
refusal_name (NotNow delay) = (delay_row delay).name
refusal_name (OffPlan cause) = (cause_row cause).name
refusal_name Stranger = codes "OffPlan"
