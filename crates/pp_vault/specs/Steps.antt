-- What the core's step does to what a vault keeps.
use Rattle.std.specs.Prelude.{◌≡◌, ℕ, Some, true, false}
use Rattle.pp_model.specs.declared.moves.Move.{Move}
use Rattle.pp_model.specs.declared.reply.Reply.{Reply}
use Rattle.pp_model.specs.declared.reply.Reply.TheVariants.{Latched, Unlatched}
use Rattle.pp_model.specs.Moves.{is_refusal}
use Rattle.pp_core.specs.StandsFor as core
use Rattle.pp_vault.specs.declared.refusal.Refusal.{Refusal}
use Rattle.pp_vault.specs.Parts.{Parts}
use Rattle.pp_vault.specs.Calls.{refusal_in}

-- The core has done the move and answered it so.
pub record Stepped (old new : Parts) (m : Move) (reply : Reply) : Type 0 where
  pub moves : core.Moves old.core m reply new.core
  pub done : is_refusal reply ≡ false
  pub rest : new ≡ record old { core = new.core }

-- The core has refused the move so, and nothing has changed.
pub record Refused (old new : Parts) (m : Move) (refusal : Refusal) : Type 0 where
  pub reply : Reply
  pub moves : core.Moves old.core m reply old.core
  pub refused : refusal_in reply ≡ Some refusal
  pub rest : new ≡ old

-- The same reply is given, which is no refusal.
pub record IsDone (reply given : Reply) : Type 0 where
  pub same : given ≡ reply
  pub done : is_refusal reply ≡ false

-- The reply is this refusal.
pub record IsRefusal (reply : Reply) (refusal : Refusal) : Type 0 where
  pub refuses : is_refusal reply ≡ true
  pub refused : refusal_in reply ≡ Some refusal

-- The mark that a latch or an unlatch is told. (0 for other replies; no call looks there.)
abbrev pub told_mark : Reply → ℕ
told_mark (Latched mark) = mark
told_mark (Unlatched mark) = mark
told_mark _ = 0
