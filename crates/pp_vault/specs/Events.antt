-- What a call of a vault does.
use Rattle.std.specs.Prelude.{◌≡◌, None, Some}
use Rattle.pp_model.specs.declared.moves.Move.{Move}
use Rattle.pp_model.specs.declared.reply.Reply.{Reply}
use Rattle.pp_model.specs.Pool.{State}
use Rattle.pp_vault.specs.declared.refusal.Refusal.{Refusal}
use Rattle.pp_vault.specs.Parts.{Parts}
use Rattle.pp_vault.specs.StandsFor.{StandsFor}
use Rattle.pp_vault.specs.Calls.{Call, refusal_of, after_call, told}

-- The call is refused so, from every state that the parts stand for.
abbrev pub Refuses : Parts → (State → Call) → Refusal → Type 0
Refuses v call refusal = (s : State) → StandsFor v s → refusal_of s (call s) ≡ Some refusal

-- The call is done: it isn't refused, and the new parts stand for the state after it. The plans that are kept stay.
pub record Does (old : Parts) (call : State → Call) (new : Parts) : Type 0 where
  pub allowed : (s : State) → StandsFor old s → refusal_of s (call s) ≡ None
  pub stands : (s : State) → StandsFor old s → StandsFor new (after_call s (call s))
  pub page_bytes : new.page_bytes ≡ old.page_bytes
  pub plans : (s : State) → StandsFor old s → new.core.plans ≡ old.core.plans

-- What the call is answered: it is this move, which is possible, and this is the core's reply.
abbrev pub Tells : Parts → (State → Call) → (Move × Reply) → Type 0
Tells v call done = (s : State) → StandsFor v s → told s (call s) ≡ Some done
