-- Why a move is refused, told without making it.
use Rattle.std.specs.Prelude.{◌≡◌, Option, None, Some}
use Rattle.pp_model.specs.declared.moves.Move.{Move}
use Rattle.pp_model.specs.declared.reply.Reply.{Reply}
use Rattle.pp_model.specs.declared.reply.Reply.TheVariants.{NotNow, OffPlan}
use Rattle.pp_model.specs.Pool.{State}
use Rattle.pp_model.specs.Moves.{reply_of}
use Rattle.pp_core.specs.Parts.{Parts}
use Rattle.pp_core.specs.StandsFor.{StandsFor}

-- The reply, where it is a refusal.
abbrev pub refusal_by : Reply → Option Reply
refusal_by (NotNow delay) = Some (NotNow delay)
refusal_by (OffPlan cause) = Some (OffPlan cause)
refusal_by _ = None

-- What the move is refused with in the state; none where it is possible.
abbrev pub refusal_to : State → Move → Option Reply
refusal_to s m = refusal_by (reply_of s m)

-- ---- inside the core

-- It is that in each state that the parts stand for.
abbrev pub IsRefusalTo : Parts → Move → Option Reply → Type 0
IsRefusalTo f m told = (s : State) → StandsFor f s → told ≡ refusal_to s m
