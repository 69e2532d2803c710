-- Runs: what a list of moves, or of moves, submitted plans and renewals in any order, is answered, and which state it leads
-- to. Refused ones may stand among them; they leave the state.
use Rattle.std.specs.Prelude.{ℕ, ◌+◌, if◌then◌else◌, List, [], ◌∷◌}
use Rattle.pp_cert.specs.Accepted.{Acceptance}
use Rattle.pp_model.specs.declared.moves.Move.{Move}
use Rattle.pp_model.specs.declared.reply.Reply.{Reply}
use Rattle.pp_model.specs.Pool.{State}
use Rattle.pp_model.specs.Moves.{reply_of, next_of, is_possible}
use Rattle.pp_model.specs.Submitting.{after_submit}
use Rattle.pp_model.specs.Renewing.{after_renewal}

-- ---- moves

abbrev pub replies_to : State → List Move → List Reply
replies_to s [] = []
replies_to s (m ∷ ms) = reply_of s m ∷ replies_to (next_of s m) ms

abbrev pub state_after : State → List Move → State
state_after s [] = s
state_after s (m ∷ ms) = state_after (next_of s m) ms

-- How many of the moves are done, and not refused.
abbrev pub count_done : State → List Move → ℕ
count_done s [] = 0
count_done s (m ∷ ms) = (if is_possible s m then 1 else 0) + count_done (next_of s m) ms

-- ---- moves, plans and renewals

-- What can come to a pool: a plan that the checker accepted, a move, or a renewal.
pub data Input : Type 0 where
  plan : Acceptance → Input
  move : Move → Input
  renewal : Input

abbrev pub after_input : State → Input → State
after_input s (plan a) = after_submit s a
after_input s (move m) = next_of s m
after_input s renewal = after_renewal s

abbrev pub run : State → List Input → State
run s [] = s
run s (i ∷ is) = run (after_input s i) is
