-- What a list of moves does to what a core keeps.
use Rattle.std.specs.Prelude.{◌≡◌, ◌+◌, ◌≤◌, List, ◌++◌}
use Rattle.pp_model.specs.declared.moves.Move.{Move}
use Rattle.pp_model.specs.declared.reply.Reply.{Reply}
use Rattle.pp_model.specs.Pool.{State}
use Rattle.pp_model.specs.Runs.{replies_to, state_after, count_done}
use Rattle.pp_core.specs.Parts.{Parts}
use Rattle.pp_core.specs.StandsFor.{StandsFor}

-- From every state that the old parts stand for, the moves lead to the new parts, their replies come behind those that
-- were there, and at most as many of them are done as the bound at the start. The plans that are kept stay.
pub record MovesAll (old : Parts) (moves : List Move) (before : List Reply)
    (new : Parts) (now : List Reply) : Type 0 where
  pub stands : (s : State) → StandsFor old s → StandsFor new (state_after s moves)
  pub replies : (s : State) → StandsFor old s → now ≡ before ++ replies_to s moves
  pub within : (s : State) → StandsFor old s → count_done s moves + new.budget ≤ old.budget
  pub plans : (s : State) → StandsFor old s → new.plans ≡ old.plans
