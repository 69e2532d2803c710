-- When a wake-up is lost, and when none is.
use Rattle.std.specs.Prelude.{◌≡◌, ◌⊎◌, ℕ, Bool, true, false, not, ◌==◌, ◌&&◌, Option, Some, List}
use Rattle.std.specs.Option.{is_none}
use Rattle.pp_model.specs.declared.moves.Move.TheVariants as move
use Rattle.pp_model.specs.declared.refusals.Delay.TheVariants.{NoRoom}
use Rattle.pp_model.specs.Pool.{State, frame_of}
use Rattle.pp_model.specs.Moves.{reply_of, is_possible}
use Rattle.pp_vault.specs.declared.refusal.Refusal.{Refusal}
use Rattle.pp_vault.specs.declared.refusal.Refusal.TheVariants.{NotNow}
use Rattle.pp_vault.specs.Calls.{refusal_in}
use Rattle.pp_vault.specs.Holding.{placed}
use Rattle.pp_vault.specs.Parts as vault
use Rattle.pp_vault.specs.StandsFor.{StandsFor}
use Rattle.pp_wants.specs.declared.want.Want.{Want}
use Rattle.pp_wants.specs.declared.want.Want.TheVariants.{Take, Fix, Latch}
use Rattle.pp_wants.specs.declared.sleepers.Sleeper.{Sleeper}
use Rattle.pp_wants.specs.Wants.{asked}
use Rattle.pp_wants.specs.Masks.{bell_of}
use Rattle.pp_wants.specs.Sleepers.{untold, told, is_told_anew}

-- Whether a take is refused since the plan that waits first has no room.
abbrev pub lacks_room : Option Refusal → Bool
lacks_room (Some (NotNow NoRoom)) = true
lacks_room _ = false

-- Whether the worker needn't sleep in this state: its move is possible. A take is also done with waiting where no plan waits
-- any more: it is refused otherwise then, and its worker goes home.
abbrev pub may_go : State → (worker : ℕ) → Want → Bool
may_go s worker Take = not (lacks_room (refusal_in (reply_of s (move.Take worker))))
may_go s worker (Fix page) = is_possible s (asked (Fix page) worker)
may_go s worker (Latch page exclusive) = is_possible s (asked (Latch page exclusive) worker)

-- Whether the other want is for what the first one is for, so that it is enough to tell one of the two. Takes are for the
-- plan that waits first. Fixes are for a frame, where neither page has one. A latch X is for its page, which only one can
-- have so. All others are told each.
abbrev pub is_alike : State → (want other : Want) → Bool
is_alike s Take Take = true
is_alike s (Fix page) (Fix other) = is_none (frame_of s page) && is_none (frame_of s other)
is_alike s (Latch page exclusive) (Latch other mode) = exclusive && (page == other)
is_alike s _ _ = false

-- Somebody that was told sleeps for what this want is for. It rises, and is settled after.
pub record IsOnItsWay (s : State) (sleepers : List (Option Sleeper)) (want : Want) : Type 0 where
  pub other : ℕ
  pub awaited : Want
  pub there : placed sleepers other ≡ Some (told awaited)
  pub alike : is_alike s want awaited ≡ true

-- If the worker sleeps untold, it may not go now, or somebody that was told of the same thing is on its way.
abbrev pub SleepsRightly : State → List (Option Sleeper) → (worker : ℕ) → Type 0
SleepsRightly s sleepers worker =
    (want : Want) → placed sleepers worker ≡ Some (untold want)
    → (may_go s worker want ≡ false) ⊎ IsOnItsWay s sleepers want

-- So it is with every worker, in each state that the vault stands for: nobody sleeps untold that may go, unless another
-- that was told of the same thing is on its way.
abbrev pub NoWakeUpIsLost : vault.Parts → List (Option Sleeper) → Type 0
NoWakeUpIsLost v sleepers = (s : State) → StandsFor v s → (worker : ℕ) → SleepsRightly s sleepers worker

-- The worker's wake-up would be lost: it sleeps untold though it may go, and nobody that was told of the same thing is on
-- its way.
pub record IsForgotten (s : State) (sleepers : List (Option Sleeper)) (worker : ℕ) : Type 0 where
  pub want : Want
  pub there : placed sleepers worker ≡ Some (untold want)
  pub possible : may_go s worker want ≡ true
  pub alone : ¬ IsOnItsWay s sleepers want

-- The bell is that of a worker which was told between the two.
pub record IsRungFor (old new : List (Option Sleeper)) (bell : ℕ) : Type 0 where
  pub worker : ℕ
  pub its : bell_of worker ≡ bell
  pub told : is_told_anew old new worker ≡ true
