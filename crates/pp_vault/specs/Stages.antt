-- What clauses say of hands.
use Rattle.std.specs.Prelude.{ℕ, Bool, true, false, ◌&&◌, Option, None, Some, IfSome, List, slice_set, ◌≡◌, ◌<◌, length}
use Rattle.pp_vault.specs.declared.tokens.Chair.{Chair}
use Rattle.pp_vault.specs.declared.stage.Stage.{Stage}
use Rattle.pp_vault.specs.declared.stage.Stage.TheVariants.{Idle, In, Out, Back, Leaving}
use Rattle.pp_vault.specs.declared.stage.Hand.{Hand}
use Rattle.pp_vault.specs.Duties.{duty_worker}
use Rattle.pp_vault.specs.Holding.{placed, is_free, all_free, no_guards}

-- The worker whose token it is; none for a flush.
abbrev pub stage_worker : Stage → Option ℕ
stage_worker (Idle chair) = Some chair.worker
stage_worker (In session) = Some session.worker
stage_worker (Out errand) = duty_worker errand.duty
stage_worker (Back returned) = duty_worker returned.duty
stage_worker (Leaving leaver) = Some leaver.worker

-- The hand of an idle worker: its chair, and no guards.
abbrev pub idle_hand : Chair → Hand
idle_hand chair = record { stage = Idle chair; guards = no_guards }

-- Whether the stage is an idle worker's.
abbrev pub is_chair : Stage → Bool
is_chair (Idle chair) = true
is_chair _ = false

-- Whether the hand is an idle worker's, with no guards.
abbrev pub is_idle_hand : Hand → Bool
is_idle_hand hand = is_chair hand.stage && all_free hand.guards

-- Whether the worker, if it is one, has a place, with nothing in it.
abbrev pub is_free_for : List (Option Hand) → Option ℕ → Bool
is_free_for places None = false
is_free_for places (Some w) = is_free places w

-- The places with the hand in its worker's.
abbrev pub put_for : List (Option Hand) → Hand → Option ℕ → List (Option Hand)
put_for places hand None = places
put_for places hand (Some w) = slice_set places w (Some hand)

-- In each place, if anything, there is a hand of its worker.
abbrev pub HandPlaces : List (Option Hand) → Type 0
HandPlaces places = (w : ℕ) → IfSome (placed places w) (λ hand. stage_worker hand.stage ≡ Some w)

-- As many places as workers, and in each the hand of its worker, which is idle and holds nothing.
pub record AllIdle (workers : ℕ) (places : List (Option Hand)) : Type 0 where
  pub long : length places ≡ workers
  pub idle : (w : ℕ) → w < workers → placed places w ≡ Some (idle_hand (record { worker = w }))
