-- Where one stands in a line, and who before it can be counted once more.
use Rattle.std.specs.Prelude.{◌≡◌, ℕ, ◌<◌, Some, List, [], ◌∷◌, slice_get}
use Rattle.pp_admission.specs.declared.waiting.Waiting.{Waiting}
use Rattle.pp_admission.specs.Queues.{holder}

-- The one that has this ticket stands at this place.
pub record IsPlaceOf (ticket : ℕ) (ws : List Waiting) (place : ℕ) : Type 0 where
  pub one : Waiting
  pub there : slice_get ws place ≡ Some one
  pub holds : holder ticket ws ≡ Some one

-- each one that came before this ticket was overtaken fewer than n times
abbrev pub AreOvertakenBelow : (n ticket : ℕ) → List Waiting → Type 0
AreOvertakenBelow n ticket [] = Unit {0}
AreOvertakenBelow n ticket (w ∷ ws) = (w.ticket < ticket → w.overtaken < n) × AreOvertakenBelow n ticket ws
