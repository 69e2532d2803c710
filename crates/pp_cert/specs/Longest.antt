-- The length of the longest trace of a plan.
use Rattle.std.specs.Prelude.{◌≡◌, ℕ, ◌+◌, ◌*◌, ◌≤◌, max, List, length}
use Rattle.pp_settings.specs.Layout.{Geometry}
use Rattle.pp_plan.specs.Tree.{Statement, step, loop, choice, Sequence, skip, andthen, Alternatives, none, either}
use Rattle.pp_plan.specs.Traces.{IsTrace}
use Rattle.pp_plan.specs.declared.action.Action.{Action}

abbrev mutual
  -- One action for a step; all turns of a loop; for a choice the action that chooses and the longest of its branches.
  pub statement_longest : Statement → ℕ
  statement_longest (step s) = 1
  statement_longest (loop n b) = n * sequence_longest b
  statement_longest (choice bs) = 1 + alternatives_longest bs

  pub sequence_longest : Sequence → ℕ
  sequence_longest skip = 0
  sequence_longest (andthen s b) = statement_longest s + sequence_longest b

  pub alternatives_longest : Alternatives → ℕ
  alternatives_longest none = 0
  alternatives_longest (either b bs) = max (sequence_longest b) (alternatives_longest bs)

-- The number is the greatest length of a trace of the body: no trace is longer, and one is as long.
pub record IsLongest (g : Geometry) (b : Sequence) (n : ℕ) : Type 0 where
  pub bound : (t : List Action) → IsTrace g b t → length t ≤ n
  pub reached : (t : List Action) × (length t ≡ n) × IsTrace g b t
