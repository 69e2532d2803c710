-- Which step of a plan's flat list a place stands at.
use Rattle.std.specs.Prelude.{ℕ, zero, suc, ◌+◌, List, [], ◌∷◌}
use Rattle.pp_plan.specs.Tree.{Statement, step, loop, choice, Sequence, skip, andthen, Alternatives, none, either}
use Rattle.pp_plan.specs.Tree.{branch_count}
use Rattle.pp_plan.specs.FlatList.{statement_steps, sequence_steps}
use Rattle.pp_cursor.specs.Left.{sequence_drop, Place, body_at}
use Rattle.pp_cursor.specs.declared.cursor.Entry.{Entry}

-- How many steps the first statements of a body come to, so many of them.
abbrev pub steps_before : ℕ → Sequence → ℕ
steps_before zero b = 0
steps_before (suc n) skip = 0
steps_before (suc n) (andthen s b) = statement_steps s + steps_before n b

-- How many steps of the branches come before the branch of this number.
abbrev pub before_branch : Alternatives → ℕ → ℕ
before_branch none i = 0
before_branch (either b bs) zero = 0
before_branch (either b bs) (suc i) = sequence_steps b + 1 + before_branch bs i

-- How many steps of a statement come before the body that is done inside it.
abbrev pub before_body : Statement → ℕ → ℕ
before_body (step s) i = 0
before_body (loop n b) i = 1
before_body (choice bs) i = branch_count bs + before_branch bs i + 1

-- The same of a body's first statement.
abbrev pub first_before_body : Sequence → ℕ → ℕ
first_before_body skip i = 0
first_before_body (andthen s b) i = before_body s i

-- The number of the step where the innermost body begins.
abbrev pub origin : Sequence → List Entry → ℕ
origin b [] = 0
origin b (e ∷ es) = origin b es + steps_before e.index (body_at b es)
    + first_before_body (sequence_drop e.index (body_at b es)) e.branch

-- The number of the step at a place.
abbrev pub position : Sequence → Place → ℕ
position b p = origin b p.entries + steps_before p.index (body_at b p.entries)

-- A place, and the number of its step.
pub record Spot : Type 0 where
  pub place : Place
  pub at : ℕ
