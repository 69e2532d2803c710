-- A plan's statements as one flat list of steps.
use Rattle.std.specs.Prelude.{ℕ, ◌+◌, ◌-◌, ◌^◌, min, List, [], ◌∷◌, ◌++◌}
use Rattle.pp_plan.specs.Tree.{fix, unfix, latch, unlatch, gather, scatter, Statement, step, loop, choice}
use Rattle.pp_plan.specs.Tree.{Sequence, skip, andthen, Alternatives, none, either, branch_count}
use Rattle.pp_plan.specs.declared.flat.Next.{Next}
use Rattle.pp_plan.specs.declared.flat.Next.TheVariants.{Enter, Leave, Asks}
use Rattle.pp_plan.specs.declared.flat.FlatStep.{FlatStep}
use Rattle.pp_plan.specs.declared.action.Ask.{Ask}
use Rattle.pp_plan.specs.declared.action.Ask.TheVariants as ask

-- ---- what is asked

-- What a statement asks that makes an action, which a loop doesn't.
abbrev pub statement_ask : Statement → Ask
statement_ask (step (fix s r)) = ask.Fix s r
statement_ask (step (unfix s)) = ask.Unfix s
statement_ask (step (latch s m)) = ask.Latch s m
statement_ask (step (unlatch s)) = ask.Unlatch s
statement_ask (step (gather s r)) = ask.Gather s r
statement_ask (step (scatter s)) = ask.Scatter s
statement_ask (loop n b) = ask.End
statement_ask (choice bs) = ask.Choose (branch_count bs)

-- ---- how many steps

abbrev mutual
  -- A step is one. A loop has two around those of its body, and a choice one for itself, one for where each branch
  -- begins, and one behind each branch.
  pub statement_steps : Statement → ℕ
  statement_steps (step s) = 1
  statement_steps (loop n b) = sequence_steps b + 2
  statement_steps (choice bs) = branch_count bs + alternatives_steps bs + 1

  pub sequence_steps : Sequence → ℕ
  sequence_steps skip = 0
  sequence_steps (andthen s b) = statement_steps s + sequence_steps b

  pub alternatives_steps : Alternatives → ℕ
  alternatives_steps none = 0
  alternatives_steps (either b bs) = sequence_steps b + 1 + alternatives_steps bs

-- ---- the list

-- The greatest distance that is written. No plan is so long.
abbrev pub farthest : ℕ
farthest = 2 ^ 32 - 1

abbrev pub near : ℕ → ℕ
near n = min n farthest

-- A row of the list: what is next there, and a distance in rows.
abbrev pub row : Next → ℕ → FlatStep
row next reach = record { next = next; reach = reach }

-- What is asked where a choice has so many branches. No choice has more than 65,535.
abbrev pub choosing : ℕ → Next
choosing n = Asks (ask.Choose (min n (2 ^ 16 - 1)))

-- Where the branches begin, each counted from its own row.
abbrev pub starts : ℕ → Alternatives → List FlatStep
starts d none = []
starts d (either b bs) = row Leave d ∷ starts (near (d + sequence_steps b)) bs

abbrev mutual
  -- The row of a statement has the number of its steps, and the row behind a body how far it is from that row.
  pub flat_statement : Statement → List FlatStep
  flat_statement (step s) = row (Asks (statement_ask (step s))) 1 ∷ []
  flat_statement (loop n b) =
      row (Enter n) (near (statement_steps (loop n b))) ∷ (flat b ++ row Leave (near (sequence_steps b + 1)) ∷ [])
  flat_statement (choice bs) =
      row (choosing (branch_count bs)) (near (statement_steps (choice bs)))
      ∷ (starts (near (branch_count bs)) bs ++ flat_branches (near (branch_count bs)) bs)

  pub flat : Sequence → List FlatStep
  flat skip = []
  flat (andthen s b) = flat_statement s ++ flat b

  -- The branches of a choice, so far behind its row.
  pub flat_branches : ℕ → Alternatives → List FlatStep
  flat_branches d none = []
  flat_branches d (either b bs) =
      flat b ++ row Leave (near (d + sequence_steps b + 1)) ∷ flat_branches (near (d + sequence_steps b + 1)) bs

-- A plan's body, and behind it the end.
abbrev pub flat_body : Sequence → List FlatStep
flat_body b = flat b ++ row (Asks ask.End) 1 ∷ []
