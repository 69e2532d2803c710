-- A plan's statements as plain trees: what a body says, apart from where it lies in memory.
use Rattle.std.specs.Prelude.{ℕ, suc, ◌+◌, ◌==◌, ◌||◌, Bool, false, max}
use Rattle.pp_plan.specs.declared.mode.Mode.{Mode}

-- A statement that makes one action. Slots and regions are numbers. A bundle is a slot that pins several pages: a gather
-- fixes one page more into it, and a scatter gives the whole bundle back.
pub data Step : Type 0 where
  fix : (slot region : ℕ) → Step
  unfix : (slot : ℕ) → Step
  latch : (slot : ℕ) (mode : Mode) → Step
  unlatch : (slot : ℕ) → Step
  gather : (slot region : ℕ) → Step
  scatter : (slot : ℕ) → Step

mutual
  -- A single step, a number of turns of a body, or a choice among bodies.
  pub data Statement : Type 0 where
    step : Step → Statement
    loop : ℕ → Sequence → Statement
    choice : Alternatives → Statement

  -- A body: statements, one after another.
  pub data Sequence : Type 0 where
    skip : Sequence
    andthen : Statement → Sequence → Sequence

  -- The branches of a choice.
  pub data Alternatives : Type 0 where
    none : Alternatives
    either : Sequence → Alternatives → Alternatives

-- More than the size of each part, so that a walk over a tree ends.
abbrev mutual
  pub statement_size : Statement → ℕ
  statement_size (step s) = 0
  statement_size (loop n b) = sequence_size b + 1
  statement_size (choice bs) = alternatives_size bs + 1

  pub sequence_size : Sequence → ℕ
  sequence_size skip = 0
  sequence_size (andthen s b) = statement_size s + 1 + sequence_size b

  pub alternatives_size : Alternatives → ℕ
  alternatives_size none = 0
  alternatives_size (either b bs) = sequence_size b + 1 + alternatives_size bs

-- How many statements, those of the bodies inside among them.
abbrev mutual
  pub statement_count : Statement → ℕ
  statement_count (step s) = 1
  statement_count (loop n b) = sequence_count b + 1
  statement_count (choice bs) = alternatives_count bs + 1

  pub sequence_count : Sequence → ℕ
  sequence_count skip = 0
  sequence_count (andthen s b) = statement_count s + sequence_count b

  pub alternatives_count : Alternatives → ℕ
  alternatives_count none = 0
  alternatives_count (either b bs) = sequence_count b + alternatives_count bs

-- How deep statements stand inside each other; those of a body without loops and choices have depth 1.
abbrev mutual
  pub statement_depth : Statement → ℕ
  statement_depth (step s) = 1
  statement_depth (loop n b) = suc (sequence_depth b)
  statement_depth (choice bs) = suc (alternatives_depth bs)

  pub sequence_depth : Sequence → ℕ
  sequence_depth skip = 0
  sequence_depth (andthen s b) = max (statement_depth s) (sequence_depth b)

  pub alternatives_depth : Alternatives → ℕ
  alternatives_depth none = 0
  alternatives_depth (either b bs) = max (sequence_depth b) (alternatives_depth bs)

-- Whether the body scatters the slot, itself or in a body inside it.
abbrev pub step_scatters : Step → ℕ → Bool
step_scatters (fix s r) k = false
step_scatters (unfix s) k = false
step_scatters (latch s m) k = false
step_scatters (unlatch s) k = false
step_scatters (gather s r) k = false
step_scatters (scatter s) k = s == k

abbrev mutual
  pub statement_scatters : Statement → ℕ → Bool
  statement_scatters (step s) k = step_scatters s k
  statement_scatters (loop n b) k = scatters b k
  statement_scatters (choice bs) k = branches_scatter bs k

  pub scatters : Sequence → ℕ → Bool
  scatters skip k = false
  scatters (andthen s b) k = statement_scatters s k || scatters b k

  pub branches_scatter : Alternatives → ℕ → Bool
  branches_scatter none k = false
  branches_scatter (either b bs) k = scatters b k || branches_scatter bs k

-- How many branches.
abbrev pub branch_count : Alternatives → ℕ
branch_count none = 0
branch_count (either b bs) = branch_count bs + 1
