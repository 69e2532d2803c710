-- Which trees a plan may have.
use Rattle.std.specs.Prelude.{◌≡◌, ◌⊎◌, ℕ, ◌<◌, ◌≤◌, ◌==◌, ◌||◌, Bool, true, false}
use Rattle.pp_settings.specs.Limits.{most_statements, most_depth}
use Rattle.pp_plan.specs.Limits.{most_turns, most_branches}
use Rattle.pp_plan.specs.Tree.{Step, fix, unfix, latch, unlatch, gather, scatter, Statement, step, loop, choice}
use Rattle.pp_plan.specs.Tree.{Sequence, skip, andthen}
use Rattle.pp_plan.specs.Tree.{Alternatives, none, either, sequence_count, sequence_depth, branch_count}

-- The body has a statement.
abbrev pub IsSome : Sequence → Type 0
IsSome skip = ⊥
IsSome (andthen s b) = Unit {0}

-- The step's slot is one of so many, and its region too.
abbrev pub IsStep : (slots regions : ℕ) → Step → Type 0
IsStep slots regions (fix s r) = (s < slots) × (r < regions)
IsStep slots regions (unfix s) = s < slots
IsStep slots regions (latch s m) = s < slots
IsStep slots regions (unlatch s) = s < slots
IsStep slots regions (gather s r) = (s < slots) × (r < regions)
IsStep slots regions (scatter s) = s < slots

abbrev mutual
  -- A loop has 1 to 65,535 turns of a body with a statement; a choice has 1 to 16 branches, which may be empty.
  pub IsStatement : (slots regions : ℕ) → Statement → Type 0
  IsStatement slots regions (step s) = IsStep slots regions s
  IsStatement slots regions (loop n b) = (1 ≤ n) × (n ≤ most_turns) × IsSome b × IsSequence slots regions b
  IsStatement slots regions (choice bs) =
      (1 ≤ branch_count bs) × (branch_count bs ≤ most_branches) × AreAlternatives slots regions bs

  pub IsSequence : (slots regions : ℕ) → Sequence → Type 0
  IsSequence slots regions skip = Unit {0}
  IsSequence slots regions (andthen s b) = IsStatement slots regions s × IsSequence slots regions b

  pub AreAlternatives : (slots regions : ℕ) → Alternatives → Type 0
  AreAlternatives slots regions none = Unit {0}
  AreAlternatives slots regions (either b bs) = IsSequence slots regions b × AreAlternatives slots regions bs

-- The slot of a step.
abbrev pub step_slot : Step → ℕ
step_slot (fix k r) = k
step_slot (unfix k) = k
step_slot (latch k m) = k
step_slot (unlatch k) = k
step_slot (gather k r) = k
step_slot (scatter k) = k

abbrev mutual
  -- The statement is a step of the slot, or has one inside it.
  pub IsUsedBy : Statement → ℕ → Type 0
  IsUsedBy (step s) k = step_slot s ≡ k
  IsUsedBy (loop n b) k = IsUsed b k
  IsUsedBy (choice bs) k = IsUsedInBranch bs k

  -- The body has a step of the slot.
  pub IsUsed : Sequence → ℕ → Type 0
  IsUsed skip k = ⊥
  IsUsed (andthen s b) k = IsUsedBy s k ⊎ IsUsed b k

  -- Some branch has a step of the slot.
  pub IsUsedInBranch : Alternatives → ℕ → Type 0
  IsUsedInBranch none k = ⊥
  IsUsedInBranch (either b bs) k = IsUsed b k ⊎ IsUsedInBranch bs k

-- The step uses the slot as a bundle: it gathers into it or scatters it.
abbrev pub step_uses_bundle : Step → ℕ → Bool
step_uses_bundle (fix s r) k = false
step_uses_bundle (unfix s) k = false
step_uses_bundle (latch s m) k = false
step_uses_bundle (unlatch s) k = false
step_uses_bundle (gather s r) k = s == k
step_uses_bundle (scatter s) k = s == k

-- The step uses the slot as a plain one, which holds one page at most: it fixes into it, or unfixes, latches or unlatches
-- its page.
abbrev pub step_uses_plain : Step → ℕ → Bool
step_uses_plain (fix s r) k = s == k
step_uses_plain (unfix s) k = s == k
step_uses_plain (latch s m) k = s == k
step_uses_plain (unlatch s) k = s == k
step_uses_plain (gather s r) k = false
step_uses_plain (scatter s) k = false

abbrev mutual
  -- Some step of the statement uses the slot as a bundle.
  pub statement_uses_bundle : Statement → ℕ → Bool
  statement_uses_bundle (step s) k = step_uses_bundle s k
  statement_uses_bundle (loop n b) k = uses_bundle b k
  statement_uses_bundle (choice bs) k = branches_use_bundle bs k

  -- The same of a body, and of branches.
  pub uses_bundle : Sequence → ℕ → Bool
  uses_bundle skip k = false
  uses_bundle (andthen s b) k = statement_uses_bundle s k || uses_bundle b k

  pub branches_use_bundle : Alternatives → ℕ → Bool
  branches_use_bundle none k = false
  branches_use_bundle (either b bs) k = uses_bundle b k || branches_use_bundle bs k

abbrev mutual
  -- Some step of the statement uses the slot as a plain one.
  pub statement_uses_plain : Statement → ℕ → Bool
  statement_uses_plain (step s) k = step_uses_plain s k
  statement_uses_plain (loop n b) k = uses_plain b k
  statement_uses_plain (choice bs) k = branches_use_plain bs k

  -- The same of a body, and of branches.
  pub uses_plain : Sequence → ℕ → Bool
  uses_plain skip k = false
  uses_plain (andthen s b) k = statement_uses_plain s k || uses_plain b k

  pub branches_use_plain : Alternatives → ℕ → Bool
  branches_use_plain none k = false
  branches_use_plain (either b bs) k = uses_plain b k || branches_use_plain bs k

-- No slot is used as a bundle and as a plain one.
abbrev pub IsUnmixed : Sequence → Type 0
IsUnmixed b = (k : ℕ) → uses_bundle b k ≡ true → uses_plain b k ≡ false

-- No slot is used as a bundle.
abbrev pub HasNoBundle : Sequence → Type 0
HasNoBundle b = (k : ℕ) → uses_bundle b k ≡ false

-- A plan has at most 4,096 statements, at most 16 inside each other.
pub record IsBody (slots regions : ℕ) (b : Sequence) : Type 0 where
  pub parts : IsSequence slots regions b
  pub count : sequence_count b ≤ most_statements
  pub depth : sequence_depth b ≤ most_depth
