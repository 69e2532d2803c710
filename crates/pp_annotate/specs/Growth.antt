-- By how much a plan's statements raise the bound of a bundle, and the bounds at the first place of a loop's body.
use Rattle.std.specs.Prelude.{ℕ, zero, suc, ◌+◌, ◌-◌, ◌*◌, ◌==◌, Bool, min, max, if◌then◌else◌}
use Rattle.pp_settings.specs.Limits.{most_slots}
use Rattle.pp_plan.specs.Tree.{Step, fix, unfix, latch, unlatch, gather, scatter, Statement, step, loop, choice}
use Rattle.pp_plan.specs.Tree.{Sequence, skip, andthen, Alternatives, none, either, scatters}
use Rattle.pp_cert.specs.Notes.{Entries, bound_at, with_bound}

-- ---- growth

-- How many pages the step adds to the bundle.
abbrev pub step_growth : Step → ℕ → ℕ
step_growth (fix s r) k = 0
step_growth (unfix s) k = 0
step_growth (latch s m) k = 0
step_growth (unlatch s) k = 0
step_growth (gather s r) k = if s == k then 1 else 0
step_growth (scatter s) k = 0

abbrev mutual
  -- How many pages the statement adds to a bundle that it nowhere scatters: a loop as many in each turn, a choice as many
  -- as its first branch.
  pub statement_growth : Statement → ℕ → ℕ
  statement_growth (step s) k = step_growth s k
  statement_growth (loop n b) k = n * growth b k
  statement_growth (choice bs) k = first_growth bs k

  pub growth : Sequence → ℕ → ℕ
  growth skip k = 0
  growth (andthen s b) k = statement_growth s k + growth b k

  pub first_growth : Alternatives → ℕ → ℕ
  first_growth none k = 0
  first_growth (either b bs) k = growth b k

-- ---- the gathers of a run

-- How many pages the step gathers.
abbrev pub step_gathers : Step → ℕ
step_gathers (fix s r) = 0
step_gathers (unfix s) = 0
step_gathers (latch s m) = 0
step_gathers (unlatch s) = 0
step_gathers (gather s r) = 1
step_gathers (scatter s) = 0

abbrev mutual
  -- How many pages a run of the statement gathers at most, into all bundles together: a loop as many in each turn, a choice as
  -- many as the branch that gathers most.
  pub statement_gathers : Statement → ℕ
  statement_gathers (step s) = step_gathers s
  statement_gathers (loop n b) = n * sequence_gathers b
  statement_gathers (choice bs) = branches_gather bs

  pub sequence_gathers : Sequence → ℕ
  sequence_gathers skip = 0
  sequence_gathers (andthen s b) = statement_gathers s + sequence_gathers b

  pub branches_gather : Alternatives → ℕ
  branches_gather none = 0
  branches_gather (either b bs) = max (sequence_gathers b) (branches_gather bs)

-- ---- the first place of a loop's body

-- By how much the bundle's bound at the first place of a loop's body is above the one just before the loop. What is noted
-- there is the bound before the last turn, so it is the growth in all turns but one. A bundle that the body scatters has the
-- same bound before each turn.
abbrev pub rise : (turns : ℕ) → Sequence → ℕ → ℕ
rise turns b k = if scatters b k then 0 else (turns - 1) * growth b k

-- The bound `before` after such a rise, counted up to the stop.
abbrev pub risen : (stop before rise : ℕ) → ℕ
risen stop before rise = min (before + rise) stop

-- The note with this bound for the bundle; the same note where that is its bound.
abbrev pub with_rise : (slot bound : ℕ) → Entries → Entries
with_rise s k n = if k == bound_at n s then n else with_bound s k n

-- The note with the bounds of the bundles among so many slots as they are at the first place of the body.
unfoldable pub risen_below : (stop : ℕ) → ℕ → (is_bundle : ℕ → Bool) → (turns : ℕ) → Sequence → Entries → Entries
risen_below stop zero is_bundle turns b n = n
risen_below stop (suc k) is_bundle turns b n =
    if is_bundle k then with_rise k (risen stop (bound_at (risen_below stop k is_bundle turns b n) k) (rise turns b k))
    (risen_below stop k is_bundle turns b n) else risen_below stop k is_bundle turns b n

-- What is noted at the first place of the body of a loop of so many turns, where `n` is noted just before the loop.
unfoldable pub first_note : (stop : ℕ) → (is_bundle : ℕ → Bool) → (turns : ℕ) → Sequence → Entries → Entries
first_note stop is_bundle turns b n = risen_below stop most_slots is_bundle turns b n
