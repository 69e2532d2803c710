-- What holds of every book.
use Rattle.std.specs.Prelude.{◌≡◌, ℕ, ◌+◌, ◌≤◌, max, List, [], ◌∷◌, length}
use Rattle.pp_cert.specs.Accepted.{Acceptance}
use Rattle.pp_model.specs.Pool.{known_mark}
use Rattle.pp_model.specs.Budget.{cost_of, bound}
use Rattle.pp_model.specs.Journals.{IsTrueFrom}
use Rattle.pp_model.specs.JournalMarks.{mark_after}
use Rattle.pp_model.specs.Reached.{IsReached}
use Rattle.pp_vault.specs.StandsFor.{StandsFor}
use Rattle.pp_vault.specs.Headline.{Headline}
use Rattle.pp_pool.specs.Parts.{Parts, plans_of, opening_of, state_of}

-- The greatest of a number and of these plans' costs; and of the costs alone, zero where there is no plan.
abbrev pub greatest_from : ℕ → List Acceptance → ℕ
greatest_from n [] = n
greatest_from n (a ∷ rest) = greatest_from (max n (cost_of a)) rest

abbrev pub greatest_cost : List Acceptance → ℕ
greatest_cost plans = greatest_from 0 plans

-- The opening state of its life is reached: it is a new pool's, or a life before has led to it. The journal is true from
-- there on, and the vault stands for the state that it leads to. There is memory for every event that can still come before a
-- plan is submitted.
pub record IsBook (b : Parts) : Type 0 where
  pub opened : IsReached (opening_of b)
  pub is_true : IsTrueFrom (plans_of b) (opening_of b) b.journal
  pub stands : StandsFor b.vault (state_of b)
  pub room : length b.journal + bound (state_of b) ≤ b.capacity
  pub most : b.most ≡ greatest_cost (plans_of b)

-- The headline holds of the state that the journal leads to.
abbrev pub HeadlineHolds : Parts → Type 0
HeadlineHolds b = Headline b.vault (state_of b)

-- The known mark of each page is what the journal tells of it: the last writing comes first, then the mark with which the
-- life began, then the first good reading.
abbrev pub MarksAreTold : Parts → Type 0
MarksAreTold b =
    (page : ℕ) → known_mark (state_of b) page ≡ mark_after (plans_of b) (opening_of b) b.journal page
