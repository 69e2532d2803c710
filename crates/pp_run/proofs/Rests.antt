-- A pool between two runs.
use Rattle.std.proofs.Common.{◌≡◌, ◌∙◌, ◌++◌, [], List, length, ap}
use Rattle.pp_cert.specs.Accepted.{Acceptance}
use Rattle.pp_model.specs.Journals.{replay}
use Rattle.pp_pool.specs.Parts.{Parts, plans_of, opening_of, state_of}
use Rattle.pp_run.specs.Runs.{submits}

-- At the begin of its life a book is in the opening state.
pub at_begin : (b : Parts) → b.journal ≡ [] → state_of b ≡ opening_of b
at_begin b none = ap (replay (plans_of b) (opening_of b)) none

pub first_plans : (b new : Parts) (plans : List Acceptance) → plans_of b ≡ [] → plans_of new ≡ plans_of b ++ plans
    → plans_of new ≡ plans
first_plans b new plans none grown = grown ∙ ap (λ ps. ps ++ plans) none

pub first_submits : (b new : Parts) (plans : List Acceptance) → plans_of b ≡ [] → b.journal ≡ []
    → new.journal ≡ b.journal ++ submits (length (plans_of b)) (length plans) → new.journal ≡ submits 0 (length plans)
first_submits b new plans none nothing grown =
    grown ∙ (ap (λ es. es ++ submits (length (plans_of b)) (length plans)) nothing
    ∙ ap (λ ps. submits (length ps) (length plans)) none)
