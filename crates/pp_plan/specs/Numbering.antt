-- Slots are numbered by the byte order of their names, which is known once all are read.
use Rattle.std.specs.Prelude.{ℕ, List, [], map, insert, fold, position, unwrap_or, Option, slice_index_or}
use Rattle.std.specs.List.{position_or_len}
use Rattle.std.specs.Str.{bytes_eq}
use Rattle.pp_plan.specs.Tree.{Step, fix, unfix, latch, unlatch, gather, scatter, Statement, step, loop, choice}
use Rattle.pp_plan.specs.Tree.{Sequence, skip, andthen}
use Rattle.pp_plan.specs.Tree.{Alternatives, none, either}
use Rattle.pp_plan.specs.Names.{comes_before}

-- The place of a name among names.
abbrev pub position_of : List (List ℕ) → List ℕ → Option ℕ
position_of names name = position (λ n. bytes_eq n name) names

-- A name put in among names in byte order: before the first that it comes before.
abbrev pub put_in : List (List ℕ) → List ℕ → List (List ℕ)
put_in names name = insert names (position_or_len (comes_before name) names) name

-- The names in byte order.
abbrev pub in_byte_order : List (List ℕ) → List (List ℕ)
in_byte_order names = fold put_in [] names

-- The new number of the k-th name: its place among the ordered names.
abbrev pub new_number : (ordered : List (List ℕ)) → List ℕ → ℕ
new_number ordered name = unwrap_or (position_of ordered name) 0

abbrev pub place_in : (ordered names : List (List ℕ)) → ℕ → ℕ
place_in ordered names k = slice_index_or (map (new_number ordered) names) k 0

-- The step with its slot numbered anew.
abbrev pub numbered_step : (ℕ → ℕ) → Step → Step
numbered_step new (fix s r) = fix (new s) r
numbered_step new (unfix s) = unfix (new s)
numbered_step new (latch s m) = latch (new s) m
numbered_step new (unlatch s) = unlatch (new s)
numbered_step new (gather s r) = gather (new s) r
numbered_step new (scatter s) = scatter (new s)

-- The body with its slots numbered anew.
abbrev mutual
  pub numbered_statement : (ℕ → ℕ) → Statement → Statement
  numbered_statement new (step s) = step (numbered_step new s)
  numbered_statement new (loop n b) = loop n (numbered new b)
  numbered_statement new (choice bs) = choice (numbered_branches new bs)

  pub numbered : (ℕ → ℕ) → Sequence → Sequence
  numbered new skip = skip
  numbered new (andthen s b) = andthen (numbered_statement new s) (numbered new b)

  pub numbered_branches : (ℕ → ℕ) → Alternatives → Alternatives
  numbered_branches new none = none
  numbered_branches new (either b bs) = either (numbered new b) (numbered_branches new bs)
