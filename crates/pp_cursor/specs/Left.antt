-- Where a cursor is in a plan's statements, and what it has left of them.
use Rattle.std.specs.Prelude.{ℕ, zero, suc, List, [], ◌∷◌}
use Rattle.pp_plan.specs.Tree.{Statement, step, loop, choice, Sequence, skip, andthen, Alternatives, none, either}
use Rattle.pp_cursor.specs.declared.cursor.Entry.{Entry}

-- ---- bodies

-- One body after another.
infixr 6 ◌then◌
abbrev pub ◌then◌ : Sequence → Sequence → Sequence
skip then c = c
(andthen s b) then c = andthen s (b then c)

-- The statements of a body from the n-th on.
abbrev pub sequence_drop : ℕ → Sequence → Sequence
sequence_drop zero b = b
sequence_drop (suc n) skip = skip
sequence_drop (suc n) (andthen s b) = sequence_drop n b

-- The branch of this number, from 0; past the last, the empty body.
abbrev pub branch_at : Alternatives → ℕ → Sequence
branch_at none i = skip
branch_at (either b bs) zero = b
branch_at (either b bs) (suc i) = branch_at bs i

-- The body that is done inside a statement: a loop's body, or a choice's branch of this number.
abbrev pub body_of : Statement → ℕ → Sequence
body_of (step s) i = skip
body_of (loop n c) i = c
body_of (choice bs) i = branch_at bs i

-- What is left after that body: so many further turns of a loop, and then what follows the statement.
abbrev pub rest_of : Statement → ℕ → Sequence → Sequence
rest_of (step s) n k = k
rest_of (loop m c) n k = andthen (loop n c) k
rest_of (choice bs) n k = k

-- The body that is done inside a body's first statement.
abbrev pub first_body_of : Sequence → ℕ → Sequence
first_body_of skip i = skip
first_body_of (andthen s k) i = body_of s i

-- What is left after that body.
abbrev pub first_rest_of : Sequence → ℕ → Sequence
first_rest_of skip n = skip
first_rest_of (andthen s k) n = rest_of s n k

-- ---- places

-- A place in a plan. The entries are the loops and choices around it, the innermost first: each says which
-- statement of its body it is, how many turns of it come after this one, and which of its branches is done.
-- The index is that of the next statement in the innermost body.
pub record Place : Type 0 where
  pub entries : List Entry
  pub index : ℕ

-- The innermost body.
abbrev pub body_at : Sequence → List Entry → Sequence
body_at b [] = b
body_at b (e ∷ es) = first_body_of (sequence_drop e.index (body_at b es)) e.branch

-- What is left outside it.
abbrev pub outside : Sequence → List Entry → Sequence
outside b [] = skip
outside b (e ∷ es) = first_rest_of (sequence_drop e.index (body_at b es)) e.turns then outside b es

-- What is left of a body at a place: the rest of the innermost body, and then what is left outside it. It is a body
-- again.
abbrev pub left : Sequence → Place → Sequence
left b p = sequence_drop p.index (body_at b p.entries) then outside b p.entries
