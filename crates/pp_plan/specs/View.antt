-- What the statements of the program are seen as.
use Rattle.std.specs.Prelude.{List, [], ◌∷◌}
use Rattle.pp_plan.specs.Tree.{fix, unfix, latch, unlatch, gather, scatter, Statement, step, loop, choice}
use Rattle.pp_plan.specs.Tree.{Sequence, skip, andthen}
use Rattle.pp_plan.specs.Tree.{Alternatives, none, either}
use Rattle.pp_plan.specs.declared.stmt.Stmt.{Stmt}
use Rattle.pp_plan.specs.declared.stmt.Stmt.TheVariants.{Fix, Unfix, Latch, Unlatch, Gather, Scatter, Loop, Choice}

-- One statement; a body inside it is seen as its tree already.
abbrev pub statement_of : Stmt → Statement
statement_of (Fix s r) = step (fix s r)
statement_of (Unfix s) = step (unfix s)
statement_of (Latch s m) = step (latch s m)
statement_of (Unlatch s) = step (unlatch s)
statement_of (Gather s r) = step (gather s r)
statement_of (Scatter s) = step (scatter s)
statement_of (Loop n b) = loop n b
statement_of (Choice bs) = choice bs

-- Statements in order.
abbrev pub sequence_of : List Stmt → Sequence
sequence_of [] = skip
sequence_of (s ∷ ss) = andthen (statement_of s) (sequence_of ss)

-- Branches in order.
abbrev pub alternatives_of : List Sequence → Alternatives
alternatives_of [] = none
alternatives_of (b ∷ bs) = either b (alternatives_of bs)
