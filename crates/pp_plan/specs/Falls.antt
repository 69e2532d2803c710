-- What a body holds is smaller than the body.
use Rattle.std.specs.Prelude.{◌+◌, ◌≤◌, List, [], ◌∷◌}
use Rattle.std.proofs.Common.{arith}
use denote.Param.Weighed.{most}
use Rattle.pp_plan.specs.Tree.{Sequence, sequence_size, alternatives_size}
use Rattle.pp_plan.specs.View.{sequence_of, alternatives_of}
use Rattle.pp_plan.specs.declared.stmt.Stmt.{Stmt}
use Rattle.pp_plan.specs.declared.stmt.Stmt.TheVariants.{Fix, Unfix, Latch, Unlatch, Gather, Scatter, Loop, Choice}
use Rattle.pp_plan.specs.declared.stmt.Body.TheDeep.{deep-Stmt}

pub most_le-sequence_size : (ss : List Stmt) → most deep-Stmt ss ≤ sequence_size (sequence_of ss)
most_le-sequence_size [] = omega arith
most_le-sequence_size (Fix s r ∷ ss) = omega (arith, most_le-sequence_size ss)
most_le-sequence_size (Unfix s ∷ ss) = omega (arith, most_le-sequence_size ss)
most_le-sequence_size (Latch s m ∷ ss) = omega (arith, most_le-sequence_size ss)
most_le-sequence_size (Unlatch s ∷ ss) = omega (arith, most_le-sequence_size ss)
most_le-sequence_size (Gather s r ∷ ss) = omega (arith, most_le-sequence_size ss)
most_le-sequence_size (Scatter s ∷ ss) = omega (arith, most_le-sequence_size ss)
most_le-sequence_size (Loop n b ∷ ss) = omega (arith, most_le-sequence_size ss)
most_le-sequence_size (Choice bs ∷ ss) = omega (arith, most_le-sequence_size ss)

pub most_le-alternatives_size : (bs : List Sequence)
    → most (λ b. sequence_size b + 1) bs ≤ alternatives_size (alternatives_of bs)
most_le-alternatives_size [] = omega arith
most_le-alternatives_size (b ∷ bs) = omega (arith, most_le-alternatives_size bs)
