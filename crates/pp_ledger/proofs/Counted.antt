-- How many of the events of a segment are submits.
use Rattle.std.proofs.Common.{◌≡◌, ℕ, ◌+◌, ◌≤◌, List, [], ◌∷◌, ◌++◌, length, refl, arith}
use Rattle.pp_model.specs.declared.moves.Move.{Move}
use Rattle.pp_model.specs.declared.reply.Reply.{Reply}
use Rattle.pp_model.specs.declared.event.Event.{Event}
use Rattle.pp_model.specs.declared.event.Event.TheVariants.{Submit, Step}
use Rattle.pp_ledger.specs.Segments.{count_submits}

pub counted_within : (es : List Event) → count_submits es ≤ length es
counted_within [] = omega arith
counted_within (Submit k ∷ es) = omega (arith, counted_within es)
counted_within (Step m reply ∷ es) = omega (arith, counted_within es)

-- One more.
pub submit_counts : (es : List Event) (k : ℕ) → count_submits (es ++ Submit k ∷ []) ≡ count_submits es + 1
submit_counts [] k = refl
submit_counts (Submit n ∷ es) k = omega (arith, submit_counts es k)
submit_counts (Step m reply ∷ es) k = submit_counts es k

-- A move is none.
pub step_counts : (es : List Event) (m : Move) (reply : Reply)
    → count_submits (es ++ Step m reply ∷ []) ≡ count_submits es
step_counts [] m reply = refl
step_counts (Submit n ∷ es) m reply = omega (arith, step_counts es m reply)
step_counts (Step d r ∷ es) m reply = step_counts es m reply
