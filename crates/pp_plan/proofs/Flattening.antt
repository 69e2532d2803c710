-- What the search is given for the functions that make the flat list.
use Rattle.std.proofs.Common.{◌≡◌, ℕ, suc, ◌+◌, ◌<◌, List, [], ◌∷◌, length, get_or, drop, drop-cons, add-one, refl}
use Rattle.std.proofs.Common.{ap, arith}
use Rattle.std.specs.Prelude.{min}
use Rattle.pp_plan.specs.Tree.{Sequence, andthen, either, branch_count}
use Rattle.pp_plan.specs.View.{statement_of, sequence_of, alternatives_of}
use Rattle.pp_plan.specs.declared.stmt.Stmt.{Stmt}
use Rattle.pp_plan.specs.FlatList.{farthest}
use Rattle.pp_plan.proofs.Values.{statement_falls, branch_falls}

pub sequence_of-drop : (ss : List Stmt) (i : ℕ) (s : Stmt) → s ≡ get_or ss i s → i < length ss
    → sequence_of (drop i ss) ≡ andthen (statement_of s) (sequence_of (drop (i + 1) ss))
sequence_of-drop ss i s e h = rw (add-one, drop-cons ss i s, ← e) refl

pub alternatives_of-drop : (bs : List Sequence) (i : ℕ) (b : Sequence) → b ≡ get_or bs i b → i < length bs
    → alternatives_of (drop i bs) ≡ either b (alternatives_of (drop (i + 1) bs))
alternatives_of-drop bs i b e h = rw (add-one, drop-cons bs i b, ← e) refl

pub branch_count-of : (bs : List Sequence) → branch_count (alternatives_of bs) ≡ length bs
branch_count-of [] = refl
branch_count-of (b ∷ bs) = rw (add-one) (ap suc (branch_count-of bs))

-- A sum that stays at the greatest number.
pub near_sum : (d s : ℕ) → min (d + min s farthest) farthest ≡ min (d + s) farthest
near_sum d s = omega arith

pub near_next : (d s : ℕ) → min (min (d + min s farthest) farthest + 1) farthest ≡ min (d + s + 1) farthest
near_next d s = omega arith

pub ruleset flattens = (
  sequence_of-drop,
  alternatives_of-drop,
  statement_falls,
  branch_falls,
  branch_count-of,
  near_sum,
  near_next,
)
