-- How the places of a plan's parts lie, and how many there are.
use Rattle.std.proofs.Common.{◌≡◌, ℕ, zero, suc, ◌+◌, ◌*◌, ◌<◌, ◌≤◌, List, [], ◌∷◌, length, get_or, drop, refl, ap}
use Rattle.std.proofs.Common.{arith, add-one, drop-cons}
use Rattle.pp_plan.specs.Tree.{Statement, step, loop, choice, Sequence, skip, andthen, Alternatives, none, either}
use Rattle.pp_plan.specs.Tree.{statement_size, sequence_size, alternatives_size, statement_count, sequence_count}
use Rattle.pp_plan.specs.Tree.{alternatives_count, branch_count}
use Rattle.pp_plan.specs.Rules.{IsStatement, IsSequence, AreAlternatives}
use Rattle.pp_plan.specs.View.{statement_of, sequence_of, alternatives_of}
use Rattle.pp_plan.specs.declared.stmt.Stmt.{Stmt}
use Rattle.pp_cert.specs.Walk.{statement_end, sequence_end, alternatives_end}

mutual
  pub statement_end-le : (k : ℕ) (s : Statement) → k + 1 ≤ statement_end k s
  statement_end-le k (step s) = omega arith
  statement_end-le k (loop n b) = omega (arith, sequence_end-le (k + 1) b)
  statement_end-le k (choice bs) = omega (arith, alternatives_end-le (k + 1) bs)

  pub sequence_end-le : (k : ℕ) (b : Sequence) → k ≤ sequence_end k b
  sequence_end-le k skip = omega arith
  sequence_end-le k (andthen s b) = omega (arith, statement_end-le k s, sequence_end-le (statement_end k s) b)

  pub alternatives_end-le : (k : ℕ) (bs : Alternatives) → k ≤ alternatives_end k bs
  alternatives_end-le k none = omega arith
  alternatives_end-le k (either b bs) =
      omega (arith, sequence_end-le k b, alternatives_end-le (sequence_end k b + 1) bs)

mutual
  statement_end-most : (slots regions k : ℕ) (s : Statement) → IsStatement slots regions s
      → statement_end k s ≤ k + 17 * statement_count s
  statement_end-most slots regions k (step s) h = omega arith
  statement_end-most slots regions k (loop n b) h = omega (arith, sequence_end-most slots regions (k + 1) b h.3)
  statement_end-most slots regions k (choice bs) h =
      omega (arith, h.1, alternatives_end-most slots regions (k + 1) bs h.2)

  pub sequence_end-most : (slots regions k : ℕ) (b : Sequence) → IsSequence slots regions b
      → sequence_end k b ≤ k + 17 * sequence_count b
  sequence_end-most slots regions k skip h = omega arith
  sequence_end-most slots regions k (andthen s b) h =
      omega (arith, statement_end-most slots regions k s h.0, sequence_end-most slots regions (statement_end k s) b h.1)

  alternatives_end-most : (slots regions k : ℕ) (bs : Alternatives) → AreAlternatives slots regions bs
      → alternatives_end k bs ≤ k + 17 * alternatives_count bs + branch_count bs
  alternatives_end-most slots regions k none h = omega arith
  alternatives_end-most slots regions k (either b bs) h =
      omega (
        arith,
        sequence_end-most slots regions k b h.0,
        alternatives_end-most slots regions (sequence_end k b + 1) bs h.1,
      )

-- ---- what is left of a list of statements, one statement further

pub sequence_of-drop : (ss : List Stmt) (i : ℕ) (s : Stmt) → s ≡ get_or ss i s → i < length ss
    → sequence_of (drop i ss) ≡ andthen (statement_of s) (sequence_of (drop (i + 1) ss))
sequence_of-drop ss i s e h = rw (add-one, drop-cons ss i s, ← e) refl

pub alternatives_of-drop : (bs : List Sequence) (i : ℕ) (b : Sequence) → b ≡ get_or bs i b → i < length bs
    → alternatives_of (drop i bs) ≡ either b (alternatives_of (drop (i + 1) bs))
alternatives_of-drop bs i b e h = rw (add-one, drop-cons bs i b, ← e) refl

sequence_size-drop : (ss : List Stmt) (i : ℕ) → sequence_size (sequence_of (drop i ss)) ≤ sequence_size (sequence_of ss)
sequence_size-drop [] zero = omega arith
sequence_size-drop [] (suc i) = omega arith
sequence_size-drop (s ∷ ss) zero = omega arith
sequence_size-drop (s ∷ ss) (suc i) = omega (arith, sequence_size-drop ss i)

alternatives_size-drop : (bs : List Sequence) (i : ℕ)
    → alternatives_size (alternatives_of (drop i bs)) ≤ alternatives_size (alternatives_of bs)
alternatives_size-drop [] zero = omega arith
alternatives_size-drop [] (suc i) = omega arith
alternatives_size-drop (b ∷ bs) zero = omega arith
alternatives_size-drop (b ∷ bs) (suc i) = omega (arith, alternatives_size-drop bs i)

-- each statement is smaller than the body that it stands in
pub stmt_falls : (ss : List Stmt) (i : ℕ) (s : Stmt) → s ≡ get_or ss i s → i < length ss
    → statement_size (statement_of s) < sequence_size (sequence_of ss)
stmt_falls ss i s e h =
    let size = ap sequence_size (sequence_of-drop ss i s e h) in
    omega (arith, sequence_size-drop ss i)

-- each branch is smaller than the branches
pub body_falls : (bs : List Sequence) (i : ℕ) (b : Sequence) → b ≡ get_or bs i b → i < length bs
    → sequence_size b < alternatives_size (alternatives_of bs)
body_falls bs i b e h =
    let size = ap alternatives_size (alternatives_of-drop bs i b e h) in
    omega (arith, alternatives_size-drop bs i)
