-- What holds at the places of a plan's body.
use Rattle.std.proofs.Common.{◌≡◌, ℕ, zero, suc, ◌+◌, ◌^◌, ◌<◌, ◌≤◌, List, [], ◌∷◌, length, refl, ap, subst, arith}
use Rattle.std.proofs.Common.{add-one}
use Rattle.pp_plan.specs.Tree.{Statement, step, loop, choice, Sequence, skip, andthen, Alternatives, none, either}
use Rattle.pp_plan.specs.Tree.{statement_count, sequence_count, alternatives_count, sequence_depth, alternatives_depth}
use Rattle.pp_plan.specs.Rules.{IsStatement, IsSequence, AreAlternatives}
use Rattle.pp_cursor.specs.declared.cursor.Entry.{Entry}
use Rattle.pp_cursor.specs.Left.{sequence_drop, branch_at, first_body_of, Place, body_at}
use Rattle.pp_cursor.specs.Cursor.{CanBeIn, CanEnter, IsPath}
use Rattle.pp_cursor.specs.CursorMoves.{HasNext}

pub drop_next : (i : ℕ) (b : Sequence) (s : Statement) (k : Sequence) → sequence_drop i b ≡ andthen s k
    → sequence_drop (i + 1) b ≡ k
drop_next i b s k h = rw add-one (go i b h)
  where
    go : (i : ℕ) (b : Sequence) → sequence_drop i b ≡ andthen s k → sequence_drop (suc i) b ≡ k
    go zero skip h = cc
    go zero (andthen t b) h = cc
    go (suc i) skip h = cc
    go (suc i) (andthen t b) h = go i b h

-- ---- the rules hold inside

pub drop_keeps : (slots regions i : ℕ) (b : Sequence) → IsSequence slots regions b
    → IsSequence slots regions (sequence_drop i b)
drop_keeps slots regions zero b h = h
drop_keeps slots regions (suc i) skip h = h
drop_keeps slots regions (suc i) (andthen s b) h = drop_keeps slots regions i b h.1

branch_keeps : (slots regions : ℕ) (bs : Alternatives) (i : ℕ) → AreAlternatives slots regions bs
    → IsSequence slots regions (branch_at bs i)
branch_keeps slots regions none i h = tt
branch_keeps slots regions (either b bs) zero h = h.0
branch_keeps slots regions (either b bs) (suc i) h = branch_keeps slots regions bs i h.1

inside_keeps : (slots regions : ℕ) (d : Sequence) (i : ℕ) → IsSequence slots regions d
    → IsSequence slots regions (first_body_of d i)
inside_keeps slots regions skip i h = tt
inside_keeps slots regions (andthen (step s) k) i h = tt
inside_keeps slots regions (andthen (loop n c) k) i h = h.0.3
inside_keeps slots regions (andthen (choice bs) k) i h = branch_keeps slots regions bs i h.0.2

pub body_keeps : (slots regions : ℕ) (b : Sequence) (es : List Entry) → IsSequence slots regions b
    → IsSequence slots regions (body_at b es)
body_keeps slots regions b [] h = h
body_keeps slots regions b (e ∷ es) h =
    inside_keeps slots regions (sequence_drop e.index (body_at b es)) e.branch
    (drop_keeps slots regions e.index (body_at b es) (body_keeps slots regions b es h))

-- The rules hold of the rest of the innermost body.
pub rest_keeps : (slots regions : ℕ) (b : Sequence) (p : Place) → IsSequence slots regions b
    → IsSequence slots regions (sequence_drop p.index (body_at b p.entries))
rest_keeps slots regions b p h =
    drop_keeps slots regions p.index (body_at b p.entries) (body_keeps slots regions b p.entries h)

pub next_keeps : (slots regions : ℕ) (b : Sequence) (p : Place) (s : Statement) (k : Sequence)
    → IsSequence slots regions b → sequence_drop p.index (body_at b p.entries) ≡ andthen s k
    → IsStatement slots regions s
next_keeps slots regions b p s k h is = let r = subst (IsSequence slots regions) is (rest_keeps slots regions b p h) in
    r.0

-- ---- how deep a place may be

drop_depth : (i : ℕ) (b : Sequence) → sequence_depth (sequence_drop i b) ≤ sequence_depth b
drop_depth zero b = omega arith
drop_depth (suc i) skip = omega arith
drop_depth (suc i) (andthen s b) = omega (arith, drop_depth i b)

branch_depth : (bs : Alternatives) (i : ℕ) → sequence_depth (branch_at bs i) ≤ alternatives_depth bs
branch_depth none i = omega arith
branch_depth (either b bs) zero = omega arith
branch_depth (either b bs) (suc i) = omega (arith, branch_depth bs i)

inside_depth : (d : Sequence) (n i : ℕ) → CanEnter d n i → sequence_depth (first_body_of d i) < sequence_depth d
inside_depth skip n i can = absurd can
inside_depth (andthen (step s) k) n i can = absurd can
inside_depth (andthen (loop m c) k) n i can = omega arith
inside_depth (andthen (choice bs) k) n i can = omega (arith, branch_depth bs i)

path_depth : (b : Sequence) (es : List Entry) → IsPath b es
    → length es + sequence_depth (body_at b es) ≤ sequence_depth b
path_depth b [] path = omega arith
path_depth b (e ∷ es) path =
    omega (
      arith,
      path_depth b es path.1,
      drop_depth e.index (body_at b es),
      inside_depth (sequence_drop e.index (body_at b es)) e.turns e.branch path.0,
    )

pub path_short : (b : Sequence) (es : List Entry) → sequence_depth b ≤ 16 → IsPath b es → length es ≤ 16
path_short b es few path = omega (arith, path_depth b es path)

pub room_to_enter : (b : Sequence) (p : Place) (s : Statement) (n i : ℕ) (k : Sequence) → sequence_depth b ≤ 16
    → IsPath b p.entries → sequence_drop p.index (body_at b p.entries) ≡ andthen s k → CanBeIn s n i
    → length p.entries < 16
room_to_enter b p s n i k few path h t =
    let d = drop_depth p.index (body_at b p.entries) in
    let f = ap sequence_depth h in
    omega (arith, path_depth b p.entries path, inside_depth (andthen s k) n i t)

-- ---- how far a place may be

statement_counts : (s : Statement) → 1 ≤ statement_count s
statement_counts (step s) = omega arith
statement_counts (loop n b) = omega arith
statement_counts (choice bs) = omega arith

drop_count : (i : ℕ) (b : Sequence) (s : Statement) (k : Sequence) → sequence_drop i b ≡ andthen s k
    → i + sequence_count (andthen s k) ≤ sequence_count b
drop_count zero b s k h = omega (arith, ap sequence_count h)
drop_count (suc i) skip s k h = cc
drop_count (suc i) (andthen t b) s k h = omega (arith, statement_counts t, drop_count i b s k h)

branch_counts : (bs : Alternatives) (i : ℕ) → sequence_count (branch_at bs i) ≤ alternatives_count bs
branch_counts none i = omega arith
branch_counts (either b bs) zero = omega arith
branch_counts (either b bs) (suc i) = omega (arith, branch_counts bs i)

inside_counts : (d : Sequence) (n i : ℕ) → CanEnter d n i → sequence_count (first_body_of d i) ≤ sequence_count d
inside_counts skip n i can = absurd can
inside_counts (andthen (step s) k) n i can = absurd can
inside_counts (andthen (loop m c) k) n i can = omega arith
inside_counts (andthen (choice bs) k) n i can = omega (arith, branch_counts bs i)

-- An index with a statement at it is below the number of statements.
enter_counts : (i : ℕ) (c d : Sequence) (n j : ℕ) → sequence_drop i c ≡ d → CanEnter d n j
    → (i < sequence_count c) × (sequence_count (first_body_of d j) ≤ sequence_count c)
enter_counts i c skip n j h can = absurd can
enter_counts i c (andthen s k) n j h can =
    let f = drop_count i c s k h in
    (omega (arith, f, statement_counts s), omega (arith, f, inside_counts (andthen s k) n j can))

path_counts : (b : Sequence) (es : List Entry) → IsPath b es → sequence_count (body_at b es) ≤ sequence_count b
path_counts b [] path = omega arith
path_counts b (e ∷ es) path =
    let f = enter_counts e.index (body_at b es) (sequence_drop e.index (body_at b es)) e.turns e.branch refl path.0 in
    omega (arith, path_counts b es path.1, f.1)

pub path_has_next : (b : Sequence) (es : List Entry) → sequence_count b ≤ 4096 → IsPath b es → 0 < length es
    → HasNext es
path_has_next b [] few path h = absurd (omega arith)
path_has_next b (e ∷ es) few path h =
    let f = enter_counts e.index (body_at b es) (sequence_drop e.index (body_at b es)) e.turns e.branch refl path.0 in
    omega (arith, path_counts b es path.1, f.0)

pub room_to_skip : (b : Sequence) (p : Place) (s : Statement) (k : Sequence) → sequence_count b ≤ 4096
    → IsPath b p.entries → sequence_drop p.index (body_at b p.entries) ≡ andthen s k → p.index + 1 < 2 ^ 64
room_to_skip b p s k few path h =
    omega (arith, path_counts b p.entries path, drop_count p.index (body_at b p.entries) s k h, statement_counts s)
