-- The flat list has at each place's step what is next there.
use Rattle.std.proofs.Common.{◌≡◌, ℕ, zero, suc, ◌+◌, ◌-◌, ◌*◌, ◌^◌, ◌<◌, ◌≤◌, List, [], ◌∷◌, ◌++◌, length, drop, Some, refl, sym}
use Rattle.std.proofs.Common.{ap, subst, ◌∙◌, append_assoc, arith, min, add-one}
use Rattle.std.specs.Prelude.{slice_get}
use Rattle.std.proofs.Math.Seq.{drop-append-add}
use Rattle.std.proofs.lemmas.List.{length-append, length-drop, drop-drop}
use Rattle.std.proofs.lemmas.Option.{slice_get_within}
use Rattle.pp_cursor.proofs.Standing.{next_has_few}
use Rattle.pp_settings.specs.Layout.{Geometry}
use Rattle.pp_cursor.proofs.CursorMoves.{enter_path, end_of}
use Rattle.pp_cursor.proofs.Passing.{named_does}
use Rattle.pp_plan.specs.Tree.{Step, fix, unfix, latch, unlatch, gather, scatter}
use Rattle.pp_plan.specs.Traces.{Does}
use Rattle.pp_plan.specs.FlatList.{statement_ask}
use Rattle.pp_plan.specs.declared.action.Action.{Action}
use Rattle.pp_plan.specs.declared.action.Action.TheVariants.{Fix, Unfix, Latch, Unlatch, Gather, Scatter, Choose}
use Rattle.pp_plan.specs.Tree.{Statement, step, loop, choice, Sequence, skip, andthen, Alternatives, none, either}
use Rattle.pp_plan.specs.Tree.{branch_count, statement_count, sequence_count, alternatives_count}
use Rattle.pp_plan.specs.Rules.{IsStatement, IsSequence, AreAlternatives, IsBody}
use Rattle.pp_cursor.specs.declared.cursor.Entry.{Entry}
use Rattle.pp_plan.specs.declared.flat.Next.{Next}
use Rattle.pp_plan.specs.declared.flat.Next.TheVariants.{Enter, Leave, Asks}
use Rattle.pp_plan.specs.declared.flat.FlatStep.{FlatStep}
use Rattle.pp_plan.specs.declared.action.Ask.TheVariants as ask
use Rattle.pp_cursor.specs.Left.{sequence_drop, branch_at, body_of, first_body_of, Place, body_at}
use Rattle.pp_cursor.specs.Cursor.{CanBeIn, CanEnter, IsPath, NamesAction}
use Rattle.pp_cursor.specs.CursorMoves.{entered, skipped, left_to, left_by, next_by, next_at, HasFewBranches, HasNext, IsPassedBy}
use Rattle.pp_cursor.specs.CursorMoves.{out_to, out_by, first_ask, ask_at, IsOfStep}
use Rattle.pp_plan.specs.FlatList.{statement_steps, sequence_steps, alternatives_steps, near, row, choosing, starts}
use Rattle.pp_plan.specs.FlatList.{flat_statement, flat, flat_branches, flat_body}
use Rattle.pp_cursor.specs.Positions.{steps_before, before_branch, before_body}
use Rattle.pp_plan.specs.FlatList.{farthest}
use Rattle.pp_cursor.specs.Positions.{first_before_body, origin, position, Spot}

-- ---- lists

drop_past : (xs ys : List FlatStep) (n m : ℕ) → length xs ≡ n → drop (n + m) (xs ++ ys) ≡ drop m ys
drop_past xs ys n m h = subst (λ k. drop (k + m) (xs ++ ys) ≡ drop m ys) h (drop-append-add xs ys m)

drop_more : (n m : ℕ) (xs : List FlatStep) → drop (n + m) xs ≡ drop m (drop n xs)
drop_more n m xs = sym (drop-drop m n xs)

pub row_there : (xs : List FlatStep) (n : ℕ) (y : FlatStep) (ys : List FlatStep) → drop n xs ≡ y ∷ ys
    → slice_get xs n ≡ Some y
row_there [] zero y ys h = absurd cc
row_there [] (suc n) y ys h = absurd cc
row_there (x ∷ xs) zero y ys h = cc
row_there (x ∷ xs) (suc n) y ys h = row_there xs n y ys h

row_behind : (xs : List FlatStep) (n i j : ℕ) (y : FlatStep) (ys : List FlatStep) → j ≡ n + suc i → drop n xs ≡ y ∷ ys
    → slice_get xs j ≡ slice_get ys i
row_behind [] zero i j y ys e h = absurd cc
row_behind [] (suc n) i j y ys e h = absurd cc
row_behind (x ∷ xs) zero i zero y ys e h = absurd (omega (arith, e))
row_behind (x ∷ xs) zero i (suc j) y ys e h =
    let rest : xs ≡ ys = cc in
    let same : j ≡ i = omega (arith, e) in
    ap (λ l. slice_get l j) rest ∙ ap (slice_get ys) same
row_behind (x ∷ xs) (suc n) i zero y ys e h = absurd (omega (arith, e))
row_behind (x ∷ xs) (suc n) i (suc j) y ys e h = row_behind xs n i j y ys (omega (arith, e)) h

row_in_front : (xs ys : List FlatStep) (i : ℕ) → i < length xs → slice_get (xs ++ ys) i ≡ slice_get xs i
row_in_front [] ys i h = absurd (omega arith)
row_in_front (x ∷ xs) ys zero h = refl
row_in_front (x ∷ xs) ys (suc i) h = row_in_front xs ys i (omega arith)

-- ---- how long the list is

length_starts : (d : ℕ) (bs : Alternatives) → length (starts d bs) ≡ branch_count bs
length_starts d none = refl
length_starts d (either b bs) = omega (arith, length_starts (near (d + sequence_steps b)) bs)

mutual
  length_statement : (s : Statement) → length (flat_statement s) ≡ statement_steps s
  length_statement (step s) = refl
  length_statement (loop n b) =
      omega (arith, length-append (flat b) (row Leave (near (sequence_steps b + 1)) ∷ []), length_flat b)
  length_statement (choice bs) =
      let d = near (branch_count bs) in
      omega (arith, length-append (starts d bs) (flat_branches d bs), length_starts d bs, length_branches d bs)

  length_flat : (b : Sequence) → length (flat b) ≡ sequence_steps b
  length_flat skip = refl
  length_flat (andthen s b) =
      omega (arith, length-append (flat_statement s) (flat b), length_statement s, length_flat b)

  length_branches : (d : ℕ) (bs : Alternatives) → length (flat_branches d bs) ≡ alternatives_steps bs
  length_branches d none = refl
  length_branches d (either b bs) =
      let e = near (d + sequence_steps b + 1) in
      omega (arith, length-append (flat b) (row Leave e ∷ flat_branches e bs), length_flat b, length_branches e bs)

mutual
  few_statement : (slots regions : ℕ) (s : Statement) → IsStatement slots regions s
      → statement_steps s ≤ 33 * statement_count s
  few_statement slots regions (step s) h = omega arith
  few_statement slots regions (loop n b) h = omega (arith, few_steps slots regions b h.3)
  few_statement slots regions (choice bs) h = omega (arith, h.1, few_branches slots regions bs h.2)

  few_steps : (slots regions : ℕ) (b : Sequence) → IsSequence slots regions b
      → sequence_steps b ≤ 33 * sequence_count b
  few_steps slots regions skip h = omega arith
  few_steps slots regions (andthen s b) h =
      omega (arith, few_statement slots regions s h.0, few_steps slots regions b h.1)

  few_branches : (slots regions : ℕ) (bs : Alternatives) → AreAlternatives slots regions bs
      → alternatives_steps bs ≤ branch_count bs + 33 * alternatives_count bs
  few_branches slots regions none h = omega arith
  few_branches slots regions (either b bs) h =
      omega (arith, few_steps slots regions b h.0, few_branches slots regions bs h.1)

-- ---- what is behind a place

abbrev pub after_branch : ℕ → Alternatives → ℕ → List FlatStep
after_branch d none i = []
after_branch d (either b bs) zero =
    row Leave (near (d + sequence_steps b + 1)) ∷ flat_branches (near (d + sequence_steps b + 1)) bs
after_branch d (either b bs) (suc i) = after_branch (near (d + sequence_steps b + 1)) bs i

abbrev pub after_body : Statement → ℕ → List FlatStep
after_body (step s) i = []
after_body (loop n b) i = row Leave (near (sequence_steps b + 1)) ∷ []
after_body (choice bs) i = after_branch (near (branch_count bs)) bs i

abbrev pub first_after : Sequence → ℕ → List FlatStep
first_after skip i = []
first_after (andthen s k) i = after_body s i ++ flat k

abbrev pub rest_rows : Sequence → List Entry → List FlatStep
rest_rows b [] = row (Asks ask.End) 1 ∷ []
rest_rows b (e ∷ es) = first_after (sequence_drop e.index (body_at b es)) e.branch ++ rest_rows b es

drop_steps : (i : ℕ) (b : Sequence) (t : List FlatStep)
    → drop (steps_before i b) (flat b ++ t) ≡ flat (sequence_drop i b) ++ t
drop_steps zero b t = refl
drop_steps (suc i) skip t = refl
drop_steps (suc i) (andthen s b) t =
    ap (drop (statement_steps s + steps_before i b)) (append_assoc (flat_statement s) (flat b) t)
    ∙ drop_past (flat_statement s) (flat b ++ t) (statement_steps s) (steps_before i b) (length_statement s)
    ∙ drop_steps i b t

drop_branch : (d i : ℕ) (bs : Alternatives) (t : List FlatStep) → i < branch_count bs
    → drop (before_branch bs i) (flat_branches d bs ++ t) ≡ flat (branch_at bs i) ++ (after_branch d bs i ++ t)
drop_branch d i none t h = absurd (omega arith)
drop_branch d zero (either b bs) t h =
    let e = near (d + sequence_steps b + 1) in
    append_assoc (flat b) (row Leave e ∷ flat_branches e bs) t
drop_branch d (suc i) (either b bs) t h =
    let e = near (d + sequence_steps b + 1) in
    let m = before_branch bs i in
    let sum : sequence_steps b + 1 + m ≡ sequence_steps b + suc m = omega arith in
    ap (λ n. drop n (flat_branches d (either b bs) ++ t)) sum
    ∙ ap (drop (sequence_steps b + suc m)) (append_assoc (flat b) (row Leave e ∷ flat_branches e bs) t)
    ∙ drop_past (flat b) (row Leave e ∷ (flat_branches e bs ++ t)) (sequence_steps b) (suc m) (length_flat b)
    ∙ drop_branch e i bs t (omega arith)

drop_body : (s : Statement) (n i : ℕ) (t : List FlatStep) → CanBeIn s n i
    → drop (before_body s i) (flat_statement s ++ t) ≡ flat (body_of s i) ++ (after_body s i ++ t)
drop_body (step s) n i t can = absurd can
drop_body (loop m c) n i t can = append_assoc (flat c) (row Leave (near (sequence_steps c + 1)) ∷ []) t
drop_body (choice bs) n i t can =
    let d = near (branch_count bs) in
    let m = before_branch bs i in
    let sum : branch_count bs + m + 1 ≡ suc (branch_count bs + m) = omega arith in
    ap (λ n. drop n (flat_statement (choice bs) ++ t)) sum
    ∙ ap (drop (branch_count bs + m)) (append_assoc (starts d bs) (flat_branches d bs) t)
    ∙ drop_past (starts d bs) (flat_branches d bs ++ t) (branch_count bs) m (length_starts d bs)
    ∙ drop_branch d i bs t can.1

drop_inside : (d : Sequence) (n i : ℕ) (t : List FlatStep) → CanEnter d n i
    → drop (first_before_body d i) (flat d ++ t) ≡ flat (first_body_of d i) ++ (first_after d i ++ t)
drop_inside skip n i t can = absurd can
drop_inside (andthen s k) n i t can =
    ap (drop (before_body s i)) (append_assoc (flat_statement s) (flat k) t)
    ∙ drop_body s n i (flat k ++ t) can
    ∙ ap (λ l. flat (body_of s i) ++ l) (sym (append_assoc (after_body s i) (flat k) t))

-- From the innermost body on.
origin_rows : (b : Sequence) (es : List Entry) → IsPath b es
    → drop (origin b es) (flat_body b) ≡ flat (body_at b es) ++ rest_rows b es
origin_rows b [] path = refl
origin_rows b (e ∷ es) path =
    let around = body_at b es in
    let d = sequence_drop e.index around in
    drop_more (origin b es + steps_before e.index around) (first_before_body d e.branch) (flat_body b)
    ∙ ap (drop (first_before_body d e.branch)) (drop_more (origin b es) (steps_before e.index around) (flat_body b)
    ∙ ap (drop (steps_before e.index around)) (origin_rows b es path.1)
    ∙ drop_steps e.index around (rest_rows b es))
    ∙ drop_inside d e.turns e.branch (rest_rows b es) path.0

-- From the place on.
pub place_rows : (b : Sequence) (p : Place) → IsPath b p.entries
    → drop (position b p) (flat_body b) ≡ flat (sequence_drop p.index (body_at b p.entries)) ++ rest_rows b p.entries
place_rows b p path =
    drop_more (origin b p.entries) (steps_before p.index (body_at b p.entries)) (flat_body b)
    ∙ ap (drop (steps_before p.index (body_at b p.entries))) (origin_rows b p.entries path)
    ∙ drop_steps p.index (body_at b p.entries) (rest_rows b p.entries)

-- ---- the row at a place

-- A list that begins with a row of this kind.
record Head (xs : List FlatStep) (next : Next) : Type 0 where
  first : FlatStep
  behind : List FlatStep
  is : xs ≡ first ∷ behind
  next_is : first.next ≡ next

-- The row behind a body has how far it is from the row of the statement around it.
record LeaveHead (d : Sequence) (i : ℕ) (xs : List FlatStep) : Type 0 where
  behind : List FlatStep
  is : xs ≡ row Leave (near (first_before_body d i + sequence_steps (first_body_of d i))) ∷ behind

near_again : (d s : ℕ) → near (near d + s + 1) ≡ near (d + s + 1)
near_again d s = omega arith

after_head : (d i : ℕ) (bs : Alternatives) → i < branch_count bs
    → (ys : List FlatStep) × (after_branch (near d) bs i
    ≡ row Leave (near (d + before_branch bs i + sequence_steps (branch_at bs i) + 1)) ∷ ys)
after_head d i none h = absurd (omega arith)
after_head d zero (either b bs) h =
    let e = near_again d (sequence_steps b) in
    let f : d + sequence_steps b + 1 ≡ d + 0 + sequence_steps b + 1 = omega arith in (
      flat_branches (near (near d + sequence_steps b + 1)) bs,
      ap (λ x. row Leave x ∷ flat_branches (near (near d + sequence_steps b + 1)) bs) (e ∙ ap near f),
    )
after_head d (suc i) (either b bs) h =
    let e = near_again d (sequence_steps b) in
    let (ys, is) = after_head (d + sequence_steps b + 1) i bs (omega arith) in
    let f : d + sequence_steps b + 1 + before_branch bs i + sequence_steps (branch_at bs i) + 1
    ≡ d + (sequence_steps b + 1 + before_branch bs i) + sequence_steps (branch_at bs i) + 1 = omega arith in (
      ys,
      ap (λ x. after_branch x bs i) e ∙ is ∙ ap (λ x. row Leave (near x) ∷ ys) f,
    )

leave_head : (d : Sequence) (n i : ℕ) (t : List FlatStep) → CanEnter d n i → LeaveHead d i (first_after d i ++ t)
leave_head skip n i t can = absurd can
leave_head (andthen (step s) k) n i t can = absurd can
leave_head (andthen (loop m c) k) n i t can =
    let f : sequence_steps c + 1 ≡ 1 + sequence_steps c = omega arith in
    record { behind = flat k ++ t; is = ap (λ x. row Leave (near x) ∷ (flat k ++ t)) f }
leave_head (andthen (choice bs) k) n i t can =
    let (ys, is) = after_head (branch_count bs) i bs can.1 in
    let f : branch_count bs + before_branch bs i + sequence_steps (branch_at bs i) + 1
    ≡ branch_count bs + before_branch bs i + 1 + sequence_steps (branch_at bs i) = omega arith in
    record {
      behind = (ys ++ flat k) ++ t;
      is = ap (λ l. (l ++ flat k) ++ t) is ∙ ap (λ x. row Leave (near x) ∷ ((ys ++ flat k) ++ t)) f;
    }

head_by : (b d : Sequence) (es : List Entry) → IsPath b es
    → ((s : Statement) (k : Sequence) → d ≡ andthen s k → HasFewBranches s)
    → Head (flat d ++ rest_rows b es) (next_by d es)
head_by b skip [] path few = record { first = row (Asks ask.End) 1; behind = []; is = refl; next_is = refl }
head_by b skip (e ∷ es) path few =
    let h = leave_head (sequence_drop e.index (body_at b es)) e.turns e.branch (rest_rows b es) path.0 in
    record { first = _; behind = h.behind; is = h.is; next_is = refl }
head_by b (andthen (step s) k) es path few =
    record { first = _; behind = flat k ++ rest_rows b es; is = refl; next_is = refl }
head_by b (andthen (loop n c) k) es path few = record {
  first = row (Enter n) (near (statement_steps (loop n c)));
  behind = ((flat c ++ row Leave (near (sequence_steps c + 1)) ∷ []) ++ flat k) ++ rest_rows b es;
  is = refl;
  next_is = refl;
}
head_by b (andthen (choice bs) k) es path few =
    let fits = few (choice bs) k refl in
    let all : min (branch_count bs) (2 ^ 16 - 1) ≡ branch_count bs = omega (arith, fits) in
    let d = near (branch_count bs) in
    record {
      first = row (choosing (branch_count bs)) (near (statement_steps (choice bs)));
      behind = ((starts d bs ++ flat_branches d bs) ++ flat k) ++ rest_rows b es;
      is = refl;
      next_is = ap (λ x. Asks (ask.Choose x)) all;
    }

pub record HeadAt (b : Sequence) (p : Place) : Type 0 where
  pub first : FlatStep
  pub behind : List FlatStep
  pub is : drop (position b p) (flat_body b) ≡ first ∷ behind
  pub next_is : first.next ≡ next_at b p

head_at : (slots regions : ℕ) (b : Sequence) (p : Place) → IsBody slots regions b → IsPath b p.entries → HeadAt b p
head_at slots regions b p rules path =
    let h = head_by b (sequence_drop p.index (body_at b p.entries)) p.entries path (λ s k e.
    next_has_few slots regions b p s k rules.parts e) in
    record { first = h.first; behind = h.behind; is = place_rows b p path ∙ h.is; next_is = h.next_is }

-- The place's step is one of the list.
pub within : (slots regions : ℕ) (b : Sequence) (p : Place) → IsBody slots regions b → IsPath b p.entries
    → position b p < length (flat_body b)
within slots regions b p rules path =
    let h = head_at slots regions b p rules path in
    slice_get_within (flat_body b) (position b p) h.first (row_there (flat_body b) (position b p) h.first h.behind h.is)

pub same_row : (x y : FlatStep) → Some x ≡ Some y → x ≡ y
same_row x y h = cc

-- What the list has at the place's step says what is next there.
pub next_there : (slots regions : ℕ) (b : Sequence) (p : Place) (n : ℕ) (r : FlatStep) → IsBody slots regions b
    → IsPath b p.entries → n ≡ position b p → slice_get (flat_body b) n ≡ Some r → r.next ≡ next_at b p
next_there slots regions b p n r rules path on there =
    let h = head_at slots regions b p rules path in
    let same : r ≡ h.first =
    same_row r h.first (sym there ∙ ap (slice_get (flat_body b)) on
    ∙ row_there (flat_body b) (position b p) h.first h.behind h.is) in
    ap (λ (x : FlatStep). x.next) same ∙ h.next_is

-- The list is so short that each distance in it is written.
pub short : (slots regions : ℕ) (b : Sequence) → IsBody slots regions b → length (flat_body b) < farthest
short slots regions b rules =
    omega (
      arith,
      length-append (flat b) (row (Asks ask.End) 1 ∷ []),
      length_flat b,
      few_steps slots regions b rules.parts,
      rules.count,
    )

-- ---- where a move leads

steps_next : (i : ℕ) (b : Sequence) (s : Statement) (k : Sequence) → sequence_drop i b ≡ andthen s k
    → steps_before (i + 1) b ≡ steps_before i b + statement_steps s
steps_next i b s k h = rw add-one (go i b h)
  where
    go : (i : ℕ) (b : Sequence) → sequence_drop i b ≡ andthen s k
        → steps_before (suc i) b ≡ steps_before i b + statement_steps s
    go zero skip h = absurd cc
    go zero (andthen r c) h = let e : r ≡ s = cc in omega (arith, ap statement_steps e)
    go (suc i) skip h = absurd cc
    go (suc i) (andthen r c) h = omega (arith, go i c h)

steps_all : (i : ℕ) (b : Sequence) → sequence_drop i b ≡ skip → steps_before i b ≡ sequence_steps b
steps_all zero skip h = refl
steps_all zero (andthen s c) h = absurd cc
steps_all (suc i) skip h = refl
steps_all (suc i) (andthen s c) h = omega (arith, steps_all i c h)

-- Past a step.
pub skipped_at : (b : Sequence) (p : Place) (s : Step) (k : Sequence)
    → sequence_drop p.index (body_at b p.entries) ≡ andthen (step s) k
    → position b (skipped p) ≡ position b p + 1
skipped_at b p s k h = omega (arith, steps_next p.index (body_at b p.entries) (step s) k h)

-- Into a loop.
pub entered_at : (b : Sequence) (p : Place) (n m : ℕ) (c k : Sequence)
    → sequence_drop p.index (body_at b p.entries) ≡ andthen (loop n c) k
    → position b (entered p m 0) ≡ position b p + 1
entered_at b p n m c k h = omega (arith, ap (λ d. first_before_body d 0) h)

-- Into a branch.
start_at : (d i : ℕ) (bs : Alternatives) → i < branch_count bs
    → (x : ℕ) × ((slice_get (starts (near d) bs) i ≡ Some (row Leave (near x))) × (x + i ≡ d + before_branch bs i))
start_at d i none h = absurd (omega arith)
start_at d zero (either b bs) h = (d, (refl, refl))
start_at d (suc i) (either b bs) h =
    let e : near (near d + sequence_steps b) ≡ near (d + sequence_steps b) = omega arith in
    let (x, (is, sum)) = start_at (d + sequence_steps b) i bs (omega arith) in
    (x, (ap (λ n. slice_get (starts n bs) i) e ∙ is, omega (arith, sum)))

pub record Start (b : Sequence) (p : Place) (i : ℕ) : Type 0 where
  pub row : FlatStep
  pub there : slice_get (flat_body b) (position b p + 1 + i) ≡ Some row
  pub leads : position b (entered p 0 i) ≡ position b p + 1 + i + row.reach
  pub low : position b (entered p 0 i) < length (flat_body b)

pub branch_start : (slots regions : ℕ) (b : Sequence) (p : Place) (i : ℕ) (k : Sequence) (bs : Alternatives)
    → IsBody slots regions b → IsPath b p.entries
    → sequence_drop p.index (body_at b p.entries) ≡ andthen (choice bs) k → i < branch_count bs → Start b p i
branch_start slots regions b p i k bs rules path h few =
    let d = near (branch_count bs) in
    let t = rest_rows b p.entries in
    let (x, (is, sum)) = start_at (branch_count bs) i bs few in
    let rows : drop (position b p) (flat_body b)
    ≡ row (choosing (branch_count bs)) (near (statement_steps (choice bs)))
    ∷ (((starts d bs ++ flat_branches d bs) ++ flat k) ++ t) =
    place_rows b p path ∙ ap (λ c. flat c ++ t) h in
    let one = length_starts d bs in
    let two = length-append (starts d bs) (flat_branches d bs) in
    let three = length-append (starts d bs ++ flat_branches d bs) (flat k) in
    let found : slice_get (flat_body b) (position b p + 1 + i) ≡ Some (row Leave (near x)) =
    row_behind (flat_body b) (position b p) i (position b p + 1 + i) _
    (((starts d bs ++ flat_branches d bs) ++ flat k) ++ t) (omega arith) rows
    ∙ row_in_front ((starts d bs ++ flat_branches d bs) ++ flat k) t i (omega (arith, one, two, three, few))
    ∙ row_in_front (starts d bs ++ flat_branches d bs) (flat k) i (omega (arith, one, two, few))
    ∙ row_in_front (starts d bs) (flat_branches d bs) i (omega (arith, one, few))
    ∙ is in
    let can : IsPath b (entered p 0 i).entries = enter_path b p (choice bs) 0 i k h (refl, few) path in
    let inside = ap (λ c. first_before_body c i) h in
    let low = within slots regions b (entered p 0 i) rules can in
    let size = short slots regions b rules in
    record {
      row = row Leave (near x);
      there = found;
      leads = omega (arith, inside, sum, low, size);
      low = low;
    }

-- ---- out of a body

-- The place of the statement around a body.
abbrev pub around : Place → List Entry → Place
around p [] = p
around p (e ∷ es) = record { entries = es; index = e.index }

-- The row behind a body says how far back the statement around it begins.
back_by : (slots regions : ℕ) (b : Sequence) (e : Entry) (es : List Entry) (i : ℕ) (r : FlatStep) → IsBody slots regions b
    → IsPath b (e ∷ es) → sequence_drop i (body_at b (e ∷ es)) ≡ skip
    → slice_get (flat_body b) (position b (record { entries = e ∷ es; index = i })) ≡ Some r
    → position b (record { entries = e ∷ es; index = i })
    ≡ position b (record { entries = es; index = e.index }) + r.reach
back_by slots regions b e es i r rules path end there =
    let p : Place = record { entries = e ∷ es; index = i } in
    let h = leave_head (sequence_drop e.index (body_at b es)) e.turns e.branch (rest_rows b es) path.0 in
    let rows = place_rows b p path ∙ ap (λ c. flat c ++ rest_rows b (e ∷ es)) end ∙ h.is in
    let same = same_row r _ (sym there ∙ row_there (flat_body b) (position b p) _ h.behind rows) in
    let reach = ap (λ (x : FlatStep). x.reach) same in
    let all = steps_all i (body_at b (e ∷ es)) end in
    let low = within slots regions b p rules path in
    let size = short slots regions b rules in
    omega (arith, reach, all, low, size)

back_from : (slots regions : ℕ) (b : Sequence) (es : List Entry) (i : ℕ) (r : FlatStep) → IsBody slots regions b
    → IsPath b es → next_by (sequence_drop i (body_at b es)) es ≡ Leave
    → slice_get (flat_body b) (position b (record { entries = es; index = i })) ≡ Some r
    → position b (record { entries = es; index = i })
    ≡ position b (around (record { entries = es; index = i }) es) + r.reach
back_from slots regions b [] i r rules path ends there =
    absurd (let inner = (end_of (sequence_drop i (body_at b [])) [] ends).1 in omega (arith, inner))
back_from slots regions b (e ∷ es) i r rules path ends there =
    back_by slots regions b e es i r rules path (end_of (sequence_drop i (body_at b (e ∷ es))) (e ∷ es) ends).0 there

pub back_to : (slots regions : ℕ) (b : Sequence) (p : Place) (n : ℕ) (r : FlatStep) → IsBody slots regions b
    → IsPath b p.entries → n ≡ position b p → next_at b p ≡ Leave → slice_get (flat_body b) n ≡ Some r
    → n ≡ position b (around p p.entries) + r.reach
back_to slots regions b p n r rules path on ends there =
    on ∙ back_from slots regions b p.entries p.index r rules path ends (ap (slice_get (flat_body b)) (sym on) ∙ there)

-- The row of a statement has the number of its steps.
header : (s : Statement) (k : Sequence) (t : List FlatStep)
    → (x : Next) × ((ys : List FlatStep) × (flat (andthen s k) ++ t ≡ row x (near (statement_steps s)) ∷ ys))
header (step s) k t =
    let one : 1 ≡ near 1 = omega arith in
    (Asks (statement_ask (step s)), (flat k ++ t, ap (λ n. row (Asks (statement_ask (step s))) n ∷ (flat k ++ t)) one))
header (loop n b) k t = (Enter n, (_, refl))
header (choice bs) k t = (choosing (branch_count bs), (_, refl))

whole_there : (slots regions : ℕ) (b : Sequence) (q : Place) (s : Statement) (k : Sequence) (r : FlatStep)
    → IsBody slots regions b → IsPath b q.entries → sequence_drop q.index (body_at b q.entries) ≡ andthen s k
    → slice_get (flat_body b) (position b q) ≡ Some r → (r.reach ≡ statement_steps s) × (r.reach < farthest)
whole_there slots regions b q s k r rules path h there =
    let t = rest_rows b q.entries in
    let (x, (ys, is)) = header s k t in
    let from : drop (position b q) (flat_body b) ≡ flat (andthen s k) ++ t =
    place_rows b q path ∙ ap (λ c. flat c ++ t) h in
    let same = same_row r _ (sym there ∙ row_there (flat_body b) (position b q) _ ys (from ∙ is)) in
    let reach = ap (λ (x : FlatStep). x.reach) same in
    let long = length-drop (position b q) (flat_body b) in
    let parts = length-append (flat (andthen s k)) t in
    let first = length_flat (andthen s k) in
    let size = short slots regions b rules in (
      omega (arith, reach, ap length from, long, parts, first, size),
      omega (arith, reach, ap length from, long, parts, first, size),
    )

-- Where a body is left, for its next turn or to behind the statement around it.
out_at_by : (slots regions : ℕ) (b d : Sequence) (e : Entry) (es : List Entry) (r : FlatStep) → IsBody slots regions b
    → IsPath b es → sequence_drop e.index (body_at b es) ≡ d → CanEnter d e.turns e.branch
    → slice_get (flat_body b) (position b (record { entries = es; index = e.index })) ≡ Some r → (t : ℕ) → e.turns ≡ t
    → (out_to t e es (position b (record { entries = es; index = e.index })) r.reach).at ≡ position b (left_to t e es)
out_at_by slots regions b skip e es r rules path h can there t is = absurd can
out_at_by slots regions b (andthen s k) e es r rules path h can there zero is =
    let whole = whole_there slots regions b (record { entries = es; index = e.index }) s k r rules path h there in
    let past = steps_next e.index (body_at b es) s k h in
    omega (arith, whole.0, past)
out_at_by slots regions b (andthen (step s) k) e es r rules path h can there (suc t) is = absurd can
out_at_by slots regions b (andthen (loop m c) k) e es r rules path h can there (suc t) is =
    let inside = ap (λ d. first_before_body d e.branch) h in
    omega (arith, inside)
out_at_by slots regions b (andthen (choice bs) k) e es r rules path h can there (suc t) is =
    absurd (let none = can.0 in omega (arith, none, is))

pub out_at : (slots regions : ℕ) (b : Sequence) (p : Place) (es : List Entry) (r : FlatStep) (c : Spot)
    → IsBody slots regions b → IsPath b es → HasNext es
    → slice_get (flat_body b) (position b (around p es)) ≡ Some r
    → (out_by es (position b (around p es)) r.reach c).at ≡ position b (left_by p es)
out_at slots regions b p [] r c rules path has there = absurd has
out_at slots regions b p (e ∷ es) r c rules path has there =
    out_at_by slots regions b (sequence_drop e.index (body_at b es)) e es r rules path.1 refl path.0 there e.turns refl

-- A statement's number is no higher than that of its step.
steps_some : (s : Statement) → 1 ≤ statement_steps s
steps_some (step s) = omega arith
steps_some (loop n b) = omega arith
steps_some (choice bs) = omega arith

steps_low : (i : ℕ) (b : Sequence) (s : Statement) (k : Sequence) → sequence_drop i b ≡ andthen s k → i ≤ steps_before i b
steps_low zero b s k h = omega arith
steps_low (suc i) skip s k h = absurd cc
steps_low (suc i) (andthen r c) s k h = omega (arith, steps_low i c s k h, steps_some r)

out_passed_by : (slots regions : ℕ) (b d : Sequence) (e : Entry) (es : List Entry) (r : FlatStep) → IsBody slots regions b
    → IsPath b es → sequence_drop e.index (body_at b es) ≡ d → CanEnter d e.turns e.branch
    → slice_get (flat_body b) (position b (record { entries = es; index = e.index })) ≡ Some r
    → e.index + 1 ≤ position b (record { entries = es; index = e.index }) + r.reach
out_passed_by slots regions b skip e es r rules path h can there = absurd can
out_passed_by slots regions b (andthen s k) e es r rules path h can there =
    let whole = whole_there slots regions b (record { entries = es; index = e.index }) s k r rules path h there in
    omega (arith, whole.0, steps_low e.index (body_at b es) s k h, steps_some s)

pub out_passed : (slots regions : ℕ) (b : Sequence) (p : Place) (es : List Entry) (r : FlatStep) → IsBody slots regions b
    → IsPath b es → HasNext es → slice_get (flat_body b) (position b (around p es)) ≡ Some r
    → IsPassedBy es (position b (around p es) + r.reach)
out_passed slots regions b p [] r rules path has there = absurd has
out_passed slots regions b p (e ∷ es) r rules path has there =
    out_passed_by slots regions b (sequence_drop e.index (body_at b es)) e es r rules path.1 refl path.0 there

out_small_by : (slots regions : ℕ) (b d : Sequence) (e : Entry) (es : List Entry) (r : FlatStep) → IsBody slots regions b
    → IsPath b es → sequence_drop e.index (body_at b es) ≡ d → CanEnter d e.turns e.branch
    → slice_get (flat_body b) (position b (record { entries = es; index = e.index })) ≡ Some r → r.reach < farthest
out_small_by slots regions b skip e es r rules path h can there = absurd can
out_small_by slots regions b (andthen s k) e es r rules path h can there =
    (whole_there slots regions b (record { entries = es; index = e.index }) s k r rules path h there).1

pub out_small : (slots regions : ℕ) (b : Sequence) (p : Place) (es : List Entry) (r : FlatStep) → IsBody slots regions b
    → IsPath b es → HasNext es → slice_get (flat_body b) (position b (around p es)) ≡ Some r → r.reach < farthest
out_small slots regions b p [] r rules path has there = absurd has
out_small slots regions b p (e ∷ es) r rules path has there =
    out_small_by slots regions b (sequence_drop e.index (body_at b es)) e es r rules path.1 refl path.0 there

out_place_to : (t : ℕ) (e : Entry) (es : List Entry) (n w : ℕ) → (out_to t e es n w).place ≡ left_to t e es
out_place_to zero e es n w = refl
out_place_to (suc t) e es n w = refl

pub out_place : (p : Place) (es : List Entry) (n w : ℕ) (c : Spot) → HasNext es → (out_by es n w c).place ≡ left_by p es
out_place p [] n w c has = absurd has
out_place p (e ∷ es) n w c has = out_place_to e.turns e es n w

-- The statement around a place is one of the body, too.
pub around_path : (b : Sequence) (p : Place) (es : List Entry) → IsPath b p.entries → IsPath b es → IsPath b (around p es).entries
around_path b p [] from path = from
around_path b p (e ∷ es) from path = path.1

-- ---- past an action

no_choice : (g : Geometry) (s : Step) (i : ℕ) → Does g s (Choose i) → ⊥
no_choice g (fix s r) i h = h
no_choice g (unfix s) i h = h
no_choice g (latch s m) i h = h
no_choice g (unlatch s) i h = h
no_choice g (gather s r) i h = h
no_choice g (scatter s) i h = h

pub record Chosen (d : Sequence) (i : ℕ) : Type 0 where
  pub branches : Alternatives
  pub rest : Sequence
  pub is : d ≡ andthen (choice branches) rest
  pub one : i < branch_count branches

pub chosen : (g : Geometry) (d : Sequence) (i : ℕ) → NamesAction g (first_ask d) (Choose i) → Chosen d i
chosen g skip i n = absurd n
chosen g (andthen (step s) k) i n = absurd (no_choice g s i (named_does g s (Choose i) n))
chosen g (andthen (loop m c) k) i n = absurd n
chosen g (andthen (choice bs) k) i n = record { branches = bs; rest = k; is = refl; one = n }

stepped : (g : Geometry) (d : Sequence) (a : Action) → NamesAction g (first_ask d) a → IsOfStep a
    → (s : Step) × ((k : Sequence) × (d ≡ andthen (step s) k))
stepped g skip a n of = absurd n
stepped g (andthen (step s) k) a n of = (s, (k, refl))
stepped g (andthen (loop m c) k) a n of = absurd n
stepped g (andthen (choice bs) k) (Choose i) n of = absurd of
stepped g (andthen (choice bs) k) (Fix s page) n of = absurd n
stepped g (andthen (choice bs) k) (Unfix s) n of = absurd n
stepped g (andthen (choice bs) k) (Latch s m) n of = absurd n
stepped g (andthen (choice bs) k) (Unlatch s) n of = absurd n
stepped g (andthen (choice bs) k) (Gather s page) n of = absurd n
stepped g (andthen (choice bs) k) (Scatter s) n of = absurd n

pub stepped_at : (g : Geometry) (b : Sequence) (p : Place) (a : Action) → NamesAction g (ask_at b p) a → IsOfStep a
    → position b (skipped p) ≡ position b p + 1
stepped_at g b p a n of =
    let (s, (k, h)) = stepped g (sequence_drop p.index (body_at b p.entries)) a n of in skipped_at b p s k h
