-- Notes that stand in a list from some place on, each of which is within the peak; and how many notes a part of a plan
-- has.
use Rattle.std.proofs.Common.{◌≡◌, ℕ, suc, ◌+◌, ◌≤◌, Bool, Some, List, [], ◌∷◌, ◌++◌, length, refl, ap, subst, arith}
use Rattle.std.proofs.Common.{length-append}
use Rattle.std.specs.Prelude.{slice_get, unwrap_or}
use Rattle.pp_plan.specs.Tree.{Statement, step, loop, choice, Sequence, skip, andthen, Alternatives, none, either}
use Rattle.pp_cert.specs.Notes.{Entries, note_pins}
use Rattle.pp_cert.specs.Walk.{Claims, note_at, statement_end, sequence_end, alternatives_end}
use Rattle.pp_annotate.specs.Growth.{first_note}
use Rattle.pp_annotate.specs.Made.{after_statement, after_sequence, statement_notes, sequence_notes, branches_notes}
use Rattle.pp_annotate.specs.Made.{greatest}

abbrev pub Stand : (peak : ℕ) → List Entries → ℕ → List Entries → Type 0
Stand peak all k [] = Unit {0}
Stand peak all k (n ∷ ns) = (slice_get all k ≡ Some n) × (note_pins n ≤ peak) × Stand peak all (k + 1) ns

pub stand_append : (peak : ℕ) (all : List Entries) (k m : ℕ) (xs ys : List Entries) → k + length xs ≡ m
    → Stand peak all k xs → Stand peak all m ys → Stand peak all k (xs ++ ys)
stand_append peak all k m [] ys e s t = let at : m ≡ k = omega (arith, e) in subst (λ i. Stand peak all i ys) at t
stand_append peak all k m (x ∷ xs) ys e s t = (s.0, s.1, stand_append peak all (k + 1) m xs ys (omega (arith, e)) s.2 t)

pub stand_split : (peak : ℕ) (all : List Entries) (k m : ℕ) (xs ys : List Entries) → k + length xs ≡ m
    → Stand peak all k (xs ++ ys) → Stand peak all k xs × Stand peak all m ys
stand_split peak all k m [] ys e s = let at : k ≡ m = omega (arith, e) in (tt, subst (λ i. Stand peak all i ys) at s)
stand_split peak all k m (x ∷ xs) ys e s =
    let p = stand_split peak all (k + 1) m xs ys (omega (arith, e)) s.2 in
    ((s.0, s.1, p.0), p.1)

-- ---- whole lists

stand_back : (peak : ℕ) (x : Entries) (xs : List Entries) (k : ℕ) (ns : List Entries) → Stand peak (x ∷ xs) (suc k) ns
    → Stand peak xs k ns
stand_back peak x xs k [] s = tt
stand_back peak x xs k (n ∷ ns) s =
    let at : suc k + 1 ≡ suc (k + 1) = omega arith in
    (s.0, s.1, stand_back peak x xs (k + 1) ns (subst (λ i. Stand peak (x ∷ xs) i ns) at s.2))

-- where they stand from the first place on, and no other follow, they are the whole list
pub stand_whole : (peak : ℕ) (all ns : List Entries) → Stand peak all 0 ns → length all ≤ length ns → all ≡ ns
stand_whole peak [] [] s h = refl
stand_whole peak [] (n ∷ ns) s h = absurd (let e = s.0 in cc)
stand_whole peak (x ∷ xs) [] s h = absurd (omega (arith, h))
stand_whole peak (x ∷ xs) (n ∷ ns) s h =
    let first : x ≡ n = let e = s.0 in cc in
    let rest : xs ≡ ns = stand_whole peak xs ns (stand_back peak x xs 0 ns s.2) (omega (arith, h)) in
    λ i. first i ∷ rest i

pub stand_greatest : (peak : ℕ) (all : List Entries) (k : ℕ) (ns : List Entries) → Stand peak all k ns
    → greatest ns ≤ peak
stand_greatest peak all k [] s = omega arith
stand_greatest peak all k (n ∷ ns) s = omega (arith, s.1, stand_greatest peak all (k + 1) ns s.2)

get_behind : (front : List Entries) (n : Entries) (ns : List Entries)
    → slice_get (front ++ n ∷ ns) (length front) ≡ Some n
get_behind [] n ns = refl
get_behind (x ∷ front) n ns = get_behind front n ns

append_one : (front : List Entries) (n : Entries) (ns : List Entries) → (front ++ n ∷ []) ++ ns ≡ front ++ n ∷ ns
append_one [] n ns = refl
append_one (x ∷ front) n ns = ap (λ zs. x ∷ zs) (append_one front n ns)

stand_behind : (peak : ℕ) (front ns : List Entries) → greatest ns ≤ peak → Stand peak (front ++ ns) (length front) ns
stand_behind peak front [] h = tt
stand_behind peak front (n ∷ ns) h =
    let rest : Stand peak ((front ++ n ∷ []) ++ ns) (length (front ++ n ∷ [])) ns =
    stand_behind peak (front ++ n ∷ []) ns (omega (arith, h)) in
    let at : length (front ++ n ∷ []) ≡ length front + 1 = length-append front (n ∷ []) in
    let all : (front ++ n ∷ []) ++ ns ≡ front ++ n ∷ ns = append_one front n ns in (
      get_behind front n ns,
      omega (arith, h),
      subst (λ i. Stand peak (front ++ n ∷ ns) i ns) at
          (subst (λ xs. Stand peak xs (length (front ++ n ∷ [])) ns) all rest),
    )

-- each list stands in itself
pub stand_itself : (ns : List Entries) → Stand (greatest ns) ns 0 ns
stand_itself ns = stand_behind (greatest ns) [] ns (omega arith)

-- ---- how many there are

module _ (stop : ℕ) (kind : ℕ → Bool) where
  mutual
    pub statement_places : (k : ℕ) (s : Statement) (n : Entries)
        → k + 1 + length (statement_notes stop kind s n) ≡ statement_end k s
    statement_places k (step s) n = omega arith
    statement_places k (loop c b) n = omega (arith, sequence_places (k + 1) b (first_note stop kind c b n))
    statement_places k (choice bs) n = branches_places (k + 1) bs n

    pub sequence_places : (k : ℕ) (b : Sequence) (n : Entries)
        → k + length (sequence_notes stop kind b n) ≡ sequence_end k b
    sequence_places k skip n = omega arith
    sequence_places k (andthen s b) n =
        let m : Entries = after_statement stop kind s n in
        omega (
          arith,
          length-append (statement_notes stop kind s n) (m ∷ sequence_notes stop kind b m),
          statement_places k s n,
          sequence_places (statement_end k s) b m,
        )

    pub branches_places : (k : ℕ) (bs : Alternatives) (n : Entries)
        → k + length (branches_notes stop kind bs n) ≡ alternatives_end k bs
    branches_places k none n = omega arith
    branches_places k (either b bs) n =
        omega (
          arith,
          length-append (n ∷ sequence_notes stop kind b n) (branches_notes stop kind bs n),
          sequence_places k b n,
          branches_places (sequence_end k b + 1) bs n,
        )

-- ---- the note at a body's end

pub is_at : (c : Claims) (k : ℕ) (n : Entries) → slice_get c.notes k ≡ Some n → note_at c k ≡ n
is_at c k n s = ap (λ o. unwrap_or o []) s

pub ends_at : (c : Claims) (stop : ℕ) (kind : ℕ → Bool) (k : ℕ) (b : Sequence) (n : Entries) → note_at c k ≡ n
    → Stand c.peak c.notes (k + 1) (sequence_notes stop kind b n) → note_at c (sequence_end k b) ≡ after_sequence stop kind b n
ends_at c stop kind k skip n e h = e
ends_at c stop kind k (andthen s b) n e h =
    let next : ℕ = statement_end k s in
    let m : Entries = after_statement stop kind s n in
    let p =
    stand_split c.peak c.notes (k + 1) next (statement_notes stop kind s n) (m ∷ sequence_notes stop kind b m)
    (statement_places stop kind k s n) h in
    ends_at c stop kind next b m (is_at c next m p.1.0) p.1.2
