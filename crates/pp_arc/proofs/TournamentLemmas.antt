-- Lemmas on a tournament: a node is mended, a key is written, the root has the greatest key.
use Rattle.std.proofs.Common.{◌≡◌, ◌≢◌, ◌⊎◌, ℕ, ◌+◌, ◌-◌, ◌*◌, ◌/◌, ◌<◌, ◌≤◌, zero, suc, List, length, drop, max, set, get_or}
use Rattle.std.proofs.Common.{arith, ap, sym, subst, ◌∙◌, inl, inr, get_or-set_other, get_or-set_same, length-set, length-drop}
use Rattle.std.proofs.lemmas.Bool.{cases_eq, cases_lt}
use Rattle.std.proofs.lemmas.List.{get_or-drop, get_or_past, drop-set-add, set-get_or, set_comm}
use Rattle.pp_arc.specs.Tournament.{Wins, WinsBut}

-- a node whose match was right all along
pub whole : (xs : List ℕ) (h : ℕ) → WinsBut xs h
    → get_or xs h 0 ≡ max (get_or xs (2 * h) 0) (get_or xs (2 * h + 1) 0) → Wins xs
whole xs h w e = λ j one two ne. elim (cases_eq j h) [
  | inl is ↦ subst (λ (i : ℕ). get_or xs i 0 ≡ max (get_or xs (2 * i) 0) (get_or xs (2 * i + 1) 0)) (sym is) e
  | inr away ↦ w j one two away
]

-- a match is played again, and the one above it is to be
pub mended : (xs : List ℕ) (h m : ℕ) → 0 < h → 2 * h + 1 < length xs → WinsBut xs h
    → m ≡ max (get_or xs (2 * h) 0) (get_or xs (2 * h + 1) 0) → WinsBut (set xs h m) (h / 2)
mended xs h m some low w e = λ j one two ne.
    let left : get_or (set xs h m) (2 * j) 0 ≡ get_or xs (2 * j) 0 = get_or-set_other xs h (2 * j) m 0 (left_of j one ne) in
    let right : get_or (set xs h m) (2 * j + 1) 0 ≡ get_or xs (2 * j + 1) 0 =
    get_or-set_other xs h (2 * j + 1) m 0 (right_of j ne) in
    elim (cases_eq j h) [
      | inl is ↦ rw (left, right) (subst (λ (i : ℕ). get_or (set xs h m) i 0
          ≡ max (get_or xs (2 * i) 0) (get_or xs (2 * i + 1) 0)) (sym is)
          (get_or-set_same xs h m 0 (omega arith) ∙ e))
      | inr away ↦ rw (left, right) (get_or-set_other xs h j m 0 away ∙ w j one (omega (arith, length-set xs h m)) away)
    ]
  where
    left_of : (j : ℕ) → 1 ≤ j → j ≢ h / 2 → 2 * j ≢ h
    left_of j one ne = omega arith

    right_of : (j : ℕ) → j ≢ h / 2 → 2 * j + 1 ≢ h
    right_of j ne = omega arith

-- a leaf gets a key, and the match above it is to be played
pub written : (xs : List ℕ) (h m : ℕ) → length xs ≤ 2 * h → Wins xs → WinsBut (set xs h m) (h / 2)
written xs h m leaf w = λ j one two ne.
    let two' : 2 * j + 1 < length xs = omega (arith, length-set xs h m) in
    rw (
      get_or-set_other xs h (2 * j) m 0 (left_of j ne),
      get_or-set_other xs h (2 * j + 1) m 0 (right_of j ne),
      get_or-set_other xs h j m 0 (omega arith),
    ) (w j one two' (omega arith))
  where
    left_of : (j : ℕ) → j ≢ h / 2 → 2 * j ≢ h
    left_of j ne = omega arith

    right_of : (j : ℕ) → j ≢ h / 2 → 2 * j + 1 ≢ h
    right_of j ne = omega arith

-- what a written leaf is among the leaves
pub leaf_written : (xs : List ℕ) (h n m : ℕ) → n ≤ h → drop n (set xs h m) ≡ set (drop n xs) (h - n) m
leaf_written xs h n m le =
    let e : n + (h - n) ≡ h = omega arith in
    subst (λ (i : ℕ). drop n (set xs i m) ≡ set (drop n xs) (h - n) m) e (drop-set-add n xs (h - n) m)

pub leaf_same : (xs : List ℕ) (h n m : ℕ) → n ≤ h → get_or xs h 0 ≡ m → drop n xs ≡ set (drop n xs) (h - n) m
leaf_same xs h n m le is =
    let e : n + (h - n) ≡ h = omega arith in
    let at : get_or (drop n xs) (h - n) 0 ≡ m =
    get_or-drop n xs (h - n) 0 ∙ ap (λ (i : ℕ). get_or xs i 0) e ∙ is in
    sym (subst (λ (i : ℕ). set (drop n xs) (h - n) i ≡ drop n xs) at (set-get_or (drop n xs) (h - n) 0))

-- the root has the greatest key
pub top : (xs : List ℕ) (n i : ℕ) → length xs ≡ 2 * n → Wins xs → 1 ≤ i → i < length xs → get_or xs i 0 ≤ get_or xs 1 0
top xs n i size w one low = go i i (omega arith) one low
  where
    go : (f j : ℕ) → j ≤ f → 1 ≤ j → j < length xs → get_or xs j 0 ≤ get_or xs 1 0
    go zero j le one low = absurd (omega arith)
    go (suc f) j le one low = elim (cases_eq j 1) [
      | inl is ↦ let e : get_or xs j 0 ≡ get_or xs 1 0 = ap (λ (i : ℕ). get_or xs i 0) is in omega arith
      | inr away ↦
          let up : get_or xs (j / 2) 0 ≤ get_or xs 1 0 = go f (j / 2) (omega arith) (omega arith) (omega arith) in
          let won : get_or xs (j / 2) 0 ≡ max (get_or xs (2 * (j / 2)) 0) (get_or xs (2 * (j / 2) + 1) 0) =
          w (j / 2) (omega arith) (omega arith) (omega arith) in
          elim (side j) [
            | inl is ↦ let e : get_or xs j 0 ≡ get_or xs (2 * (j / 2)) 0 = ap (λ (i : ℕ). get_or xs i 0) is in
                omega arith
            | inr is ↦ let e : get_or xs j 0 ≡ get_or xs (2 * (j / 2) + 1) 0 = ap (λ (i : ℕ). get_or xs i 0) is in
                omega arith
          ]
    ]
      where
        side : (j : ℕ) → (j ≡ 2 * (j / 2)) ⊎ (j ≡ 2 * (j / 2) + 1)
        side j = elim (cases_eq j (2 * (j / 2))) [ inl is ↦ inl is | inr away ↦ inr (omega arith) ]

-- ---- the keys

pub keys_length : (xs : List ℕ) (n w k : ℕ) → length xs ≡ 2 * n → length (set (drop n xs) w k) ≡ n
keys_length xs n w k size = omega (arith, length-set (drop n xs) w k, length-drop n xs)

-- no key in the tree is greater than the root's
in_tree : (xs : List ℕ) (n q : ℕ) → length xs ≡ 2 * n → Wins xs → get_or (drop n xs) q 0 ≤ get_or xs 1 0
in_tree xs n q size w =
    let e : get_or (drop n xs) q 0 ≡ get_or xs (n + q) 0 = get_or-drop n xs q 0 in
    elim (cases_lt q n) [
      | inl low ↦ omega (arith, top xs n (n + q) size w (omega arith) (omega arith))
      | inr past ↦ omega (arith, get_or_past xs (n + q) 0 (omega arith))
    ]

-- who waits has the key outside, where there is one
outside_most : (ks : List ℕ) (w k : ℕ) → get_or (set ks w k) w 0 ≤ k
outside_most ks w k = elim (cases_lt w (length ks)) [
  | inl low ↦ omega (arith, get_or-set_same ks w k 0 low)
  | inr past ↦ omega (arith, get_or_past (set ks w k) w 0 (omega (arith, length-set ks w k)))
]

-- no key is greater than both the root's and that outside
all_most : (xs : List ℕ) (n w k m q : ℕ) → length xs ≡ 2 * n → Wins xs → get_or xs 1 0 ≤ m → k ≤ m
    → get_or (set (drop n xs) w k) q 0 ≤ m
all_most xs n w k m q size wins root out = elim (cases_eq q w) [
  | inl is ↦ subst (λ (i : ℕ). get_or (set (drop n xs) w k) i 0 ≤ m) (sym is)
      (omega (arith, outside_most (drop n xs) w k))
  | inr away ↦ omega (arith, get_or-set_other (drop n xs) w q k 0 away, in_tree xs n q size wins)
]

-- the winner in the tree has the greatest key
pub greatest_in : (xs : List ℕ) (n w k r p : ℕ) → length xs ≡ 2 * n → Wins xs → get_or (drop n xs) w 0 ≡ 0
    → k < get_or xs 1 0 → r < length xs → length xs ≤ 2 * r + 1 → get_or xs r 0 ≡ get_or xs 1 0 → r - n ≡ p
    → (0 < get_or (set (drop n xs) w k) p 0)
    × ((q : ℕ) → get_or (set (drop n xs) w k) q 0 ≤ get_or (set (drop n xs) w k) p 0)
greatest_in xs n w k r p size wins outside more low leaf key at =
    let there : n + p ≡ r = omega arith in
    let e : get_or (drop n xs) p 0 ≡ get_or xs 1 0 =
    get_or-drop n xs p 0 ∙ ap (λ (i : ℕ). get_or xs i 0) there ∙ key in
    let away : p ≢ w = λ is. let z : get_or (drop n xs) p 0 ≡ 0 = ap (λ (i : ℕ). get_or (drop n xs) i 0) is ∙ outside in
    absurd (omega arith) in
    let mine : get_or (set (drop n xs) w k) p 0 ≡ get_or xs 1 0 = get_or-set_other (drop n xs) w p k 0 away ∙ e in
    (omega arith, λ q. omega (arith, all_most xs n w k (get_or xs 1 0) q size wins (omega arith) (omega arith)))

-- who waits outside of the tree has the greatest key
pub greatest_outside : (xs : List ℕ) (n w k p : ℕ) → length xs ≡ 2 * n → Wins xs → get_or xs 1 0 ≤ k → 0 < k → w < n
    → w ≡ p → (0 < get_or (set (drop n xs) w k) p 0)
    × ((q : ℕ) → get_or (set (drop n xs) w k) q 0 ≤ get_or (set (drop n xs) w k) p 0)
greatest_outside xs n w k p size wins root some low at =
    let mine : get_or (set (drop n xs) w k) p 0 ≡ k = subst (λ (i : ℕ). get_or (set (drop n xs) w k) i 0 ≡ k) at
    (get_or-set_same (drop n xs) w k 0 (omega (arith, length-drop n xs))) in
    (omega arith, λ q. omega (arith, all_most xs n w k k q size wins root (omega arith)))

-- no entrant has a key
pub greatest_none : (xs : List ℕ) (n w k q : ℕ) → length xs ≡ 2 * n → Wins xs → get_or xs 1 0 ≤ k → k ≤ 0
    → get_or (set (drop n xs) w k) q 0 ≡ 0
greatest_none xs n w k q size wins root none =
    omega (arith, all_most xs n w k 0 q size wins (omega arith) none)

-- a key is written in the tree
pub rewritten : (xs ys : List ℕ) (n w k e key leaf : ℕ) → leaf ≡ n + e → e < n → e ≢ w
    → ((m : ℕ) → leaf / 2 < m → m ≤ leaf → drop m ys ≡ set (drop m xs) (leaf - m) key)
    → set (drop n ys) w k ≡ set (set (drop n xs) w k) e key
rewritten xs ys n w k e key leaf at low away f =
    let d : drop n ys ≡ set (drop n xs) (leaf - n) key = f n (omega arith) (omega arith) in
    let there : leaf - n ≡ e = omega arith in
    ap (λ (l : List ℕ). set l w k) (d ∙ ap (λ (i : ℕ). set (drop n xs) i key) there)
    ∙ set_comm (drop n xs) e w key k away
