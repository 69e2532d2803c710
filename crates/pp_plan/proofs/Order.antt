-- Names put in byte order: the same names, each before the later ones.
use Rattle.std.proofs.Common.{◌≡◌, ◌⊎◌, inl, inr, ℕ, zero, suc, ◌+◌, ◌<◌, ◌≤◌, Bool, true, false, not, cond, IsTrue}
use Rattle.std.proofs.Common.{List, [], ◌∷◌, length, get_or, Some, All, AllPairs, refl, sym, ap, subst, ◌∙◌, arith}
use Rattle.std.proofs.Common.{Ordering, nat_cmp}
use Rattle.std.specs.List.{position_or_len, slice_get, insert, fold}
use Rattle.std.specs.Ordering.{is_lt, is_eq, ordering_reverse}
use Rattle.std.proofs.Common.{Less, Equal, Greater}
use Rattle.std.specs.Cmp.Lexicographic.{slice_cmp, texts_ties}
use Rattle.std.proofs.lemmas.Cmp.{nat_list_cmp_total, tied_itself}
use Rattle.std.proofs.lemmas.Bool.{false≢true}
use Rattle.std.proofs.lemmas.Slice.Eq.{bytes_eq-Decides}
use Rattle.std.proofs.lemmas.Option.{slice_get-get_or}
use Rattle.pp_plan.specs.Names.{comes_before}
use Rattle.pp_plan.specs.Numbering.{put_in, in_byte_order}
use Rattle.pp_plan.proofs.Places.{Has, has_at, at_has, AreApart}

-- ---- byte order

less_is : (o : Ordering) → is_lt o ≡ true → o ≡ Less
less_is Less e = refl
less_is Equal e = absurd (false≢true e)
less_is Greater e = absurd (false≢true e)

pub before_trans : (a b c : List ℕ) → comes_before a b ≡ true → comes_before b c ≡ true → comes_before a c ≡ true
before_trans a b c p q = ap is_lt (nat_list_cmp_total.trans a b c (less_is _ p) (less_is _ q))

pub before_itself : (a : List ℕ) → comes_before a a ≡ true → ⊥
before_itself a p = false≢true (sym (ap is_lt (tied_itself nat_list_cmp_total a)) ∙ p)

pub equal_is : (a b : List ℕ) → slice_cmp nat_cmp a b ≡ Equal → a ≡ b
equal_is a b e = (bytes_eq-Decides a b).0 (texts_ties a b ∙ ap is_eq e)

three_ways : (a b : List ℕ) (o p : Ordering) → slice_cmp nat_cmp a b ≡ o → slice_cmp nat_cmp b a ≡ p
    → o ≡ ordering_reverse p → (comes_before a b ≡ true) ⊎ ((a ≡ b) ⊎ (comes_before b a ≡ true))
three_ways a b Less p e f r = inl (ap is_lt e)
three_ways a b Equal p e f r = inr (inl (equal_is a b e))
three_ways a b Greater Less e f r = inr (inr (ap is_lt f))
three_ways a b Greater Equal e f r = absurd cc
three_ways a b Greater Greater e f r = absurd cc

pub before_cases : (a b : List ℕ) → (comes_before a b ≡ true) ⊎ ((a ≡ b) ⊎ (comes_before b a ≡ true))
before_cases a b =
    three_ways a b (slice_cmp nat_cmp a b) (slice_cmp nat_cmp b a) refl refl (nat_list_cmp_total.antisymm a b)

-- ---- lists in byte order

-- each name comes before those after it
abbrev pub Rises : List (List ℕ) → Type 0
Rises [] = Unit {0}
Rises (x ∷ xs) = ((n : List ℕ) → Has xs n → comes_before x n ≡ true) × Rises xs

pub rises_apart : (xs : List (List ℕ)) → Rises xs → AreApart xs
rises_apart [] s i j n a b = absurd cc
rises_apart (x ∷ xs) s zero zero n a b = refl
rises_apart (x ∷ xs) s zero (suc j) n a b =
    let same : x ≡ n = cc in
    absurd (before_itself n (subst (λ (y : List ℕ). comes_before y n ≡ true) same (s.0 n (at_has xs j n b))))
rises_apart (x ∷ xs) s (suc i) zero n a b =
    let same : x ≡ n = cc in
    absurd (before_itself n (subst (λ (y : List ℕ). comes_before y n ≡ true) same (s.0 n (at_has xs i n a))))
rises_apart (x ∷ xs) s (suc i) (suc j) n a b = ap suc (rises_apart xs s.1 i j n a b)

has_read : (xs : List (List ℕ)) (k : ℕ) (d : List ℕ) → k < length xs → Has xs (get_or xs k d)
has_read xs k d within = at_has xs k (get_or xs k d) (slice_get-get_or xs k d within)

pub rises_pairs : (xs : List (List ℕ)) → Rises xs → AllPairs (λ a b. IsTrue (comes_before a b)) xs
rises_pairs [] s i j d p q = absurd (omega (arith, q))
rises_pairs (x ∷ xs) s zero zero d p q = absurd (omega (arith, p))
rises_pairs (x ∷ xs) s zero (suc j) d p q = s.0 (get_or xs j d) (has_read xs j d (omega (arith, q)))
rises_pairs (x ∷ xs) s (suc i) zero d p q = absurd (omega (arith, p))
rises_pairs (x ∷ xs) s (suc i) (suc j) d p q = rises_pairs xs s.1 i j d (omega (arith, p)) (omega (arith, q))

pub pairs_rise : (xs : List (List ℕ)) → AllPairs (λ a b. IsTrue (comes_before a b)) xs → Rises xs
pairs_rise [] h = tt
pairs_rise (x ∷ xs) h = (
  λ n has.
      let (k, is) = has_at xs n has in
      let within : k < length xs = within_of xs k n is in
      subst (λ (y : List ℕ). comes_before x y ≡ true) (read_of xs k n is)
      (h 0 (suc k) [] (omega arith) (omega (arith, within))),
  pairs_rise xs (λ i j d p q. h (suc i) (suc j) d (omega (arith, p)) (omega (arith, q))),
)
  where
    within_of : (ys : List (List ℕ)) (k : ℕ) (n : List ℕ) → slice_get ys k ≡ Some n → k < length ys
    within_of [] k n e = absurd cc
    within_of (y ∷ ys) zero n e = omega arith
    within_of (y ∷ ys) (suc k) n e = let h = within_of ys k n e in omega (arith, h)

    read_of : (ys : List (List ℕ)) (k : ℕ) (n : List ℕ) → slice_get ys k ≡ Some n → get_or ys k [] ≡ n
    read_of [] k n e = absurd cc
    read_of (y ∷ ys) zero n e = cc
    read_of (y ∷ ys) (suc k) n e = read_of ys k n e

pub all_of : (P : List ℕ → Type 0) (xs : List (List ℕ)) → ((n : List ℕ) → Has xs n → P n) → All P xs
all_of P xs h k d within = h (get_or xs k d) (has_read xs k d within)

-- two lists in byte order with the same names are the same
pub rises_same : (xs ys : List (List ℕ)) → Rises xs → Rises ys → ((n : List ℕ) → Has xs n → Has ys n)
    → ((n : List ℕ) → Has ys n → Has xs n) → xs ≡ ys
rises_same [] [] s t f g = refl
rises_same [] (y ∷ ys) s t f g = absurd (g y (inl refl))
rises_same (x ∷ xs) [] s t f g = absurd (f x (inl refl))
rises_same (x ∷ xs) (y ∷ ys) s t f g =
    let same : x ≡ y = heads (before_cases x y) in
    let front : (n : List ℕ) → Has xs n → Has ys n =
    λ n h. elim (f n (inr h)) [
      | inl e ↦
          absurd (before_itself n (subst (λ (z : List ℕ). comes_before z n ≡ true) (same ∙ e) (s.0 n h)))
      | inr more ↦
          more
    ] in
    let back : (n : List ℕ) → Has ys n → Has xs n =
    λ n h. elim (g n (inr h)) [
      | inl e ↦
          absurd (before_itself n (subst (λ (z : List ℕ). comes_before z n ≡ true) (sym same ∙ e) (t.0 n h)))
      | inr more ↦
          more
    ] in
    let rest : xs ≡ ys = rises_same xs ys s.1 t.1 front back in
    λ i. same i ∷ rest i
  where
    heads : (comes_before x y ≡ true) ⊎ ((x ≡ y) ⊎ (comes_before y x ≡ true)) → x ≡ y
    heads (inl below) =
        elim (f x (inl refl)) [ inl e ↦ sym e | inr h ↦ absurd (before_itself x (before_trans x y x below (t.0 x h))) ]
    heads (inr (inl e)) = e
    heads (inr (inr above)) =
        elim (g y (inl refl)) [ inl e ↦ e | inr h ↦ absurd (before_itself y (before_trans y x y above (s.0 y h))) ]

-- what stands in a list of later names is not the first of them
not_least : (x y : List ℕ) (xs : List (List ℕ)) → ((n : List ℕ) → Has xs n → comes_before x n ≡ true)
    → comes_before y x ≡ true → (n : List ℕ) → Has (x ∷ xs) n → y ≡ n → ⊥
not_least x y xs later below n (inl e) w =
    before_itself x (subst (λ (z : List ℕ). comes_before z x ≡ true) (w ∙ sym e) below)
not_least x y xs later below n (inr k) w =
    before_itself n (before_trans n x n (subst (λ (z : List ℕ). comes_before z x ≡ true) w below) (later n k))

-- a list in byte order whose names are all among those of another is not longer
pub rises_short : (ys xs : List (List ℕ)) → Rises xs → Rises ys → ((n : List ℕ) → Has xs n → Has ys n)
    → length xs ≤ length ys
rises_short ys [] s t f = omega arith
rises_short [] (x ∷ xs) s t f = absurd (f x (inl refl))
rises_short (y ∷ ys) (x ∷ xs) s t f =
    elim (f x (inl refl)) as (λ _. length (x ∷ xs) ≤ length (y ∷ ys)) [
      | inl e ↦
          let rest : (n : List ℕ) → Has xs n → Has ys n =
          λ n h. elim (f n (inr h)) as (λ _. Has ys n) [
            | inl w ↦ absurd (before_itself n (subst (λ (z : List ℕ). comes_before z n ≡ true) (sym e ∙ w) (s.0 n h)))
            | inr r ↦ r
          ] in
          let more = rises_short ys xs s.1 t.1 rest in
          omega (arith, more)
      | inr h ↦
          let all : (n : List ℕ) → Has (x ∷ xs) n → Has ys n =
          λ n k. elim (f n k) as (λ _. Has ys n)
          [ inl w ↦ absurd (not_least x y xs s.0 (t.0 x h) n k w) | inr r ↦ r ] in
          let more = rises_short ys (x ∷ xs) s t.1 all in
          omega (arith, more)
    ]

-- ---- one name is put in

abbrev pub into : List (List ℕ) → List ℕ → List (List ℕ)
into [] n = n ∷ []
into (x ∷ xs) n = cond (comes_before n x) (n ∷ x ∷ xs) (x ∷ into xs n)

one_add : (k : ℕ) → 1 + k ≡ suc k
one_add k = omega arith

split_at : (x n : List ℕ) (xs : List (List ℕ)) (k : ℕ) → insert (x ∷ xs) (1 + k) n ≡ x ∷ insert xs k n
split_at x n xs k = rw (one_add k) refl

put_by : (x n : List ℕ) (xs : List (List ℕ)) (b : Bool) → comes_before n x ≡ b → put_in xs n ≡ into xs n
    → put_in (x ∷ xs) n ≡ cond b (n ∷ x ∷ xs) (x ∷ into xs n)
put_by x n xs true e more =
    ap (λ (c : Bool). insert (x ∷ xs) (cond (not c) (1 + position_or_len (comes_before n) xs) 0) n) e
put_by x n xs false e more =
    ap (λ (c : Bool). insert (x ∷ xs) (cond (not c) (1 + position_or_len (comes_before n) xs) 0) n) e
    ∙ split_at x n xs (position_or_len (comes_before n) xs) ∙ ap (λ (r : List (List ℕ)). x ∷ r) more

put_into : (xs : List (List ℕ)) (n : List ℕ) → put_in xs n ≡ into xs n
put_into [] n = refl
put_into (x ∷ xs) n = put_by x n xs (comes_before n x) refl (put_into xs n)

-- the names are those of before and the new one
pub into_cases : (xs : List (List ℕ)) (n m : List ℕ) → Has (into xs n) m → (n ≡ m) ⊎ Has xs m
into_cases [] n m h = h
into_cases (x ∷ xs) n m h = by (comes_before n x) h (into_cases xs n m)
  where
    by : (b : Bool) → Has (cond b (n ∷ x ∷ xs) (x ∷ into xs n)) m → (Has (into xs n) m → (n ≡ m) ⊎ Has xs m)
        → (n ≡ m) ⊎ ((x ≡ m) ⊎ Has xs m)
    by true h more = h
    by false (inl e) more = inr (inl e)
    by false (inr k) more = elim (more k) [ inl e ↦ inl e | inr old ↦ inr (inr old) ]

into_has : (xs : List (List ℕ)) (n m : List ℕ) → (n ≡ m) ⊎ Has xs m → Has (into xs n) m
into_has [] n m h = h
into_has (x ∷ xs) n m h = by (comes_before n x) h (into_has xs n m)
  where
    by : (b : Bool) → (n ≡ m) ⊎ ((x ≡ m) ⊎ Has xs m) → ((n ≡ m) ⊎ Has xs m → Has (into xs n) m)
        → Has (cond b (n ∷ x ∷ xs) (x ∷ into xs n)) m
    by true h more = h
    by false (inl e) more = inr (more (inl e))
    by false (inr (inl e)) more = inl e
    by false (inr (inr k)) more = inr (more (inr k))

into_length : (xs : List (List ℕ)) (n : List ℕ) → length (into xs n) ≡ suc (length xs)
into_length [] n = refl
into_length (x ∷ xs) n = by (comes_before n x) (into_length xs n)
  where
    by : (b : Bool) → length (into xs n) ≡ suc (length xs)
        → length (cond b (n ∷ x ∷ xs) (x ∷ into xs n)) ≡ suc (suc (length xs))
    by true e = refl
    by false e = ap suc e

after_it : (x n : List ℕ) (xs : List (List ℕ)) → comes_before n x ≡ true
    → ((m : List ℕ) → Has xs m → comes_before x m ≡ true) → (m : List ℕ) → Has (x ∷ xs) m → comes_before n m ≡ true
after_it x n xs below later m (inl e) = subst (λ (z : List ℕ). comes_before n z ≡ true) e below
after_it x n xs below later m (inr h) = before_trans n x m below (later m h)

still_first : (x n : List ℕ) → comes_before n x ≡ false → (x ≡ n → ⊥) → comes_before x n ≡ true
still_first x n e other =
    elim (before_cases x n) [
      | inl below ↦ below
      | inr rest ↦
          elim rest [ inl same ↦ absurd (other same) | inr above ↦ absurd (false≢true (sym e ∙ above)) ]
    ]

still_before : (x n : List ℕ) (xs : List (List ℕ)) → comes_before x n ≡ true
    → ((m : List ℕ) → Has xs m → comes_before x m ≡ true) → (m : List ℕ) → (n ≡ m) ⊎ Has xs m → comes_before x m ≡ true
still_before x n xs below later m (inl e) = subst (λ (z : List ℕ). comes_before x z ≡ true) e below
still_before x n xs below later m (inr h) = later m h

into_rises : (xs : List (List ℕ)) (n : List ℕ) → Rises xs → (Has xs n → ⊥) → Rises (into xs n)
into_rises [] n s new = ((λ m h. absurd h), tt)
into_rises (x ∷ xs) n s new = by (comes_before n x) refl (into_rises xs n s.1 (λ h. new (inr h)))
  where
    by : (b : Bool) → comes_before n x ≡ b → Rises (into xs n) → Rises (cond b (n ∷ x ∷ xs) (x ∷ into xs n))
    by true e more = (after_it x n xs e s.0, s)
    by false e more =
        ((λ m h. still_before x n xs (still_first x n e (λ same. new (inl same))) s.0 m (into_cases xs n m h)), more)

-- ---- all names

abbrev pub all_into : List (List ℕ) → List (List ℕ) → List (List ℕ)
all_into acc [] = acc
all_into acc (n ∷ ns) = all_into (into acc n) ns

fold_into : (ns acc : List (List ℕ)) → fold put_in acc ns ≡ all_into acc ns
fold_into [] acc = refl
fold_into (n ∷ ns) acc = ap (λ (a : List (List ℕ)). fold put_in a ns) (put_into acc n) ∙ fold_into ns (into acc n)

all_cases : (ns acc : List (List ℕ)) (m : List ℕ) → Has (all_into acc ns) m → Has acc m ⊎ Has ns m
all_cases [] acc m h = inl h
all_cases (n ∷ ns) acc m h =
    elim (all_cases ns (into acc n) m h) as (λ _. Has acc m ⊎ ((n ≡ m) ⊎ Has ns m)) [
      | inl k ↦ elim (into_cases acc n m k) as (λ _. Has acc m ⊎ ((n ≡ m) ⊎ Has ns m))
          [ inl e ↦ inr (inl e) | inr old ↦ inl old ]
      | inr k ↦ inr (inr k)
    ]

all_has : (ns acc : List (List ℕ)) (m : List ℕ) → Has acc m ⊎ Has ns m → Has (all_into acc ns) m
all_has [] acc m (inl h) = h
all_has [] acc m (inr h) = absurd h
all_has (n ∷ ns) acc m (inl h) = all_has ns (into acc n) m (inl (into_has acc n m (inr h)))
all_has (n ∷ ns) acc m (inr (inl e)) = all_has ns (into acc n) m (inl (into_has acc n m (inl e)))
all_has (n ∷ ns) acc m (inr (inr h)) = all_has ns (into acc n) m (inr h)

all_length : (ns acc : List (List ℕ)) → length (all_into acc ns) ≡ length acc + length ns
all_length [] acc = omega arith
all_length (n ∷ ns) acc = let a = all_length ns (into acc n) in let b = into_length acc n in omega (arith, a, b)

first_apart : (n : List ℕ) (ns : List (List ℕ)) → AreApart (n ∷ ns) → Has ns n → ⊥
first_apart n ns apart h = let (k, is) = has_at ns n h in let e : 0 ≡ suc k = apart 0 (suc k) n refl is in
    absurd (omega (arith, e))

rest_apart : (n : List ℕ) (ns : List (List ℕ)) → AreApart (n ∷ ns) → AreApart ns
rest_apart n ns apart i j m a b = let e : suc i ≡ suc j = apart (suc i) (suc j) m a b in omega (arith, e)

all_rise : (ns acc : List (List ℕ)) → Rises acc → AreApart ns → ((m : List ℕ) → Has ns m → Has acc m → ⊥)
    → Rises (all_into acc ns)
all_rise [] acc s apart new = s
all_rise (n ∷ ns) acc s apart new =
    all_rise ns (into acc n) (into_rises acc n s (new n (inl refl))) (rest_apart n ns apart)
    (λ m h k. elim (into_cases acc n m k) as (λ _. ⊥)
    [ inl e ↦ first_apart n ns apart (subst (λ (z : List ℕ). Has ns z) (sym e) h) | inr old ↦ new m (inr h) old ])

pub order_is : (ns : List (List ℕ)) → in_byte_order ns ≡ all_into [] ns
order_is ns = fold_into ns []

pub order_rises : (ns : List (List ℕ)) → AreApart ns → Rises (in_byte_order ns)
order_rises ns apart = subst Rises (sym (order_is ns)) (all_rise ns [] tt apart (λ m h k. k))

pub order_length : (ns : List (List ℕ)) → length (in_byte_order ns) ≡ length ns
order_length ns = let a = ap length (order_is ns) in let b = all_length ns [] in omega (arith, a, b)

pub order_from : (ns : List (List ℕ)) (m : List ℕ) → Has (in_byte_order ns) m → Has ns m
order_from ns m h =
    elim (all_cases ns [] m (subst (λ (xs : List (List ℕ)). Has xs m) (order_is ns) h)) as (λ _. Has ns m)
    [ inl k ↦ absurd k | inr k ↦ k ]

pub order_has : (ns : List (List ℕ)) (m : List ℕ) → Has ns m → Has (in_byte_order ns) m
order_has ns m h = subst (λ (xs : List (List ℕ)). Has xs m) (sym (order_is ns)) (all_has ns [] m (inr h))
