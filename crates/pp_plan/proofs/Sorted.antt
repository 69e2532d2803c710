-- Sorted names are the names in byte order.
use Rattle.std.proofs.Common.{◌≡◌, ◌⊎◌, inl, inr, ℕ, suc, ◌+◌, ◌<◌, ◌≤◌, Bool, true, false, cond, List, [], ◌∷◌}
use Rattle.std.proofs.Common.{length}
use Rattle.std.proofs.Common.{map, get_or, sum_by, String, Global, string_bytes, refl, sym, ap, subst, ◌∙◌, arith}
use Rattle.std.specs.List.{AllZip}
use Rattle.std.specs.List.Sorted.{IsPermutation, IsSortedBy}
use Rattle.std.specs.Str.{bytes_eq}
use Rattle.std.proofs.lemmas.Bool.{false≢true, false_from_ne_true}
use Rattle.std.proofs.lemmas.Cmp.{nat_list_cmp_total}
use Rattle.std.proofs.lemmas.List.{get_or-map, length-map}
use Rattle.std.proofs.lemmas.List.Sums.{sum_by-cons}
use Rattle.std.proofs.lemmas.List.Sorted.{IsPermutation-map, sum_by-IsPermutation, sorted_far, ranks_by}
use Rattle.std.proofs.lemmas.Option.{slice_get_within, get_or_from_slice_get}
use Rattle.std.proofs.lemmas.Slice.Eq.{bytes_eq-Decides}
use Rattle.pp_plan.specs.Names.{comes_before}
use Rattle.pp_plan.specs.Numbering.{in_byte_order}
use Rattle.pp_plan.proofs.Places.{Has, has_at}
use Rattle.pp_plan.proofs.Order.{before_trans, before_itself, before_cases, into, into_cases, all_into, order_is}

-- ---- lists that climb

-- No name comes before an earlier one.
abbrev Climbs : List (List ℕ) → Type 0
Climbs [] = Unit {0}
Climbs (x ∷ xs) = ((n : List ℕ) → Has xs n → comes_before n x ≡ false) × Climbs xs

not_before : (n x m : List ℕ) → comes_before n x ≡ true → comes_before m x ≡ false → comes_before m n ≡ false
not_before n x m below not =
    false_from_ne_true (comes_before m n) (λ e. false≢true (sym not ∙ before_trans m n x e below))

not_after : (n x : List ℕ) → comes_before n x ≡ true → comes_before x n ≡ false
not_after n x below = false_from_ne_true (comes_before x n) (λ e. before_itself n (before_trans n x n below e))

into_climbs : (xs : List (List ℕ)) (n : List ℕ) → Climbs xs → Climbs (into xs n)
into_climbs [] n s = ((λ m h. absurd h), tt)
into_climbs (x ∷ xs) n s = by (comes_before n x) refl (into_climbs xs n s.1)
  where
    first : comes_before n x ≡ true → (m : List ℕ) → Has (x ∷ xs) m → comes_before m n ≡ false
    first below m (inl e) = subst (λ (z : List ℕ). comes_before z n ≡ false) e (not_after n x below)
    first below m (inr h) = not_before n x m below (s.0 m h)

    later : comes_before n x ≡ false → (m : List ℕ) → (n ≡ m) ⊎ Has xs m → comes_before m x ≡ false
    later not m (inl e) = subst (λ (z : List ℕ). comes_before z x ≡ false) e not
    later not m (inr h) = s.0 m h

    by : (b : Bool) → comes_before n x ≡ b → Climbs (into xs n) → Climbs (cond b (n ∷ x ∷ xs) (x ∷ into xs n))
    by true e more = (first e, s)
    by false e more = ((λ m h. later e m (into_cases xs n m h)), more)

all_climb : (ns acc : List (List ℕ)) → Climbs acc → Climbs (all_into acc ns)
all_climb [] acc s = s
all_climb (n ∷ ns) acc s = all_climb ns (into acc n) (into_climbs acc n s)

order_climbs : (ns : List (List ℕ)) → Climbs (in_byte_order ns)
order_climbs ns = subst Climbs (sym (order_is ns)) (all_climb ns [] tt)

-- ---- how often a name stands in a list

abbrev times : List ℕ → List ℕ → ℕ
times n x = cond (bytes_eq x n) 1 0

abbrev count : List ℕ → List (List ℕ) → ℕ
count n [] = 0
count n (x ∷ xs) = times n x + count n xs

count_is : (n : List ℕ) (xs : List (List ℕ)) → sum_by (times n) xs ≡ count n xs
count_is n [] = refl
count_is n (x ∷ xs) = sum_by-cons (times n) x xs ∙ ap (λ (k : ℕ). times n x + k) (count_is n xs)

times_itself : (n : List ℕ) → times n n ≡ 1
times_itself n = ap (λ (b : Bool). let one : ℕ = cond b 1 0 in one) ((bytes_eq-Decides n n).1 refl)

times_other : (n x : List ℕ) → (x ≡ n → ⊥) → times n x ≡ 0
times_other n x other =
    ap (λ (b : Bool). let one : ℕ = cond b 1 0 in one)
    (false_from_ne_true (bytes_eq x n) (λ e. other ((bytes_eq-Decides x n).0 e)))

none_there : (n : List ℕ) (xs : List (List ℕ)) → (Has xs n → ⊥) → count n xs ≡ 0
none_there n [] out = refl
none_there n (x ∷ xs) out =
    let here = times_other n x (λ e. out (inl e)) in
    let more = none_there n xs (λ h. out (inr h)) in
    omega (arith, here, more)

into_count : (m : List ℕ) (xs : List (List ℕ)) (n : List ℕ) → count m (into xs n) ≡ times m n + count m xs
into_count m [] n = refl
into_count m (x ∷ xs) n = by (comes_before n x) (into_count m xs n)
  where
    by : (b : Bool) → count m (into xs n) ≡ times m n + count m xs
        → count m (cond b (n ∷ x ∷ xs) (x ∷ into xs n)) ≡ times m n + (times m x + count m xs)
    by true e = refl
    by false e = omega (arith, e)

all_count : (m : List ℕ) (ns acc : List (List ℕ)) → count m (all_into acc ns) ≡ count m acc + count m ns
all_count m [] acc = omega arith
all_count m (n ∷ ns) acc = let a = all_count m ns (into acc n) in let b = into_count m acc n in omega (arith, a, b)

order_count : (m : List ℕ) (ns : List (List ℕ)) → count m (in_byte_order ns) ≡ count m ns
order_count m ns = let a = all_count m ns [] in ap (count m) (order_is ns) ∙ omega (arith, a)

-- ---- two lists that climb and have each name equally often are the same

least_out : (x y : List ℕ) (ys : List (List ℕ)) → Climbs (y ∷ ys) → comes_before x y ≡ true → Has (y ∷ ys) x → ⊥
least_out x y ys s below (inl e) = before_itself x (subst (λ (z : List ℕ). comes_before x z ≡ true) e below)
least_out x y ys s below (inr h) = false≢true (sym (s.0 x h) ∙ below)

too_few : (x y : List ℕ) (xs ys : List (List ℕ)) → Climbs (y ∷ ys)
    → times x x + count x xs ≡ times x y + count x ys → comes_before x y ≡ true → ⊥
too_few x y xs ys s same below =
    let here = times_itself x in
    let none : times x y + count x ys ≡ 0 = none_there x (y ∷ ys) (least_out x y ys s below) in
    omega (arith, same, here, none)

climbs_same : (xs ys : List (List ℕ)) → Climbs xs → Climbs ys
    → ((n : List ℕ) → count n xs ≡ count n ys) → xs ≡ ys
climbs_same [] [] s t c = refl
climbs_same [] (y ∷ ys) s t c = let here = times_itself y in let e : 0 ≡ times y y + count y ys = c y in
    absurd (omega (arith, e, here))
climbs_same (x ∷ xs) [] s t c = let here = times_itself x in let e : times x x + count x xs ≡ 0 = c x in
    absurd (omega (arith, e, here))
climbs_same (x ∷ xs) (y ∷ ys) s t c =
    let same : x ≡ y = heads (before_cases x y) in
    let rest : xs ≡ ys = climbs_same xs ys s.1 t.1 (λ n. tails n (c n) (ap (times n) same)) in
    λ i. same i ∷ rest i
  where
    heads : (comes_before x y ≡ true) ⊎ ((x ≡ y) ⊎ (comes_before y x ≡ true)) → x ≡ y
    heads (inl below) = absurd (too_few x y xs ys t (c x) below)
    heads (inr (inl e)) = e
    heads (inr (inr above)) = absurd (too_few y x ys xs s (sym (c y)) above)

    tails : (n : List ℕ) → times n x + count n xs ≡ times n y + count n ys → times n x ≡ times n y
        → count n xs ≡ count n ys
    tails n all here = omega (arith, all, here)

-- ---- texts that were sorted

-- Clones of texts have the same bytes.
pub texts_cloned : (xs ys : List (String Global)) → AllZip (λ s t. string_bytes t ≡ string_bytes s) xs ys
    → map string_bytes ys ≡ map string_bytes xs
texts_cloned [] [] h = refl
texts_cloned [] (y ∷ ys) h = absurd h
texts_cloned (x ∷ xs) [] h = absurd h
texts_cloned (x ∷ xs) (y ∷ ys) h = let rest = texts_cloned xs ys h.1 in let here = h.0 in λ i. here i ∷ rest i

climbs_from : (ys : List (List ℕ))
    → ((i j : ℕ) (d : List ℕ) → i ≤ j → j < length ys → comes_before (get_or ys j d) (get_or ys i d) ≡ false)
    → Climbs ys
climbs_from [] far = tt
climbs_from (x ∷ xs) far = (
  (λ n h.
      let (k, is) = has_at xs n h in
      let within = slice_get_within xs k n is in
      subst (λ (z : List ℕ). comes_before z x ≡ false) (get_or_from_slice_get xs k n [] is)
      (far 0 (suc k) [] (omega arith) (omega (arith, within)))),
  climbs_from xs (λ i j d p q. far (suc i) (suc j) d (omega (arith, p)) (omega (arith, q))),
)

sorted_texts : (s : String Global) (v : List (String Global))
    → IsSortedBy (λ a b. comes_before (string_bytes a) (string_bytes b)) v
    → IsSortedBy comes_before (map string_bytes v)
sorted_texts s v sorted k d low high =
    let long = length-map v string_bytes in
    let within : k + 1 < length v = omega (arith, long, high) in
    rw (get_or-map string_bytes v (k + 1) s d within, get_or-map string_bytes v k s d (omega (arith, within)))
    (sorted k s low within)

texts_climb : (v : List (String Global)) → IsSortedBy (λ a b. comes_before (string_bytes a) (string_bytes b)) v
    → Climbs (map string_bytes v)
texts_climb [] sorted = tt
texts_climb (s ∷ v) sorted =
    climbs_from (map string_bytes (s ∷ v))
    (λ i j d p q.
    sorted_far comes_before (ranks_by nat_list_cmp_total (λ (x : List ℕ). x)) (map string_bytes (s ∷ v))
    (sorted_texts s (s ∷ v) sorted) i j d p q)

-- Texts that are the names in another order, and sorted, are the names in byte order.
pub sorted_is : (names : List (List ℕ)) (before after : List (String Global)) → map string_bytes before ≡ names
    → IsPermutation before after → IsSortedBy (λ a b. comes_before (string_bytes a) (string_bytes b)) after
    → map string_bytes after ≡ in_byte_order names
sorted_is names before after same moved sorted =
    climbs_same (map string_bytes after) (in_byte_order names) (texts_climb after sorted) (order_climbs names)
    (λ n.
    sym (count_is n (map string_bytes after))
    ∙ sum_by-IsPermutation (times n) (map string_bytes before) (map string_bytes after)
    (IsPermutation-map string_bytes before after moved)
    ∙ count_is n (map string_bytes before) ∙ ap (count n) same ∙ sym (order_count n names))
