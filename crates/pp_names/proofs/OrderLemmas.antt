-- Lemmas on the names without a key: one is given out, taken back, and there are more.
use Rattle.std.proofs.Common.{◌≡◌, ◌≢◌, ℕ, suc, ◌+◌, ◌-◌, ◌<◌, ◌≤◌, List, [], ◌∷◌, ◌++◌, length, drop, get_or, set, replicate}
use Rattle.std.proofs.Common.{true, false, eqb, arith, ap, sym, refl, ◌∙◌, inl, inr, add-one}
use Rattle.std.proofs.Common.{drop-cons, length-append, get_or-set_other, get_or-set_same, length-set}
use Rattle.std.specs.Prelude.{Option, None, Some, is_some}
use Rattle.std.proofs.lemmas.Bool.{cases_eq, cases_lt, ne_eqb, eq-eqb}
use Rattle.std.proofs.lemmas.List.{get_or_past, drop-append-le, drop-set-lt, length-replicate, get_or_append_left, get_or-append_right}
use Rattle.std.proofs.lemmas.List.{get_or-replicate, set-set}
use Rattle.std.proofs.lemmas.List.Sums.{sum_by-set, sum_by-cons, sum_by-append, sum_by_push, count_by-le-length}
use Rattle.std.proofs.lemmas.List.Folds.{sum_by-replicate}
use Rattle.pp_names.specs.Names.{key_of, named_count}
use Rattle.pp_names.specs.Ordered.{times_in, one_if, IsOrdered, IsLengthened}

count-set : (names : List (Option ℕ)) (n : ℕ) (o : Option ℕ) → n < length names
    → named_count (set names n o) + one_if (is_some (key_of names n)) ≡ named_count names + one_if (is_some o)
count-set names n o lt = sum_by-set (λ x. one_if (is_some x)) names n o None lt

same-eqb : (a b : ℕ) → a ≡ b → one_if (eqb a b) ≡ 1
same-eqb a b e = ap one_if (eq-eqb a b e)

other-eqb : (a b : ℕ) → a ≢ b → one_if (eqb a b) ≡ 0
other-eqb a b f = ap one_if (ne_eqb a b f)

some_one : (o : Option ℕ) → one_if (is_some o) ≡ 0 → o ≡ None
some_one None e = refl
some_one (Some k) e = absurd (omega (arith, e))

-- ---- a name is given out

first_of : (order : List ℕ) (used f g : ℕ) → used < length order → f ≡ get_or order used 0
    → times_in (drop used order) g ≡ one_if (eqb f g) + times_in (drop (used + 1) order) g
first_of order used f g lt e =
    let first : drop used order ≡ f ∷ drop (used + 1) order = rw (add-one, e) (drop-cons order used 0 lt) in
    ap (λ xs. times_in xs g) first ∙ sum_by-cons (λ x. one_if (eqb x g)) f (drop (used + 1) order)

pub record IsOpen (names : List (Option ℕ)) (order : List ℕ) (used f : ℕ) : Type 0 where
  pub room : used < length order
  pub below : f < length names
  pub unused : key_of names f ≡ None

pub room_of : (names : List (Option ℕ)) (order : List ℕ) (used : ℕ) → IsOrdered names order used
    → named_count names < length names → used < length order
room_of names order used h lt = omega (arith, h.size, h.named, lt)

pub open_first : (names : List (Option ℕ)) (order : List ℕ) (used f : ℕ) → IsOrdered names order used
    → named_count names < length names → f ≡ get_or order used 0 → IsOpen names order used f
open_first names order used f h lt e =
    let room : used < length order = room_of names order used h lt in
    let once : times_in (drop used order) f ≡ one_if (eqb f f) + times_in (drop (used + 1) order) f =
    first_of order used f f room e in
    let low : f < length names = elim (cases_lt f (length names)) [
      | inl lt ↦ lt
      | inr le ↦ absurd (omega (arith, once, same-eqb f f refl, h.never f le))
    ] in
    record {
      room = room;
      below = low;
      unused = some_one (key_of names f) (omega (arith, once, same-eqb f f refl, h.once f low));
    }

pub ordered-give : (names : List (Option ℕ)) (order : List ℕ) (used f k : ℕ) → IsOrdered names order used
    → named_count names < length names → f ≡ get_or order used 0
    → IsOrdered (set names f (Some k)) order (used + 1)
ordered-give names order used f k h lt e = record {
  size = omega (arith, h.size, length-set names f (Some k));
  fits = omega (arith, h.fits, length-set names f (Some k));
  named = omega (arith, h.named, count-set names f (Some k) first.below, ap (λ (o : Option ℕ). one_if (is_some o)) first.unused);
  once = λ g low. elim (cases_eq g f) [
    | inl is ↦
        let now : one_if (is_some (key_of (set names f (Some k)) g)) ≡ 1 =
        ap (λ (i : ℕ). one_if (is_some (key_of (set names f (Some k)) i))) is
        ∙ ap (λ (o : Option ℕ). one_if (is_some o)) (get_or-set_same names f (Some k) None first.below) in
        let was : one_if (is_some (key_of names g)) ≡ 0 =
        ap (λ (i : ℕ). one_if (is_some (key_of names i))) is ∙ ap (λ (o : Option ℕ). one_if (is_some o)) first.unused in
        omega (
          arith,
          now,
          was,
          h.once g (omega (arith, low, length-set names f (Some k))),
          first_of order used f g first.room e,
          same-eqb f g (sym is),
        )
    | inr ne ↦
        let now : one_if (is_some (key_of (set names f (Some k)) g)) ≡ one_if (is_some (key_of names g)) =
        ap (λ (o : Option ℕ). one_if (is_some o)) (get_or-set_other names f g (Some k) None ne) in
        omega (
          arith,
          now,
          h.once g (omega (arith, low, length-set names f (Some k))),
          first_of order used f g first.room e,
          other-eqb f g (λ z. ne (sym z)),
        )
  ];
  never = λ g past.
      let far : length names ≤ g = omega (arith, past, length-set names f (Some k)) in
      omega (
        arith,
        h.never g far,
        first_of order used f g first.room e,
        other-eqb f g (omega (arith, first.below, far)),
      );
}
  where
    first : IsOpen names order used f
    first = open_first names order used f h lt e

-- ---- a name is taken back

freed_front : (order : List ℕ) (used f g : ℕ) → 1 ≤ used → used ≤ length order
    → times_in (drop (used - 1) (set order (used - 1) f)) g ≡ one_if (eqb f g) + times_in (drop used order) g
freed_front order used f g some within =
    let lt : used - 1 < length order = omega arith in
    let lt' : used - 1 < length (set order (used - 1) f) = omega (arith, length-set order (used - 1) f) in
    let next : suc (used - 1) ≡ used = omega arith in
    let front : drop (used - 1) (set order (used - 1) f) ≡ f ∷ drop used order =
    drop-cons (set order (used - 1) f) (used - 1) 0 lt'
    ∙ ap (λ x. x ∷ drop (suc (used - 1)) (set order (used - 1) f)) (get_or-set_same order (used - 1) f 0 lt)
    ∙ ap (λ xs. f ∷ xs) (drop-set-lt (suc (used - 1)) order (used - 1) f (omega arith))
    ∙ ap (λ n. f ∷ drop n order) next in
    ap (λ xs. times_in xs g) front ∙ sum_by-cons (λ x. one_if (eqb x g)) f (drop used order)

pub record IsUsed (names : List (Option ℕ)) (order : List ℕ) (used f : ℕ) : Type 0 where
  pub some : 1 ≤ used
  pub low : used - 1 < length order
  pub below : f < length names

pub used_of : (names : List (Option ℕ)) (order : List ℕ) (used f : ℕ) → IsOrdered names order used
    → is_some (key_of names f) ≡ true → IsUsed names order used f
used_of names order used f h is =
    let low : f < length names = elim (cases_lt f (length names)) [
      | inl lt ↦ lt
      | inr le ↦ let z : false ≡ true = sym (ap is_some (get_or_past names f None le)) ∙ is in absurd (cc)
    ] in
    let some : 1 ≤ used = omega (arith, h.named, count-set names f None low, ap one_if is) in
    record {
      some = some;
      low = omega (arith, h.size, h.named, count_by-le-length is_some names, some);
      below = low;
    }

pub ordered-take : (names : List (Option ℕ)) (order : List ℕ) (used f : ℕ) → IsOrdered names order used
    → is_some (key_of names f) ≡ true
    → IsOrdered (set names f None) (set order (used - 1) f) (used - 1)
ordered-take names order used f h is = record {
  size = omega (arith, h.size, length-set names f None, length-set order (used - 1) f);
  fits = omega (arith, h.fits, length-set names f None);
  named = omega (arith, h.named, count-set names f None used'.below, ap one_if is);
  once = λ g low. elim (cases_eq g f) [
    | inl same ↦
        let now : one_if (is_some (key_of (set names f None) g)) ≡ 0 =
        ap (λ (i : ℕ). one_if (is_some (key_of (set names f None) i))) same
        ∙ ap (λ (o : Option ℕ). one_if (is_some o)) (get_or-set_same names f None None used'.below) in
        let was : one_if (is_some (key_of names g)) ≡ 1 =
        ap (λ (i : ℕ). one_if (is_some (key_of names i))) same ∙ ap one_if is in
        omega (
          arith,
          now,
          was,
          h.once g (omega (arith, low, length-set names f None)),
          freed_front order used f g used'.some within,
          same-eqb f g (sym same),
        )
    | inr ne ↦
        let now : one_if (is_some (key_of (set names f None) g)) ≡ one_if (is_some (key_of names g)) =
        ap (λ (o : Option ℕ). one_if (is_some o)) (get_or-set_other names f g None None ne) in
        omega (
          arith,
          now,
          h.once g (omega (arith, low, length-set names f None)),
          freed_front order used f g used'.some within,
          other-eqb f g (λ z. ne (sym z)),
        )
  ];
  never = λ g past.
      let far : length names ≤ g = omega (arith, past, length-set names f None) in
      omega (
        arith,
        h.never g far,
        freed_front order used f g used'.some within,
        other-eqb f g (omega (arith, used'.below, far)),
      );
}
  where
    used' : IsUsed names order used f
    used' = used_of names order used f h is

    within : used ≤ length order
    within = omega (arith, used'.low)

-- ---- more names

pub lengthened-none : (order : List ℕ) → IsLengthened order order (length order)
lengthened-none order = record {
  size = refl;
  old = λ used g le lt. refl;
  new = λ used g le ge lt. absurd (omega arith);
  past = λ used g le ge. refl;
}

pub lengthened-more : (order longer : List ℕ) (n : ℕ) → IsLengthened order longer n → length order ≤ n
    → IsLengthened order (longer ++ n ∷ []) (n + 1)
lengthened-more order longer n h le = record {
  size = omega (arith, h.size, length-append longer (n ∷ []));
  old = λ used g lo lt. omega (arith, h.old used g lo lt, pushed used g lo, other-eqb n g (omega arith));
  new = λ used g lo ge lt. elim (cases_eq g n) [
    | inl is ↦ omega (arith, h.past used g lo (omega (arith, is)), pushed used g lo, same-eqb n g (sym is))
    | inr ne ↦ omega (arith, h.new used g lo ge (omega (arith, lt, ne)), pushed used g lo, other-eqb n g (λ z. ne (sym z)))
  ];
  past = λ used g lo ge. omega (arith, h.past used g lo (omega arith), pushed used g lo, other-eqb n g (omega arith));
}
  where
    pushed : (used g : ℕ) → used ≤ length order
        → times_in (drop used (longer ++ n ∷ [])) g ≡ times_in (drop used longer) g + one_if (eqb n g)
    pushed used g lo = ap (λ xs. times_in xs g) (drop-append-le used longer (n ∷ []) (omega (arith, h.size)))
        ∙ sum_by_push (λ x. one_if (eqb x g)) (drop used longer) n

pub ordered-new : (longer : List ℕ) (n : ℕ) → n < 4294967295 → IsLengthened [] longer n
    → IsOrdered (replicate n None) longer 0
ordered-new longer n fits h = record {
  size = omega (arith, h.size, length-replicate n nobody);
  fits = omega (arith, fits, length-replicate n nobody);
  named = sym (sum_by-replicate (λ x. one_if (is_some x)) n nobody ∙ omega arith);
  once = λ g low.
      let lt : g < n = omega (arith, low, length-replicate n nobody) in
      omega (
        arith,
        h.new 0 g (omega arith) (omega arith) lt,
        ap (λ (o : Option ℕ). one_if (is_some o)) (get_or-replicate n g nobody nobody lt),
      );
  never = λ g past. h.past 0 g (omega arith) (omega (arith, past, length-replicate n nobody));
}
  where
    nobody : Option ℕ
    nobody = None

pub ordered-grow : (names : List (Option ℕ)) (order longer : List ℕ) (used n : ℕ) → IsOrdered names order used
    → length names ≤ n → n < 4294967295 → IsLengthened order longer n
    → IsOrdered (names ++ replicate (n - length names) None) longer used
ordered-grow names order longer used n h le fits l = record {
  size = omega (arith, l.size, size);
  fits = omega (arith, fits, size);
  named = omega (arith, h.named, same_count);
  once = λ g low. elim (cases_lt g (length names)) [
    | inl lt ↦ omega (
      arith,
      l.old used g within (omega (arith, h.size, lt)),
      h.once g lt,
      ap (λ (o : Option ℕ). one_if (is_some o)) (get_or_append_left names more nobody g lt),
    )
    | inr ge ↦ omega (
      arith,
      l.new used g within (omega (arith, h.size, ge)) (omega (arith, low, size)),
      h.never g ge,
      ap (λ (o : Option ℕ). one_if (is_some o)) (none_at g ge (omega (arith, low, size))),
    )
  ];
  never = λ g past. omega (arith, l.past used g within (omega (arith, past, size)), h.never g (omega (arith, past, size, le)));
}
  where
    nobody : Option ℕ
    nobody = None

    more : List (Option ℕ)
    more = replicate (n - length names) None

    size : length (names ++ replicate (n - length names) None) ≡ n
    size = omega (arith, length-append names (replicate (n - length names) nobody), length-replicate (n - length names) nobody, le)

    within : used ≤ length order
    within = omega (arith, h.named, h.size, count_by-le-length is_some names)

    same_count : named_count (names ++ replicate (n - length names) None) ≡ named_count names
    same_count = sum_by-append (λ x. one_if (is_some x)) names (replicate (n - length names) nobody)
        ∙ omega (arith, sum_by-replicate (λ x. one_if (is_some x)) (n - length names) nobody)

    none_at : (g : ℕ) → length names ≤ g → g < n
        → key_of (names ++ replicate (n - length names) None) g ≡ None
    none_at g ge lt = get_or-append_right names (replicate (n - length names) nobody) (length names) g nobody refl ge
        ∙ get_or-replicate (n - length names) (g - length names) nobody nobody (omega arith)

-- ---- a name gets another key

pub renamed_key : (names : List (Option ℕ)) (n k : ℕ) → set (set names n None) n (Some k) ≡ set names n (Some k)
renamed_key names n k = set-set names n None (Some k)

pub ordered-rename : (names : List (Option ℕ)) (order : List ℕ) (used f k : ℕ) → IsOrdered names order used
    → is_some (key_of names f) ≡ true → IsOrdered (set names f (Some k)) order used
ordered-rename names order used f k h is = record {
  size = omega (arith, h.size, length-set names f (Some k));
  fits = omega (arith, h.fits, length-set names f (Some k));
  named = omega (arith, h.named, count-set names f (Some k) (used_of names order used f h is).below, ap one_if is);
  once = λ g low. omega (arith, h.once g (omega (arith, low, length-set names f (Some k))), same g);
  never = λ g past. h.never g (omega (arith, past, length-set names f (Some k)));
}
  where
    same : (g : ℕ) → one_if (is_some (key_of (set names f (Some k)) g)) ≡ one_if (is_some (key_of names g))
    same g = elim (cases_eq g f) [
      | inl e ↦ ap (λ (i : ℕ). one_if (is_some (key_of (set names f (Some k)) i))) e
          ∙ ap (λ (o : Option ℕ). one_if (is_some o)) (get_or-set_same names f (Some k) None (used_of names order used f h is).below)
          ∙ sym (ap (λ (i : ℕ). one_if (is_some (key_of names i))) e ∙ ap one_if is)
      | inr ne ↦ ap (λ (o : Option ℕ). one_if (is_some o)) (get_or-set_other names f g (Some k) None ne)
    ]
