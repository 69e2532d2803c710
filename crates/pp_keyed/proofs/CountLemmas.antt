-- How many names have a key: one for each page that stands in a frame, and for each that is remembered, at most.
use Rattle.std.proofs.Common.{◌≡◌, ◌⊎◌, ℕ, zero, suc, ◌+◌, ◌≤◌, Bool, true, false, List, [], ◌∷◌, ◌++◌}
use Rattle.std.proofs.Common.{length, get_or, set, refl, ap, sym, ◌∙◌, arith, inl, inr, length-append}
use Rattle.std.specs.Prelude.{Option, None, is_some, ◌||◌, count_by}
use Rattle.std.proofs.lemmas.Bool.{cases_lt, cases_eq, ne_eqb}
use Rattle.std.proofs.lemmas.List.{set_past, length-map}
use Rattle.std.proofs.lemmas.List.Sums.{sum_by-cons, sum_by-set}
use Rattle.pp_arc.specs.Pages.{contains}
use Rattle.pp_arc.proofs.VictimLemmas.{or_right}
use Rattle.pp_cache.specs.declared.resident.Resident.{Resident}
use Rattle.pp_cache.specs.Frames.{page_of, resident_count}
use Rattle.pp_cache.specs.Cache.{PageCache}
use Rattle.pp_cache.proofs.LawLemmas.{contains-append}
use Rattle.pp_names.specs.Names.{key_of, named_count}
use Rattle.pp_keyed.specs.Keyed.{key_or_past, by_keys, IsKeyed}
use Rattle.pp_keyed.proofs.ByKeysLemmas.{named_of, or-cases, or_left, place-some, resident-by_keys}
use Rattle.pp_keyed.proofs.TakenLemmas.{one_if, if_more, key-set, key-taken}

-- where each name that has a key has a page
count-pages : (names : List (Option ℕ)) (pages : List (Option Resident))
    → ((x : ℕ) → is_some (key_of names x) ≡ true → is_some (get_or pages x None) ≡ true)
    → named_count names ≤ count_by is_some pages
count-pages [] pages h = omega arith
count-pages (o ∷ names) [] h = omega (
  arith,
  sum_by-cons (λ x. one_if (is_some x)) o names,
  if_more (is_some o) false (h zero),
  count-pages names [] (λ x. h (suc x)),
)
count-pages (o ∷ names) (p ∷ pages) h = omega (
  arith,
  sum_by-cons (λ x. one_if (is_some x)) o names,
  sum_by-cons (λ x. one_if (is_some x)) p pages,
  if_more (is_some o) (is_some p) (h zero),
  count-pages names pages (λ x. h (suc x)),
)

-- one name loses its key at most
count-less : (names : List (Option ℕ)) (y : ℕ) → named_count names ≤ named_count (set names y None) + 1
count-less names y = elim (cases_lt y (length names)) [
  | inl lt ↦ omega (
    arith,
    sum_by-set (λ (x : Option ℕ). one_if (is_some x)) names y None None lt,
    if_more (is_some (get_or names y None)) true (λ e. refl),
  )
  | inr le ↦ rw (set_past names y None le) (omega arith)
]

-- where each name that has a key has a page, or stands in this list
count-listed : (names : List (Option ℕ)) (pages : List (Option Resident)) (ys : List ℕ)
    → ((x : ℕ) → is_some (key_of names x) ≡ true → (is_some (get_or pages x None) ≡ true) ⊎ (contains ys x ≡ true))
    → named_count names ≤ count_by is_some pages + length ys
count-listed names pages [] h = omega (arith, count-pages names pages (λ x some. elim (h x some) [ inl e ↦ e | inr e ↦ absurd (cc) ]))
count-listed names pages (y ∷ ys) h =
    omega (arith, count-less names y, count-listed (set names y None) pages ys listed)
  where
    listed : (x : ℕ) → is_some (key_of (set names y None) x) ≡ true
        → (is_some (get_or pages x None) ≡ true) ⊎ (contains ys x ≡ true)
    listed x some = elim (cases_eq x y) [
      | inl e ↦ let n : false ≡ true = sym (ap is_some (ap (key_of (set names y None)) e ∙ key-taken names y)) ∙ some in
          absurd (cc)
      | inr ne ↦ elim (h x (sym (ap is_some (key-set names y x None ne)) ∙ some)) [
        | inl e ↦ inl e
        | inr e ↦ inr (sym (ap (λ (b : Bool). b || contains ys x) (ne_eqb y x (λ s. ne (sym s)))) ∙ e)
      ]
    ]

pub few-names : (names : List (Option ℕ)) (c : PageCache) → IsKeyed names c
    → named_count names ≤ resident_count (by_keys names c).table + length (by_keys names c).lists.b1
    + length (by_keys names c).lists.b2
few-names names c k = omega (
  arith,
  count-listed names c.table.pages (c.lists.b1 ++ c.lists.b2) listed,
  length-append c.lists.b1 c.lists.b2,
  resident-by_keys names c (named_of names c k),
  length-map c.lists.b1 (key_or_past names),
  length-map c.lists.b2 (key_or_past names),
)
  where
    remembered : (x : ℕ) → (contains c.lists.b1 x || contains c.lists.b2 x) ≡ true
        → contains (c.lists.b1 ++ c.lists.b2) x ≡ true
    remembered x h = contains-append c.lists.b1 c.lists.b2 x ∙ h

    listed : (x : ℕ) → is_some (key_of names x) ≡ true
        → (is_some (page_of c.table x) ≡ true) ⊎ (contains (c.lists.b1 ++ c.lists.b2) x ≡ true)
    listed x some = elim (or-cases _ _ (sym (k.named x) ∙ some)) [
      | inr page ↦ inl page
      | inl named ↦ elim (or-cases _ _ (sym (place-some c.lists x) ∙ named)) [
        | inl a ↦ inl (k.sound.together.cached_has_frame x (or_left _ _ a))
        | inr r ↦ elim (or-cases _ _ r) [
          | inl a ↦ inl (k.sound.together.cached_has_frame x (or_right (contains c.lists.t1 x) _ a))
          | inr q ↦ inr (remembered x q)
        ]
      ]
    ]
