-- Lemmas on a list that loses its last page, on a list that is cut, and on lists that move to a larger table.
use Rattle.std.proofs.Common.{◌≡◌, ◌⊎◌, ℕ, ◌+◌, ◌-◌, ◌*◌, ◌<◌, ◌≤◌, zero, suc, min, cond, eqb, List, [], ◌∷◌, ◌++◌}
use Rattle.std.proofs.Common.{length, take, refl, arith, ap, sym, ◌∙◌, inl, inr, length-append, append_assoc}
use Rattle.std.specs.Prelude.{Bool, true, false, Option, Some, None, IsNone, IfSome, IsTrue, IsFalse, ◌↔◌}
use Rattle.std.proofs.lemmas.List.{take_all, length-take, reverse-append}
use Rattle.std.proofs.lemmas.Bool.{cases_Bool}
use Rattle.std.proofs.lemmas.Grind.{common_steps}
use Rattle.pp_arc.specs.declared.list.List.{List as ListName}
use Rattle.pp_arc.specs.declared.list.List.TheVariants.{T1, T2, B1, B2}
use Rattle.pp_arc.specs.Pages.{contains, times_in, without_last, last_page}
use Rattle.pp_arc.specs.FourLists.{FourLists, empty_lists, list_of, times_named, cached_count, recent_count}
use Rattle.pp_arc.specs.FourLists.{total_count, is_cached, place}
use Rattle.pp_arc.specs.Bounds.{IsWithinBounds}
use Rattle.pp_arc.specs.Links.{with_front, without_last_of, with_list, with_first}
use Rattle.pp_arc.specs.Laws.{AllCachedAreBusy}
use Rattle.pp_arc.specs.Figure.{forget}
use Rattle.pp_arc.specs.Sizes.{given_up, renamed, renamed_in, resized, moved_into}
use Rattle.pp_arc.proofs.PageLemmas.{times_in-take, length-without_last, length-without, once_with_front}
use Rattle.pp_arc.proofs.PageLemmas.{below_with_front, times_in-contains, times_in-contains_not}
use Rattle.pp_arc.proofs.BoundLemmas.{bounds-forget, bounds-put_in_t2, bounds-with_front_of_t1, times_named-forget_same}
use Rattle.pp_arc.proofs.BoundLemmas.{cached_count-forget, recent_count-forget, total_count-forget}
use Rattle.pp_arc.proofs.ListLemmas.{list_of-with_front, list_of-forget}
use Rattle.pp_arc.proofs.VictimLemmas.{is_cached-victim, victim-either, victim-none}
use Rattle.pp_arc.proofs.StepLemmas.{place-times_named, times_in-cached}
use Rattle.pp_arc.proofs.LawLemmas.{AllCachedAreBusy-none, busy-either}

pub times_in-append : (xs ys : List ℕ) (i : ℕ) → times_in (xs ++ ys) i ≡ times_in xs i + times_in ys i
times_in-append [] ys i = omega arith
times_in-append (x ∷ xs) ys i = omega (arith, times_in-append xs ys i)

-- a list is empty, or ends in its last page
pub record EndsIn (xs : List ℕ) (p : ℕ) : Type 0 where
  pub last : last_page xs ≡ Some p
  pub whole : without_last xs ++ p ∷ [] ≡ xs

pub front-snoc : (xs : List ℕ) (p : ℕ) → last_page (xs ++ p ∷ []) ≡ Some p
front-snoc xs p = rw (reverse-append xs (p ∷ [])) refl

pub take-snoc : (xs : List ℕ) (p : ℕ) → take (length xs) (xs ++ p ∷ []) ≡ xs
take-snoc [] p = refl
take-snoc (x ∷ xs) p = ap (λ l. x ∷ l) (take-snoc xs p)

pub EndsIn-snoc : (xs : List ℕ) (p : ℕ) → EndsIn (xs ++ p ∷ []) p
EndsIn-snoc xs p =
    let e : length (xs ++ p ∷ []) - 1 ≡ length xs = omega (arith, length-append xs (p ∷ [])) in
    record { last = front-snoc xs p; whole = rw (e, take-snoc xs p) refl }

pub ends : (xs : List ℕ) → (xs ≡ []) ⊎ ((p : ℕ) × EndsIn xs p)
ends [] = inl refl
ends (x ∷ xs) = elim (ends xs) [
  | inl e ↦ rw e (inr (x, EndsIn-snoc [] x))
  | inr w ↦ inr (w.0, more x xs w.0 w.1)
]
  where
    more : (x : ℕ) (xs : List ℕ) (p : ℕ) → EndsIn xs p → EndsIn (x ∷ xs) p
    more x xs p h = rw (← h.whole) (EndsIn-snoc (x ∷ without_last xs) p)

pub last-none : (xs : List ℕ) → last_page xs ≡ None → xs ≡ []
last-none xs none = elim (ends xs) [ inl e ↦ e | inr w ↦ absurd (cc (w.1.last)) ]

pub last-some : (xs : List ℕ) (p : ℕ) → last_page xs ≡ Some p → EndsIn xs p
last-some xs p some = elim (ends xs) [
  | inl e ↦ absurd (no e)
  | inr w ↦ let q : w.0 ≡ p = cc (w.1.last) in rw (← q) w.1
]
  where
    no : xs ≡ [] → ⊥
    no e = let h : None ≡ Some p = rw e at some in cc

-- how often a page stands there without the last one
pub times_in-last : (xs : List ℕ) (p x : ℕ) → last_page xs ≡ Some p
    → times_in (without_last xs) x + times_in (p ∷ []) x ≡ times_in xs x
times_in-last xs p x some =
    sym (times_in-append (without_last xs) (p ∷ []) x) ∙ ap (λ l. times_in l x) (last-some xs p some).whole

pub length-last : (xs : List ℕ) (p : ℕ) → last_page xs ≡ Some p → length (without_last xs) + 1 ≡ length xs
length-last xs p some =
    let h : EndsIn xs p = last-some xs p some in
    omega (arith, length-append (without_last xs) (p ∷ []), ap length h.whole)

pub times_in-one : (p : ℕ) → times_in (p ∷ []) p ≡ 1
times_in-one p = grind (arith, common_steps)

pub contains-last : (xs : List ℕ) (p : ℕ) → last_page xs ≡ Some p → contains xs p ≡ true
contains-last xs p some = elim (cases_Bool (contains xs p)) [
  | inl e ↦ e
  | inr e ↦ absurd (omega (
    arith,
    times_in-contains_not xs p e,
    times_in-last xs p p some,
    times_in-one p,
  ))
]

-- ---- a list is cut

pub take-shorter : (n m : ℕ) (xs : List ℕ) → n ≤ m → take n (take m xs) ≡ take n xs
take-shorter zero m xs h = refl
take-shorter (suc n) zero xs h = absurd (omega arith)
take-shorter (suc n) (suc m) [] h = refl
take-shorter (suc n) (suc m) (x ∷ xs) h = ap (λ l. x ∷ l) (take-shorter n m xs (omega arith))

pub take-without_last : (n : ℕ) (xs : List ℕ) → n < length xs → take n (without_last xs) ≡ take n xs
take-without_last n xs h = take-shorter n (length xs - 1) xs (omega arith)

pub with_first-without_last : (s : FourLists) (l : ListName) (n : ℕ) → n < length (list_of s l)
    → with_first (without_last_of s l) l n ≡ with_first s l n
with_first-without_last s T1 n h = ap (λ xs. record s { t1 = xs }) (take-without_last n s.t1 h)
with_first-without_last s T2 n h = ap (λ xs. record s { t2 = xs }) (take-without_last n s.t2 h)
with_first-without_last s B1 n h = ap (λ xs. record s { b1 = xs }) (take-without_last n s.b1 h)
with_first-without_last s B2 n h = ap (λ xs. record s { b2 = xs }) (take-without_last n s.b2 h)

pub with_first-all : (s : FourLists) (l : ListName) (n : ℕ) → length (list_of s l) ≤ n → with_first s l n ≡ s
with_first-all s T1 n h = ap (λ xs. record s { t1 = xs }) (take_all n s.t1 h)
with_first-all s T2 n h = ap (λ xs. record s { t2 = xs }) (take_all n s.t2 h)
with_first-all s B1 n h = ap (λ xs. record s { b1 = xs }) (take_all n s.b1 h)
with_first-all s B2 n h = ap (λ xs. record s { b2 = xs }) (take_all n s.b2 h)

pub list_of-without_last_of : (s : FourLists) (l : ListName) → list_of (without_last_of s l) l ≡ without_last (list_of s l)
list_of-without_last_of s T1 = refl
list_of-without_last_of s T2 = refl
list_of-without_last_of s B1 = refl
list_of-without_last_of s B2 = refl

pub length-without_last_of : (s : FourLists) (l : ListName)
    → length (list_of (without_last_of s l) l) ≡ length (list_of s l) - 1
length-without_last_of s l = rw (list_of-without_last_of s l) (length-without_last (list_of s l))

-- ---- a list moves to another table

pub list_of-with_list : (s : FourLists) (l : ListName) (xs : List ℕ) → list_of (with_list s l xs) l ≡ xs
list_of-with_list s T1 xs = refl
list_of-with_list s T2 xs = refl
list_of-with_list s B1 xs = refl
list_of-with_list s B2 xs = refl

pub with_list-same : (s : FourLists) (l : ListName) → s ≡ with_list s l (list_of s l)
with_list-same s T1 = refl
with_list-same s T2 = refl
with_list-same s B1 = refl
with_list-same s B2 = refl

pub without_last_of-with_list : (s : FourLists) (l : ListName) (xs : List ℕ)
    → without_last_of (with_list s l xs) l ≡ with_list s l (without_last xs)
without_last_of-with_list s T1 xs = refl
without_last_of-with_list s T2 xs = refl
without_last_of-with_list s B1 xs = refl
without_last_of-with_list s B2 xs = refl

pub with_front-with_list : (s : FourLists) (l : ListName) (xs : List ℕ) (p : ℕ)
    → with_front (with_list s l xs) l p ≡ with_list s l (p ∷ xs)
with_front-with_list s T1 xs p = refl
with_front-with_list s T2 xs p = refl
with_front-with_list s B1 xs p = refl
with_front-with_list s B2 xs p = refl

pub pages-with_front : (s : FourLists) (l : ListName) (p : ℕ) → (with_front s l p).pages ≡ s.pages
pages-with_front s T1 p = refl
pages-with_front s T2 p = refl
pages-with_front s B1 p = refl
pages-with_front s B2 p = refl

pub c-with_front : (s : FourLists) (l : ListName) (p : ℕ) → (with_front s l p).c ≡ s.c
c-with_front s T1 p = refl
c-with_front s T2 p = refl
c-with_front s B1 p = refl
c-with_front s B2 p = refl

pub times_named-without_last_of : (s : FourLists) (l : ListName) (p x : ℕ) → last_page (list_of s l) ≡ Some p
    → times_named (without_last_of s l) x + times_in (p ∷ []) x ≡ times_named s x
times_named-without_last_of s T1 p x e = omega (arith, times_in-last s.t1 p x e)
times_named-without_last_of s T2 p x e = omega (arith, times_in-last s.t2 p x e)
times_named-without_last_of s B1 p x e = omega (arith, times_in-last s.b1 p x e)
times_named-without_last_of s B2 p x e = omega (arith, times_in-last s.b2 p x e)

pub times_named-with_front : (s : FourLists) (l : ListName) (p x : ℕ)
    → times_named (with_front s l p) x ≡ times_named s x + times_in (p ∷ []) x
times_named-with_front s T1 p x = omega arith
times_named-with_front s T2 p x = omega arith
times_named-with_front s B1 p x = omega arith
times_named-with_front s B2 p x = omega arith

-- a page is about to move, and has moved
pub record IsApart (s t : FourLists) : Type 0 where
  pub once : (x : ℕ) → times_named s x + times_named t x ≤ 1
  pub below : (x : ℕ) → 0 < times_named s x → x < t.pages

pub record Moves (s t : FourLists) (l : ListName) (p : ℕ) : Type 0 where
  pub low : p < t.pages
  pub absent : place t p ≡ None
  pub apart : IsApart (without_last_of s l) (with_front t l p)
  pub all : list_of (without_last_of s l) l ++ list_of (with_front t l p) l ≡ list_of s l ++ list_of t l

pub moves : (s t : FourLists) (l : ListName) (p : ℕ) → IsApart s t → last_page (list_of s l) ≡ Some p → Moves s t l p
moves s t l p h e =
    let here : times_named (without_last_of s l) p + times_in (p ∷ []) p ≡ times_named s p =
    times_named-without_last_of s l p p e in
    record {
      low = h.below p (omega (arith, here, times_in-one p));
      absent = place-times_named t p (omega (arith, here, times_in-one p, h.once p));
      apart = record {
        once = λ x. omega (
          arith,
          times_named-without_last_of s l p x e,
          times_named-with_front t l p x,
          h.once x,
        );
        below = λ x n. rw (pages-with_front t l p)
            (h.below x (omega (arith, n, times_named-without_last_of s l p x e)));
      };
      all = rw (list_of-without_last_of s l, front-list t l p)
          (sym (append_assoc (without_last (list_of s l)) (p ∷ []) (list_of t l))
          ∙ ap (λ xs. xs ++ list_of t l) (last-some (list_of s l) p e).whole);
    }
  where
    front-list : (t : FourLists) (l : ListName) (p : ℕ) → list_of (with_front t l p) l ≡ p ∷ list_of t l
    front-list t T1 p = refl
    front-list t T2 p = refl
    front-list t B1 p = refl
    front-list t B2 p = refl

-- what is kept of both tables at each step
pub left_step : (s s0 t : FourLists) (l : ListName) → s ≡ with_list s0 l (list_of s l) → t ≡ without_last_of s l
    → t ≡ with_list s0 l (list_of t l)
left_step s s0 t l e f =
    f ∙ ap (λ (w : FourLists). without_last_of w l) e ∙ without_last_of-with_list s0 l (list_of s l)
    ∙ ap (with_list s0 l) (sym (ap (λ (w : FourLists). list_of w l) f ∙ list_of-without_last_of s l))

pub into_step : (s s0 t : FourLists) (l : ListName) (p : ℕ) → s ≡ with_list s0 l (list_of s l) → t ≡ with_front s l p
    → t ≡ with_list s0 l (list_of t l)
into_step s s0 t l p e f =
    f ∙ ap (λ (w : FourLists). with_front w l p) e ∙ with_front-with_list s0 l (list_of s l) p
    ∙ ap (with_list s0 l) (sym (ap (λ (w : FourLists). list_of w l) f ∙ list_of-with_front s l p))

-- ---- a page is given up

pub record GivesUp (s : FourLists) (busy : ℕ → Bool) (found : Option ℕ) : Type 0 where
  pub all_busy : IsNone found ↔ AllCachedAreBusy s busy
  pub cached : IfSome found (λ v. IsTrue (is_cached s v))
  pub idle : IfSome found (λ v. IsFalse (busy v))

pub gives_up : (s : FourLists) (busy : ℕ → Bool) (found : Option ℕ) → found ≡ given_up s busy → GivesUp s busy found
gives_up s busy None e =
    let none = victim-none s false busy (sym e) in
    record {
      all_busy = (λ k. AllCachedAreBusy-none s busy none.0 none.1, λ k. refl);
      cached = tt;
      idle = tt;
    }
gives_up s busy (Some v) e =
    let here : is_cached s v ≡ true = is_cached-victim s false busy v (sym e) in
    let idle : busy v ≡ false = busy-either s busy v (victim-either s false busy v (sym e)) in
    record {
      all_busy = (λ k. absurd (cc), λ all. let no : busy v ≡ true = all v here in absurd (cc));
      cached = here;
      idle = idle;
    }

-- ---- another size

pub bounds-resized : (s : FourLists) (c : ℕ) → IsWithinBounds s → 1 ≤ c → cached_count s ≤ c
    → IsWithinBounds (resized s c)
bounds-resized s c h one fits =
    let b1 : length (take (c - length s.t1) s.b1) ≡ min (c - length s.t1) (length s.b1) =
    length-take (c - length s.t1) s.b1 in
    let n : ℕ = 2 * c - (length s.t1 + length s.t2 + length (take (c - length s.t1) s.b1)) in
    record {
      holds_a_page = one;
      cached = fits;
      recent = omega (arith, b1);
      total = omega (arith, b1, length-take n s.b2);
      once = λ x. omega (
        arith,
        times_in-take s.b1 (c - length s.t1) x,
        times_in-take s.b2 n x,
        h.once x,
      );
      below = λ x stands. h.below x (omega (
        arith,
        stands,
        times_in-take s.b1 (c - length s.t1) x,
        times_in-take s.b2 n x,
      ));
      aimed = omega arith;
    }

pub bounds-moved_into : (s t : FourLists) → IsWithinBounds s → s.pages ≤ t.pages → s.c ≤ t.c
    → IsWithinBounds (moved_into s t)
bounds-moved_into s t h more wider = record {
  holds_a_page = omega (arith, h.holds_a_page, wider);
  cached = omega (arith, h.cached, wider);
  recent = omega (arith, h.recent, wider);
  total = omega (arith, h.total, wider);
  once = h.once;
  below = λ x stands. omega (arith, h.below x stands, more);
  aimed = omega (arith, h.aimed, wider);
}

-- ---- a page is renamed

-- a name that stood nowhere goes to the front of B1, or of B2
pub bounds-front_of_b1 : (s : FourLists) (x : ℕ) → IsWithinBounds s → x < s.pages → times_named s x ≡ 0
    → recent_count s < s.c → total_count s < 2 * s.c → IsWithinBounds (record s { b1 = x ∷ s.b1 })
bounds-front_of_b1 s x h named absent recent all =
    record {
      holds_a_page = h.holds_a_page;
      cached = h.cached;
      recent = omega arith;
      total = omega arith;
      once = λ q.
          let k : cond (eqb x q) 1 0 + times_named s q ≤ 1 =
          once_with_front x q (times_named s q) (λ e. rw (← e) absent) (h.once q) in
          omega (arith, k);
      below = λ q stands.
          below_with_front x q (times_named s q) s.pages named (h.below q) (omega (arith, stands));
      aimed = h.aimed;
    }

pub bounds-front_of_b2 : (s : FourLists) (x : ℕ) → IsWithinBounds s → x < s.pages → times_named s x ≡ 0
    → total_count s < 2 * s.c → IsWithinBounds (record s { b2 = x ∷ s.b2 })
bounds-front_of_b2 s x h named absent all =
    record {
      holds_a_page = h.holds_a_page;
      cached = h.cached;
      recent = h.recent;
      total = omega arith;
      once = λ q.
          let k : cond (eqb x q) 1 0 + times_named s q ≤ 1 =
          once_with_front x q (times_named s q) (λ e. rw (← e) absent) (h.once q) in
          omega (arith, k);
      below = λ q stands.
          below_with_front x q (times_named s q) s.pages named (h.below q) (omega (arith, stands));
      aimed = h.aimed;
    }

-- where a page stands, in numbers
abbrev pub StandsAt : Option ListName → FourLists → ℕ → Type 0
StandsAt None s x = Unit {0}
StandsAt (Some T1) s x = 1 ≤ times_in s.t1 x
StandsAt (Some T2) s x = 1 ≤ times_in s.t2 x
StandsAt (Some B1) s x = 1 ≤ times_in s.b1 x
StandsAt (Some B2) s x = 1 ≤ times_in s.b2 x

pub StandsAt-place : (s : FourLists) (x : ℕ) → StandsAt (place s x) s x
StandsAt-place s x = go (contains s.t1 x) (contains s.t2 x) (contains s.b1 x) (contains s.b2 x) refl refl refl refl
  where
    go : (p q r t : Bool) → contains s.t1 x ≡ p → contains s.t2 x ≡ q → contains s.b1 x ≡ r → contains s.b2 x ≡ t
        → StandsAt (cond p (Some T1) (cond q (Some T2) (cond r (Some B1) (cond t (Some B2) None)))) s x
    go true q r t e f g h = times_in-contains s.t1 x e
    go false true r t e f g h = times_in-contains s.t2 x f
    go false false true t e f g h = times_in-contains s.b1 x g
    go false false false true e f g h = times_in-contains s.b2 x h
    go false false false false e f g h = tt

pub bounds-renamed_in : (s : FourLists) (old new : ℕ) (list : Option ListName) → IsWithinBounds s → new < s.pages
    → StandsAt list s old → IsWithinBounds (renamed_in list (forget (forget s old) new) new)
bounds-renamed_in s old new None h low stands = bounds-forget (forget s old) new (bounds-forget s old h)
bounds-renamed_in s old new (Some T1) h low stands =
    bounds-with_front_of_t1 (forget (forget s old) new) new (bounds-forget (forget s old) new (bounds-forget s old h)) low
    (times_named-forget_same (forget s old) new)
    (omega (arith, cached_count-forget s old, cached_count-forget (forget s old) new, h.cached))
    (omega (arith, recent_count-forget s old, recent_count-forget (forget s old) new, h.recent))
    (omega (arith, total_count-forget s old, total_count-forget (forget s old) new, h.total))
bounds-renamed_in s old new (Some T2) h low stands =
    bounds-put_in_t2 (forget (forget s old) new) new (bounds-forget (forget s old) new (bounds-forget s old h)) low
    (times_named-forget_same (forget s old) new)
    (omega (arith, cached_count-forget s old, cached_count-forget (forget s old) new, h.cached))
    (omega (arith, total_count-forget s old, total_count-forget (forget s old) new, h.total))
bounds-renamed_in s old new (Some B1) h low stands =
    bounds-front_of_b1 (forget (forget s old) new) new (bounds-forget (forget s old) new (bounds-forget s old h)) low
    (times_named-forget_same (forget s old) new)
    (omega (arith, recent_count-forget s old, recent_count-forget (forget s old) new, h.recent))
    (omega (arith, total_count-forget s old, total_count-forget (forget s old) new, h.total))
bounds-renamed_in s old new (Some B2) h low stands =
    bounds-front_of_b2 (forget (forget s old) new) new (bounds-forget (forget s old) new (bounds-forget s old h)) low
    (times_named-forget_same (forget s old) new)
    (omega (arith, total_count-forget s old, total_count-forget (forget s old) new, h.total))

pub bounds-renamed : (s : FourLists) (old new : ℕ) → IsWithinBounds s → new < s.pages
    → IsWithinBounds (renamed s old new)
bounds-renamed s old new h low = bounds-renamed_in s old new (place s old) h low (StandsAt-place s old)

-- lists that a page leaves are as short as before
pub length-list_of-forget : (s : FourLists) (l : ListName) (x : ℕ)
    → length (list_of (forget s x) l) ≤ length (list_of s l)
length-list_of-forget s l x = rw (list_of-forget s l x) (omega (arith, length-without (list_of s l) x))

-- the sizes have no part in it
pub renamed_in-sized : (s : FourLists) (c target old new : ℕ) (list : Option ListName)
    → record (renamed_in list (forget (forget s old) new) new) { c = c; target = target }
    ≡ renamed_in list (forget (forget (record s { c = c; target = target }) old) new) new
renamed_in-sized s c target old new None = refl
renamed_in-sized s c target old new (Some T1) = refl
renamed_in-sized s c target old new (Some T2) = refl
renamed_in-sized s c target old new (Some B1) = refl
renamed_in-sized s c target old new (Some B2) = refl

pub renamed-sized : (s : FourLists) (c target old new : ℕ)
    → record (renamed s old new) { c = c; target = target } ≡ renamed (record s { c = c; target = target }) old new
renamed-sized s c target old new = renamed_in-sized s c target old new (place s old)

-- a cached page that is forgotten was one of them
pub fewer-forget : (s : FourLists) (x : ℕ) → IsWithinBounds s → is_cached s x ≡ true
    → cached_count (forget s x) + 1 ≡ cached_count s
fewer-forget s x h here = omega (arith, cached_count-forget s x, times_in-cached s x here, h.once x)

-- nor has it a part in the lists
pub list_of-sized : (s : FourLists) (c target : ℕ) (l : ListName)
    → list_of (record s { c = c; target = target }) l ≡ list_of s l
list_of-sized s c target T1 = refl
list_of-sized s c target T2 = refl
list_of-sized s c target B1 = refl
list_of-sized s c target B2 = refl
