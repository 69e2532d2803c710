-- ARC's figure under other names, step by step.
use Rattle.std.proofs.Common.{◌≡◌, ℕ, ◌-◌, ◌*◌, Bool, true, false, not, cond, eqb, ltb, List, [], ◌∷◌, ◌++◌, length, take, map}
use Rattle.std.proofs.Common.{reverse, refl, sym, ap, subst, ◌∙◌, inl, inr}
use Rattle.std.specs.Prelude.{Option, None, Some, ◌||◌, find, slice_get, is_none, ◌+◌}
use Rattle.std.specs.Option.{option_map, option_or}
use Rattle.std.proofs.lemmas.Bool.{cases_eq, ne_eqb, eq-eqb}
use Rattle.std.proofs.lemmas.List.{length-map, take-map, map-append, reverse-append}
use Rattle.pp_arc.specs.declared.answer.Answer.{Answer}
use Rattle.pp_arc.specs.declared.answer.Answer.TheVariants.{Hit, Free, Evict, AllBusy}
use Rattle.pp_arc.specs.declared.list.List.{List as ListName}
use Rattle.pp_arc.specs.declared.list.List.TheVariants.{T1, T2, B1, B2}
use Rattle.pp_arc.specs.Pages.{contains, without, without_last, last_page, last_not_busy}
use Rattle.pp_arc.specs.FourLists.{FourLists, list_of, is_cached, cached_count, recent_count, total_count, place}
use Rattle.pp_arc.specs.Figure.{forget, with_front_of_t1, with_front_of_t2, with_remembered, raised_target, lowered_target}
use Rattle.pp_arc.specs.Figure.{chooses_t1, victim, evict_or_all_busy, replacement, after_replace, replace, after_replace_in_t1}
use Rattle.pp_arc.specs.Figure.{replace_in_t1, without_last_of_b1, without_last_of_b2, room_for_new, then_put, cases}
use Rattle.pp_arc.specs.Figure.{is_all_busy, unchanged_if_all_busy, request}
use Rattle.pp_arc.specs.Links.{with_front}
use Rattle.pp_arc.specs.Sizes.{dropped_name, after_giving_up, renamed_in, renamed, resized}
use Rattle.pp_keyed.specs.Renamed.{IsInjective, IsSameBusy, lists_by, answer_by}

-- ---- one list

pub eqb-by : (f : ℕ → ℕ) (x y : ℕ) → IsInjective f → eqb (f x) (f y) ≡ eqb x y
eqb-by f x y inj = elim (cases_eq x y) [
  | inl is ↦ eq-eqb (f x) (f y) (ap f is) ∙ sym (eq-eqb x y is)
  | inr ne ↦ ne_eqb (f x) (f y) (λ e. ne (inj x y e)) ∙ sym (ne_eqb x y ne)
]

pub contains-by : (f : ℕ → ℕ) (xs : List ℕ) (x : ℕ) → IsInjective f → contains (map f xs) (f x) ≡ contains xs x
contains-by f [] x inj = refl
contains-by f (y ∷ ys) x inj = ap (λ (b : Bool). b || contains (map f ys) (f x)) (eqb-by f y x inj)
    ∙ ap (λ (b : Bool). eqb y x || b) (contains-by f ys x inj)

cond-cons : (f : ℕ → ℕ) (b : Bool) (y : ℕ) (ys : List ℕ) → cond b (f y ∷ map f ys) (map f ys) ≡ map f (cond b (y ∷ ys) ys)
cond-cons f true y ys = refl
cond-cons f false y ys = refl

pub without-by : (f : ℕ → ℕ) (xs : List ℕ) (x : ℕ) → IsInjective f → without (map f xs) (f x) ≡ map f (without xs x)
without-by f [] x inj = refl
without-by f (y ∷ ys) x inj =
    ap (λ (b : Bool). cond (not b) (f y ∷ without (map f ys) (f x)) (without (map f ys) (f x))) (eqb-by f y x inj)
    ∙ ap (λ (zs : List ℕ). cond (not (eqb y x)) (f y ∷ zs) zs) (without-by f ys x inj)
    ∙ cond-cons f (not (eqb y x)) y (without ys x)

without_last-by : (f : ℕ → ℕ) (xs : List ℕ) → without_last (map f xs) ≡ map f (without_last xs)
without_last-by f xs = ap (λ (n : ℕ). take (n - 1) (map f xs)) (length-map xs f) ∙ take-map f (length xs - 1) xs

reverse-by : (f : ℕ → ℕ) (xs : List ℕ) → reverse (map f xs) ≡ map f (reverse xs)
reverse-by f [] = refl
reverse-by f (y ∷ ys) = reverse-append (f y ∷ []) (map f ys)
    ∙ ap (λ (zs : List ℕ). zs ++ (f y ∷ [])) (reverse-by f ys)
    ∙ sym (map-append f (reverse ys) (y ∷ []))
    ∙ ap (map f) (sym (reverse-append (y ∷ []) ys))

cond-some : (f : ℕ → ℕ) (b : Bool) (y : ℕ) (o : Option ℕ)
    → cond b (Some (f y)) (option_map f o) ≡ option_map f (cond b (Some y) o)
cond-some f true y o = refl
cond-some f false y o = refl

find-by : (f : ℕ → ℕ) (busy busy_by : ℕ → Bool) (ys : List ℕ) → IsSameBusy f busy busy_by
    → find (λ y. not (busy_by y)) (map f ys) ≡ option_map f (find (λ y. not (busy y)) ys)
find-by f busy busy_by [] same = refl
find-by f busy busy_by (y ∷ ys) same =
    ap (λ (b : Bool). cond (not b) (Some (f y)) (find (λ z. not (busy_by z)) (map f ys))) (same y)
    ∙ ap (λ (o : Option ℕ). cond (not (busy y)) (Some (f y)) o) (find-by f busy busy_by ys same)
    ∙ cond-some f (not (busy y)) y (find (λ z. not (busy z)) ys)

last_not_busy-by : (f : ℕ → ℕ) (busy busy_by : ℕ → Bool) (xs : List ℕ) → IsSameBusy f busy busy_by
    → last_not_busy (map f xs) busy_by ≡ option_map f (last_not_busy xs busy)
last_not_busy-by f busy busy_by xs same =
    ap (λ (ys : List ℕ). find (λ y. not (busy_by y)) ys) (reverse-by f xs) ∙ find-by f busy busy_by (reverse xs) same

first-by : (f : ℕ → ℕ) (ys : List ℕ) → slice_get (map f ys) 0 ≡ option_map f (slice_get ys 0)
first-by f [] = refl
first-by f (y ∷ ys) = refl

pub last_page-by : (f : ℕ → ℕ) (xs : List ℕ) → last_page (map f xs) ≡ option_map f (last_page xs)
last_page-by f xs = ap (λ (ys : List ℕ). slice_get ys 0) (reverse-by f xs) ∙ first-by f (reverse xs)

pub last-by : (f : ℕ → ℕ) (m : ℕ) (s : FourLists) (list : ListName)
    → last_page (list_of (lists_by f m s) list) ≡ option_map f (last_page (list_of s list))
last-by f m s T1 = last_page-by f s.t1
last-by f m s T2 = last_page-by f s.t2
last-by f m s B1 = last_page-by f s.b1
last-by f m s B2 = last_page-by f s.b2

-- ---- four lists

cond-lists : (f : ℕ → ℕ) (m : ℕ) (b : Bool) (s t : FourLists)
    → cond b (lists_by f m s) (lists_by f m t) ≡ lists_by f m (cond b s t)
cond-lists f m true s t = refl
cond-lists f m false s t = refl

pub place-by : (f : ℕ → ℕ) (m : ℕ) (s : FourLists) (x : ℕ) → IsInjective f → place (lists_by f m s) (f x) ≡ place s x
place-by f m s x inj =
    rw (contains-by f s.t1 x inj, contains-by f s.t2 x inj, contains-by f s.b1 x inj, contains-by f s.b2 x inj) refl

pub is_cached-by : (f : ℕ → ℕ) (m : ℕ) (s : FourLists) (x : ℕ) → IsInjective f
    → is_cached (lists_by f m s) (f x) ≡ is_cached s x
is_cached-by f m s x inj = rw (contains-by f s.t1 x inj, contains-by f s.t2 x inj) refl

pub forget-by : (f : ℕ → ℕ) (m : ℕ) (s : FourLists) (x : ℕ) → IsInjective f
    → forget (lists_by f m s) (f x) ≡ lists_by f m (forget s x)
forget-by f m s x inj =
    rw (without-by f s.t1 x inj, without-by f s.t2 x inj, without-by f s.b1 x inj, without-by f s.b2 x inj) refl

front_of_t1-by : (f : ℕ → ℕ) (m : ℕ) (s : FourLists) (x : ℕ)
    → with_front_of_t1 (lists_by f m s) (f x) ≡ lists_by f m (with_front_of_t1 s x)
front_of_t1-by f m s x = refl

front_of_t2-by : (f : ℕ → ℕ) (m : ℕ) (s : FourLists) (x : ℕ) → IsInjective f
    → with_front_of_t2 (lists_by f m s) (f x) ≡ lists_by f m (with_front_of_t2 s x)
front_of_t2-by f m s x inj =
    rw (without-by f s.t1 x inj, without-by f s.t2 x inj, without-by f s.b1 x inj, without-by f s.b2 x inj) refl

remembered-by : (f : ℕ → ℕ) (m : ℕ) (s : FourLists) (v : ℕ) → IsInjective f
    → with_remembered (lists_by f m s) (f v) ≡ lists_by f m (with_remembered s v)
remembered-by f m s v inj = rw (contains-by f s.t1 v inj, without-by f s.t1 v inj, without-by f s.t2 v inj) (
    cond-lists f m (contains s.t1 v) (record s { t1 = without s.t1 v; b1 = v ∷ s.b1 })
    (record s { t2 = without s.t2 v; b2 = v ∷ s.b2 })
    )

raised-by : (f : ℕ → ℕ) (m : ℕ) (s : FourLists) → raised_target (lists_by f m s) ≡ raised_target s
raised-by f m s = rw (length-map s.b1 f, length-map s.b2 f) refl

lowered-by : (f : ℕ → ℕ) (m : ℕ) (s : FourLists) → lowered_target (lists_by f m s) ≡ lowered_target s
lowered-by f m s = rw (length-map s.b1 f, length-map s.b2 f) refl

pub cached_count-by : (f : ℕ → ℕ) (m : ℕ) (s : FourLists) → cached_count (lists_by f m s) ≡ cached_count s
cached_count-by f m s = rw (length-map s.t1 f, length-map s.t2 f) refl

pub recent_count-by : (f : ℕ → ℕ) (m : ℕ) (s : FourLists) → recent_count (lists_by f m s) ≡ recent_count s
recent_count-by f m s = rw (length-map s.t1 f, length-map s.b1 f) refl

pub total_count-by : (f : ℕ → ℕ) (m : ℕ) (s : FourLists) → total_count (lists_by f m s) ≡ total_count s
total_count-by f m s = rw (length-map s.t1 f, length-map s.t2 f, length-map s.b1 f, length-map s.b2 f) refl

chooses-by : (f : ℕ → ℕ) (m : ℕ) (s : FourLists) (in_b2 : Bool) → chooses_t1 (lists_by f m s) in_b2 ≡ chooses_t1 s in_b2
chooses-by f m s in_b2 = rw (length-map s.t1 f) refl

-- ---- the victim

pub or-by : (f : ℕ → ℕ) (o p : Option ℕ) → option_or (option_map f o) (option_map f p) ≡ option_map f (option_or o p)
or-by f None p = refl
or-by f (Some x) p = refl

cond-option : (f : ℕ → ℕ) (b : Bool) (o p : Option ℕ)
    → cond b (option_map f o) (option_map f p) ≡ option_map f (cond b o p)
cond-option f true o p = refl
cond-option f false o p = refl

pub victim-by : (f : ℕ → ℕ) (m : ℕ) (s : FourLists) (in_b2 : Bool) (busy busy_by : ℕ → Bool) → IsSameBusy f busy busy_by
    → victim (lists_by f m s) in_b2 busy_by ≡ option_map f (victim s in_b2 busy)
victim-by f m s in_b2 busy busy_by same = rw (
  chooses-by f m s in_b2,
  last_not_busy-by f busy busy_by s.t1 same,
  last_not_busy-by f busy busy_by s.t2 same,
  or-by f (last_not_busy s.t1 busy) (last_not_busy s.t2 busy),
  or-by f (last_not_busy s.t2 busy) (last_not_busy s.t1 busy),
) (
    cond-option f (chooses_t1 s in_b2) (option_or (last_not_busy s.t1 busy) (last_not_busy s.t2 busy))
    (option_or (last_not_busy s.t2 busy) (last_not_busy s.t1 busy))
    )

evict-by : (f : ℕ → ℕ) (o : Option ℕ) → evict_or_all_busy (option_map f o) ≡ answer_by f (evict_or_all_busy o)
evict-by f None = refl
evict-by f (Some v) = refl

cond-answer : (f : ℕ → ℕ) (b : Bool) (p q : Answer)
    → cond b (answer_by f p) (answer_by f q) ≡ answer_by f (cond b p q)
cond-answer f true p q = refl
cond-answer f false p q = refl

replacement-by : (f : ℕ → ℕ) (m : ℕ) (s : FourLists) (in_b2 : Bool) (busy busy_by : ℕ → Bool) → IsSameBusy f busy busy_by
    → replacement (lists_by f m s) in_b2 busy_by ≡ answer_by f (replacement s in_b2 busy)
replacement-by f m s in_b2 busy busy_by same =
    ap (λ (n : ℕ). cond (eqb n s.c) (evict_or_all_busy (victim (lists_by f m s) in_b2 busy_by)) Free) (cached_count-by f m s)
    ∙ ap (λ (o : Option ℕ). cond (eqb (cached_count s) s.c) (evict_or_all_busy o) Free) (victim-by f m s in_b2 busy busy_by same)
    ∙ ap (λ (a : Answer). cond (eqb (cached_count s) s.c) a Free) (evict-by f (victim s in_b2 busy))
    ∙ cond-answer f (eqb (cached_count s) s.c) (evict_or_all_busy (victim s in_b2 busy)) Free

after_replace-by : (f : ℕ → ℕ) (m : ℕ) (s : FourLists) (a : Answer) → IsInjective f
    → after_replace (lists_by f m s) (answer_by f a) ≡ lists_by f m (after_replace s a)
after_replace-by f m s Hit inj = refl
after_replace-by f m s Free inj = refl
after_replace-by f m s (Evict v) inj = remembered-by f m s v inj
after_replace-by f m s AllBusy inj = refl

after_replace_in_t1-by : (f : ℕ → ℕ) (m : ℕ) (s : FourLists) (a : Answer) → IsInjective f
    → after_replace_in_t1 (lists_by f m s) (answer_by f a) ≡ lists_by f m (after_replace_in_t1 s a)
after_replace_in_t1-by f m s Hit inj = refl
after_replace_in_t1-by f m s Free inj = refl
after_replace_in_t1-by f m s (Evict v) inj = forget-by f m s v inj
after_replace_in_t1-by f m s AllBusy inj = refl

-- ---- an answer and the lists

record IsSame (f : ℕ → ℕ) (m : ℕ) (p q : Answer × FourLists) : Type 0 where
  pub answer : p.0 ≡ answer_by f q.0
  pub lists : p.1 ≡ lists_by f m q.1

cond-same : (f : ℕ → ℕ) (m : ℕ) (b : Bool) (p q v w : Answer × FourLists) → IsSame f m p q → IsSame f m v w
    → IsSame f m (cond b p v) (cond b q w)
cond-same f m true p q v w h k = h
cond-same f m false p q v w h k = k

cond-same-at : (f : ℕ → ℕ) (m : ℕ) (b d : Bool) (p q v w : Answer × FourLists) → b ≡ d → IsSame f m p q → IsSame f m v w
    → IsSame f m (cond b p v) (cond d q w)
cond-same-at f m b d p q v w e h k =
    subst (λ (a : Bool). IsSame f m (cond a p v) (cond d q w)) (sym e) (cond-same f m d p q v w h k)

replace-by : (f : ℕ → ℕ) (m : ℕ) (s : FourLists) (in_b2 : Bool) (busy busy_by : ℕ → Bool) → IsInjective f → IsSameBusy f busy busy_by
    → IsSame f m (replace (lists_by f m s) in_b2 busy_by) (replace s in_b2 busy)
replace-by f m s in_b2 busy busy_by inj same = record {
  answer = replacement-by f m s in_b2 busy busy_by same;
  lists = ap (after_replace (lists_by f m s)) (replacement-by f m s in_b2 busy busy_by same)
      ∙ after_replace-by f m s (replacement s in_b2 busy) inj;
}

replace_in_t1-by : (f : ℕ → ℕ) (m : ℕ) (s : FourLists) (busy busy_by : ℕ → Bool) → IsInjective f → IsSameBusy f busy busy_by
    → IsSame f m (replace_in_t1 (lists_by f m s) busy_by) (replace_in_t1 s busy)
replace_in_t1-by f m s busy busy_by inj same =
    let answer : evict_or_all_busy (last_not_busy (map f s.t1) busy_by) ≡ answer_by f (evict_or_all_busy (last_not_busy s.t1 busy)) =
    ap evict_or_all_busy (last_not_busy-by f busy busy_by s.t1 same) ∙ evict-by f (last_not_busy s.t1 busy) in
    record {
      answer = answer;
      lists = ap (after_replace_in_t1 (lists_by f m s)) answer
          ∙ after_replace_in_t1-by f m s (evict_or_all_busy (last_not_busy s.t1 busy)) inj;
    }

same_start : (f : ℕ → ℕ) (m : ℕ) (s t u : FourLists) (in_b2 : Bool) (busy busy_by : ℕ → Bool) → t ≡ lists_by f m u
    → IsInjective f → IsSameBusy f busy busy_by → IsSame f m (replace t in_b2 busy_by) (replace u in_b2 busy)
same_start f m s t u in_b2 busy busy_by e inj same =
    subst (λ (w : FourLists). IsSame f m (replace w in_b2 busy_by) (replace u in_b2 busy)) (sym e)
    (replace-by f m u in_b2 busy busy_by inj same)

room-by : (f : ℕ → ℕ) (m : ℕ) (s : FourLists) (busy busy_by : ℕ → Bool) → IsInjective f → IsSameBusy f busy busy_by
    → IsSame f m (room_for_new (lists_by f m s) busy_by) (room_for_new s busy)
room-by f m s busy busy_by inj same =
    cond-same-at f m (eqb (recent_count (lists_by f m s)) s.c) (eqb (recent_count s) s.c) _ _ _ _
    (ap (λ (n : ℕ). eqb n s.c) (recent_count-by f m s))
    (cond-same-at f m (ltb (length (map f s.t1)) s.c) (ltb (length s.t1) s.c) _ _ _ _
    (ap (λ (n : ℕ). ltb n s.c) (length-map s.t1 f))
    (same_start f m s (without_last_of_b1 (lists_by f m s)) (without_last_of_b1 s) false busy busy_by
    (ap (λ (xs : List ℕ). record (lists_by f m s) { b1 = xs }) (without_last-by f s.b1)) inj same)
    (replace_in_t1-by f m s busy busy_by inj same))
    (same_start f m s (cond (eqb (total_count (lists_by f m s)) (2 * s.c)) (without_last_of_b2 (lists_by f m s)) (lists_by f m s))
    (cond (eqb (total_count s) (2 * s.c)) (without_last_of_b2 s) s) false busy busy_by
    (ap (λ (n : ℕ). cond (eqb n (2 * s.c)) (without_last_of_b2 (lists_by f m s)) (lists_by f m s)) (total_count-by f m s)
    ∙ ap (λ (xs : List ℕ). cond (eqb (total_count s) (2 * s.c)) (record (lists_by f m s) { b2 = xs }) (lists_by f m s))
    (without_last-by f s.b2)
    ∙ cond-lists f m (eqb (total_count s) (2 * s.c)) (without_last_of_b2 s) s) inj same)

put_t1-by : (f : ℕ → ℕ) (m : ℕ) (x : ℕ) (p q : Answer × FourLists) → IsSame f m p q
    → IsSame f m (then_put with_front_of_t1 (f x) p) (then_put with_front_of_t1 x q)
put_t1-by f m x p q h = record {
  answer = h.answer;
  lists = ap (λ (t : FourLists). with_front_of_t1 t (f x)) h.lists;
}

put_t2-by : (f : ℕ → ℕ) (m : ℕ) (x : ℕ) (p q : Answer × FourLists) → IsInjective f → IsSame f m p q
    → IsSame f m (then_put with_front_of_t2 (f x) p) (then_put with_front_of_t2 x q)
put_t2-by f m x p q inj h = record {
  answer = h.answer;
  lists = ap (λ (t : FourLists). with_front_of_t2 t (f x)) h.lists ∙ front_of_t2-by f m q.1 x inj;
}

cases-by : (f : ℕ → ℕ) (m : ℕ) (at : Option ListName) (s : FourLists) (x : ℕ) (busy busy_by : ℕ → Bool) → IsInjective f
    → IsSameBusy f busy busy_by → IsSame f m (cases at (lists_by f m s) (f x) busy_by) (cases at s x busy)
cases-by f m (Some T1) s x busy busy_by inj same = record { answer = refl; lists = front_of_t2-by f m s x inj }
cases-by f m (Some T2) s x busy busy_by inj same = record { answer = refl; lists = front_of_t2-by f m s x inj }
cases-by f m (Some B1) s x busy busy_by inj same = put_t2-by f m x _ _ inj
    (same_start f m s _ (record s { target = raised_target s }) false busy busy_by
    (ap (λ (n : ℕ). record (lists_by f m s) { target = n }) (raised-by f m s)) inj same)
cases-by f m (Some B2) s x busy busy_by inj same = put_t2-by f m x _ _ inj
    (same_start f m s _ (record s { target = lowered_target s }) true busy busy_by
    (ap (λ (n : ℕ). record (lists_by f m s) { target = n }) (lowered-by f m s)) inj same)
cases-by f m None s x busy busy_by inj same = put_t1-by f m x _ _ (room-by f m s busy busy_by inj same)

all_busy-by : (f : ℕ → ℕ) (a : Answer) → is_all_busy (answer_by f a) ≡ is_all_busy a
all_busy-by f Hit = refl
all_busy-by f Free = refl
all_busy-by f (Evict v) = refl
all_busy-by f AllBusy = refl

unchanged-by : (f : ℕ → ℕ) (m : ℕ) (s : FourLists) (p q : Answer × FourLists) → IsSame f m p q
    → IsSame f m (unchanged_if_all_busy (lists_by f m s) p) (unchanged_if_all_busy s q)
unchanged-by f m s p q h = record {
  answer = h.answer;
  lists = ap (λ (a : Answer). cond (is_all_busy a) (lists_by f m s) p.1) h.answer
      ∙ ap (λ (b : Bool). cond b (lists_by f m s) p.1) (all_busy-by f q.0)
      ∙ ap (λ (t : FourLists). cond (is_all_busy q.0) (lists_by f m s) t) h.lists
      ∙ cond-lists f m (is_all_busy q.0) s q.1;
}

request-same : (f : ℕ → ℕ) (m : ℕ) (s : FourLists) (x : ℕ) (busy busy_by : ℕ → Bool) → IsInjective f → IsSameBusy f busy busy_by
    → IsSame f m (request (lists_by f m s) (f x) busy_by) (request s x busy)
request-same f m s x busy busy_by inj same =
    subst (λ (at : Option ListName). IsSame f m
    (unchanged_if_all_busy (lists_by f m s) (cases at (lists_by f m s) (f x) busy_by)) (request s x busy))
    (sym (place-by f m s x inj))
    (unchanged-by f m s (cases (place s x) (lists_by f m s) (f x) busy_by) (cases (place s x) s x busy)
    (cases-by f m (place s x) s x busy busy_by inj same))

pub answer-by : (f : ℕ → ℕ) (m : ℕ) (s : FourLists) (x : ℕ) (busy busy_by : ℕ → Bool) → IsInjective f → IsSameBusy f busy busy_by
    → (request (lists_by f m s) (f x) busy_by).0 ≡ answer_by f (request s x busy).0
answer-by f m s x busy busy_by inj same = (request-same f m s x busy busy_by inj same).answer

pub request-by : (f : ℕ → ℕ) (m : ℕ) (s : FourLists) (x : ℕ) (busy busy_by : ℕ → Bool) → IsInjective f → IsSameBusy f busy busy_by
    → (request (lists_by f m s) (f x) busy_by).1 ≡ lists_by f m (request s x busy).1
request-by f m s x busy busy_by inj same = (request-same f m s x busy busy_by inj same).lists

-- ---- beside the figure

pub dropped-by : (f : ℕ → ℕ) (m : ℕ) (s : FourLists) (x : ℕ) → IsInjective f
    → dropped_name (lists_by f m s) (f x) ≡ option_map f (dropped_name s x)
dropped-by f m s x inj = rw (
  place-by f m s x inj,
  recent_count-by f m s,
  total_count-by f m s,
  last_page-by f s.b1,
  last_page-by f s.b2,
) (dropped (place s x) (eqb (recent_count s) s.c) (eqb (total_count s) (2 * s.c)))
  where
    dropped : (at : Option ListName) (b d : Bool)
        → cond (is_none at) (cond b (option_map f (last_page s.b1)) (cond d (option_map f (last_page s.b2)) None)) None
        ≡ option_map f (cond (is_none at) (cond b (last_page s.b1) (cond d (last_page s.b2) None)) None)
    dropped (Some l) b d = refl
    dropped None true d = refl
    dropped None false true = refl
    dropped None false false = refl

pub after_giving_up-by : (f : ℕ → ℕ) (m : ℕ) (s : FourLists) (v : Option ℕ) → IsInjective f
    → after_giving_up (lists_by f m s) (option_map f v) ≡ lists_by f m (after_giving_up s v)
after_giving_up-by f m s None inj = refl
after_giving_up-by f m s (Some v) inj = remembered-by f m s v inj

front-by : (f : ℕ → ℕ) (m : ℕ) (s : FourLists) (list : ListName) (x : ℕ)
    → with_front (lists_by f m s) list (f x) ≡ lists_by f m (with_front s list x)
front-by f m s T1 x = refl
front-by f m s T2 x = refl
front-by f m s B1 x = refl
front-by f m s B2 x = refl

pub renamed_in-by : (f : ℕ → ℕ) (m : ℕ) (at : Option ListName) (s : FourLists) (x : ℕ)
    → renamed_in at (lists_by f m s) (f x) ≡ lists_by f m (renamed_in at s x)
renamed_in-by f m None s x = refl
renamed_in-by f m (Some list) s x = front-by f m s list x

pub renamed-by : (f : ℕ → ℕ) (m : ℕ) (s : FourLists) (x y : ℕ) → IsInjective f
    → renamed (lists_by f m s) (f x) (f y) ≡ lists_by f m (renamed s x y)
renamed-by f m s x y inj =
    ap (λ (at : Option ListName). renamed_in at (forget (forget (lists_by f m s) (f x)) (f y)) (f y)) (place-by f m s x inj)
    ∙ ap (λ (t : FourLists). renamed_in (place s x) (forget t (f y)) (f y)) (forget-by f m s x inj)
    ∙ ap (λ (t : FourLists). renamed_in (place s x) t (f y)) (forget-by f m (forget s x) y inj)
    ∙ renamed_in-by f m (place s x) (forget (forget s x) y) y

pub resized-by : (f : ℕ → ℕ) (m : ℕ) (s : FourLists) (c : ℕ) → resized (lists_by f m s) c ≡ lists_by f m (resized s c)
resized-by f m s c = rw (
  length-map s.t1 f,
  length-map s.t2 f,
  take-map f (c - length s.t1) s.b1,
  length-map (take (c - length s.t1) s.b1) f,
  take-map f (2 * c - (length s.t1 + length s.t2 + length (take (c - length s.t1) s.b1))) s.b2,
) refl
