-- Guards of latches X with other bodies.
use Rattle.std.proofs.Common.{◌≡◌, ◌∙◌, ◌+◌, ◌<◌, ℕ, zero, suc, List, [], ◌∷◌, ◌++◌, take, drop, length, refl, sym, ap, subst, inl, inr, arith}
use Rattle.std.specs.Prelude.{slice_set, get_or, Option, None, Some}
use Rattle.std.specs.List.{length_refill, insert, remove}
use Rattle.std.proofs.lemmas.Bool.{cases_lt}
use Rattle.std.proofs.lemmas.List.{append-nil, length-drop, length-append, length-take-le, take-append-drop, take_at, take_all, take-take, drop_all, take-append-le, get_or-set_other, length-set, get_or_read, get_or_append_left, get_or-take, set_comm}
use Rattle.pp_device.specs.Image.{body_of}
use Rattle.pp_vault.specs.declared.guards.WriteGuard.{WriteGuard}
use Rattle.pp_vault.specs.Lending.{behind_head, with_body}
use Rattle.pp_pool.specs.Together.{OnBoth, ChangesBoth, ChangesAt}
use Rattle.pp_pool.specs.Lent.{IsOther, AreOthers, guard_at, with_guard_body, with_body_in}

-- An image that has the head and the length of another is that one with another body.
pub image_by_body : (image new : List ℕ) → length new ≡ length image → take 12 new ≡ take 12 image
    → with_body image (body_of new) ≡ new
image_by_body image new long front =
    let rest : drop (length (body_of new)) (body_of image) ≡ []
    = drop_all (length (body_of new)) (body_of image) (omega (arith, long, length-drop 12 new, length-drop 12 image)) in
    let behind : behind_head image (body_of new) ≡ new
    = ap (λ xs. take 12 image ++ (body_of new ++ xs)) rest ∙ ap (λ xs. take 12 image ++ xs) (append-nil (body_of new))
    ∙ ap (λ xs. xs ++ body_of new) (sym front) ∙ take-append-drop 12 new in
    let past : drop (length new) image ≡ [] = drop_all (length new) image (omega (arith, long)) in
    ap (λ xs. take (length image) (xs ++ drop (length xs) image)) behind
    ∙ ap (λ xs. take (length image) (new ++ xs)) past
    ∙ ap (λ xs. take (length image) xs) (append-nil new)
    ∙ take_all (length image) new (omega (arith, long))

keeps_length : (image body : List ℕ) → length (with_body image body) ≡ length image
keeps_length image body = sym (length_refill (length image) image (behind_head image body) refl)

-- The head stays, whatever is written.
keeps_front : (image body : List ℕ) → take 12 (with_body image body) ≡ take 12 image
keeps_front image body =
    let middle : List ℕ = body ++ drop (length body) (body_of image) in
    let all : List ℕ = behind_head image body ++ drop (length (behind_head image body)) image in
    elim (cases_lt (length image) 12) [
      | inl lt ↦
          let short : take 12 image ≡ image = take_all 12 image (omega (arith, lt)) in
          let whole : with_body image body ≡ image
          = ap (λ xs. take (length image) ((xs ++ middle) ++ drop (length (behind_head image body)) image)) short
          ∙ take-append-le (length image) (image ++ middle) (drop (length (behind_head image body)) image)
          (omega (arith, length-append image middle))
          ∙ take_at image middle (length image) refl in
          ap (λ xs. take 12 xs) whole
      | inr le ↦
          let front : length (take 12 image) ≡ 12 = length-take-le 12 image le in
          take-take 12 (length image) all le
          ∙ take-append-le 12 (behind_head image body) (drop (length (behind_head image body)) image)
          (omega (arith, front, length-append (take 12 image) middle))
          ∙ take_at (take 12 image) middle 12 front
    ]

-- A guard is one with its own body, and stays one whatever body it gets.
pub other_same : (g : WriteGuard) → IsOther g g
other_same g =
    (body_of g.image, refl, ap (λ i. record g { image = i }) (sym (image_by_body g.image g.image refl refl)))

pub other_again : (g h : WriteGuard) (body : List ℕ) → IsOther g h → IsOther g (with_guard_body h body)
other_again g h body of =
    let first : List ℕ = with_body g.image of.0 in
    let new : List ℕ = with_body first body in
    let long : length new ≡ length g.image = keeps_length first body ∙ keeps_length g.image of.0 in
    let front : take 12 new ≡ take 12 g.image = keeps_front first body ∙ keeps_front g.image of.0 in (
      body_of new,
      omega (arith, long, length-drop 12 new, length-drop 12 g.image),
      ap (λ x. with_guard_body x body) of.2
          ∙ ap (λ i. record g { image = i }) (sym (image_by_body g.image new long front)),
    )

pub others_same : (guards : List WriteGuard) → AreOthers guards guards
others_same [] = tt
others_same (g ∷ guards) = (other_same g, others_same guards)

-- One of them gets a body.
pub others_set : (began guards : List WriteGuard) (n : ℕ) (body : List ℕ) → AreOthers began guards
    → AreOthers began (slice_set guards n (with_guard_body (guard_at guards n) body))
others_set [] [] n body are = tt
others_set [] (h ∷ guards) n body are = absurd are
others_set (g ∷ began) [] n body are = absurd are
others_set (g ∷ began) (h ∷ guards) zero body are = (other_again g h body are.0, are.1)
others_set (g ∷ began) (h ∷ guards) (suc n) body are = (are.0, others_set began guards n body are.1)

pub others_in : (began guards : List WriteGuard) (place : Option ℕ) (body : List ℕ) → AreOthers began guards
    → AreOthers began (with_body_in guards place body)
others_in began guards None body are = are
others_in began guards (Some n) body are = others_set began guards n body are

pub others_length : (began guards : List WriteGuard) → AreOthers began guards → length guards ≡ length began
others_length [] [] are = refl
others_length [] (h ∷ guards) are = absurd are
others_length (g ∷ began) [] are = absurd are
others_length (g ∷ began) (h ∷ guards) are = ap suc (others_length began guards are.1)

-- ---- two of them

pub other_with : (g : WriteGuard) (body : List ℕ) → IsOther g (with_guard_body g body)
other_with g body = other_again g g body (other_same g)

pub other_then : (g h k : WriteGuard) → IsOther g h → IsOther h k → IsOther g k
other_then g h k of then = subst (IsOther g) (sym then.2) (other_again g h then.0 of)

others_put : (began guards : List WriteGuard) (n : ℕ) (k : WriteGuard) → n < length guards → IsOther (guard_at guards n) k
    → AreOthers began guards → AreOthers began (slice_set guards n k)
others_put [] [] n k lt of are = tt
others_put [] (h ∷ guards) n k lt of are = absurd are
others_put (g ∷ began) [] n k lt of are = absurd are
others_put (g ∷ began) (h ∷ guards) zero k lt of are = (other_then g h k are.0 of, are.1)
others_put (g ∷ began) (h ∷ guards) (suc n) k lt of are =
    (are.0, others_put began guards n k (let l = lt in omega (arith, l)) of are.1)

-- Both were changed.
module _ {F R : Type 0} (f : OnBoth F R) (change : F) (began old : List WriteGuard) (first second : ℕ) (answer : R)
    (new : List WriteGuard) where
  pub others_changed : (first ≡ second → ⊥) → first < length old → second < length old
      → ChangesAt f change first second old answer new → AreOthers began old → AreOthers began new
  others_changed differ one_within other_within c are =
      let left = c.changes.left in
      let one_is : IsOther (guard_at old first) c.one
      = subst (IsOther (guard_at old first)) (sym c.changes.leaves.0) (other_with (guard_at old first) left.0.now) in
      let other_is : IsOther (guard_at old second) c.other
      = subst (IsOther (guard_at old second)) (sym c.changes.leaves.1) (other_with (guard_at old second) left.1.0.now) in
      let mid : AreOthers began (slice_set old first c.one) = others_put began old first c.one one_within one_is are in
      let there : guard_at (slice_set old first c.one) second ≡ guard_at old second
      = get_or-set_other old first second c.one (guard_at [] 0) (λ same. differ (sym same)) in
      subst (AreOthers began) (sym c.are)
      (others_put began (slice_set old first c.one) second c.other (omega (arith, other_within, length-set old first c.one))
      (subst (λ x. IsOther x c.other) (sym there) other_is) mid)

-- What was taken out goes back.
insert_removed : (xs : List WriteGuard) (n : ℕ) (h : WriteGuard) → n < length xs
    → insert (remove xs n) n h ≡ slice_set xs n h
insert_removed [] n h within = absurd (let l = within in omega (arith, l))
insert_removed (x ∷ xs) zero h within = refl
insert_removed (x ∷ xs) (suc n) h within = ap (λ ys. x ∷ ys) (insert_removed xs n h (let l = within in omega (arith, l)))

pub set_between : (xs : List WriteGuard) (low high : ℕ) (g h : WriteGuard) → low < high → high < length xs
    → insert (slice_set (remove xs high) low g) high h ≡ slice_set (slice_set xs high h) low g
set_between [] low high g h below within = absurd (let l = within in omega (arith, l))
set_between (x ∷ xs) low zero g h below within = absurd (let l = below in omega (arith, l))
set_between (x ∷ xs) zero (suc high) g h below within =
    ap (λ ys. g ∷ ys) (insert_removed xs high h (let l = within in omega (arith, l)))
set_between (x ∷ xs) (suc low) (suc high) g h below within =
    ap (λ ys. x ∷ ys) (set_between xs low high g h (let l = below in omega (arith, l)) (let l = within in omega (arith, l)))

-- The one behind was taken out, both got other bodies, and it went back.
pub record PutBack (old : List WriteGuard) (low high : ℕ) (one other g h : WriteGuard) (new : List WriteGuard) : Type 0 where
  pub one_is : one ≡ guard_at old low
  pub other_is : other ≡ guard_at old high
  pub are : new ≡ slice_set (slice_set old high h) low g

pub put_back : (old removed : List WriteGuard) (low high : ℕ) (one other g h : WriteGuard) (new : List WriteGuard) → low < high
    → high < length old → removed ≡ remove old high → other ≡ get_or old high other → one ≡ get_or removed low one
    → new ≡ insert (slice_set removed low g) high h → PutBack old low high one other g h new
put_back old removed low high one other g h new below within rest taken read is =
    let d : WriteGuard = guard_at [] 0 in
    let front : length (take high old) ≡ high = length-take-le high old (omega (arith, within)) in
    let long : length removed ≡ length (take high old) + length (drop (suc high) old)
    = ap length rest ∙ length-append (take high old) (drop (suc high) old) in
    record {
      one_is =
          get_or_read removed low one (omega (arith, below, front, long)) read d
          ∙ ap (λ xs. get_or xs low d) rest
          ∙ get_or_append_left (take high old) (drop (suc high) old) d low (omega (arith, below, front))
          ∙ get_or-take high old low d below;
      other_is = get_or_read old high other within taken d;
      are = is ∙ ap (λ xs. insert (slice_set xs low g) high h) rest ∙ set_between old low high g h below within;
    }

module _ {F R : Type 0} (f : OnBoth F R) (change : F) (old : List WriteGuard) (low high : ℕ) (below : low < high)
    (one other : WriteGuard) (answer : R) (g h : WriteGuard) (new : List WriteGuard)
    (p : PutBack old low high one other g h new) where
  -- In this order.
  pub changed_rising : ChangesBoth f change one other answer g h → ChangesAt f change low high old answer new
  changed_rising c = record {
    one = g;
    other = h;
    changes = subst (λ x. ChangesBoth f change x (guard_at old high) answer g h) p.one_is
        (subst (λ x. ChangesBoth f change one x answer g h) p.other_is c);
    are = p.are ∙ set_comm old high low h g (λ same. let e : high ≡ low = same in omega (arith, below, e));
  }

  -- In the other.
  pub changed_falling : ChangesBoth f change other one answer h g → ChangesAt f change high low old answer new
  changed_falling c = record {
    one = h;
    other = g;
    changes = subst (λ x. ChangesBoth f change (guard_at old high) x answer h g) p.one_is
        (subst (λ x. ChangesBoth f change x one answer h g) p.other_is c);
    are = p.are;
  }
