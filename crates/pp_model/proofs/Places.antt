-- Which page is in which frame: how that stays sound as a page goes into a free frame or out of its own.
use Rattle.std.proofs.Common.{◌≡◌, ◌≢◌, ◌∙◌, ◌⊎◌, ℕ, ◌<◌, Option, Some, None, refl, sym, ap, subst}
use Rattle.std.proofs.Common.{inl, inr}
use Rattle.std.specs.Prelude.{IsSome}
use Rattle.pp_model.proofs.Requests.{Which, same, other, which}

-- Just the pages with this property have a frame; it is below n; and no two have the same one.
pub record IsPlaced (n : ℕ) (C : ℕ → Type 0) (F : ℕ → Option ℕ) : Type 0 where
  pub placed : (q : ℕ) → C q → IsSome (F q)
  pub cached : (q : ℕ) → IsSome (F q) → C q
  pub in_range : (q f : ℕ) → F q ≡ Some f → f < n
  pub no_frame_twice : (p q f : ℕ) → F p ≡ Some f → F q ≡ Some f → p ≡ q

none_isnt : (o : Option ℕ) (f : ℕ) → o ≡ None → o ≡ Some f → ⊥
none_isnt o f e g = let no : ◌≡◌ {A = Option ℕ} None (Some f) = sym e ∙ g in absurd (cc)

no_some : (o : Option ℕ) → o ≡ None → IsSome o → ⊥
no_some None e some = absurd (cc)
no_some (Some x) e some = absurd (cc)

is_some_of : (o : Option ℕ) (f : ℕ) → o ≡ Some f → IsSome o
is_some_of o f e = subst (λ (x : Option ℕ). IsSome x) (sym e) refl

-- The same pages in the same frames.
pub as_placed : (n : ℕ) (C D : ℕ → Type 0) (F G : ℕ → Option ℕ) → IsPlaced n C F → ((q : ℕ) → D q → C q)
    → ((q : ℕ) → C q → D q) → ((q : ℕ) → G q ≡ F q) → IsPlaced n D G
as_placed n C D F G h back forth e = record {
  placed = λ q d. subst (λ (x : Option ℕ). IsSome x) (sym (e q)) (h.placed q (back q d));
  cached = λ q some. forth q (h.cached q (subst (λ (x : Option ℕ). IsSome x) (e q) some));
  in_range = λ q f is. h.in_range q f (sym (e q) ∙ is);
  no_frame_twice = λ p q f is too. h.no_frame_twice p q f (sym (e p) ∙ is) (sym (e q) ∙ too);
}

-- A page goes out of its frame.
pub out_placed : (n : ℕ) (C D : ℕ → Type 0) (F G : ℕ → Option ℕ) (v : ℕ) → IsPlaced n C F
    → ((q : ℕ) → D q → C q × (q ≢ v)) → ((q : ℕ) → C q → q ≢ v → D q)
    → G v ≡ None → ((q : ℕ) → q ≢ v → G q ≡ F q) → IsPlaced n D G
out_placed n C D F G v h back forth here there = record {
  placed = λ q d. let was = back q d in
      subst (λ (x : Option ℕ). IsSome x) (sym (there q was.1)) (h.placed q was.0);
  cached = λ q some. cached_at q some (which q v);
  in_range = λ q f is. in_range_at q f is (which q v);
  no_frame_twice = λ p q f is too. twice p q f is too (which p v) (which q v);
}
  where
    cached_at : (q : ℕ) → IsSome (G q) → Which q v → D q
    cached_at q some (same e f) = absurd (no_some (G q) (ap G e ∙ here) some)
    cached_at q some (other e f) = forth q (h.cached q (subst (λ (x : Option ℕ). IsSome x) (there q e) some)) e

    in_range_at : (q f : ℕ) → G q ≡ Some f → Which q v → f < n
    in_range_at q f is (same e k) = absurd (none_isnt (G q) f (ap G e ∙ here) is)
    in_range_at q f is (other e k) = h.in_range q f (sym (there q e) ∙ is)

    twice : (p q f : ℕ) → G p ≡ Some f → G q ≡ Some f → Which p v → Which q v → p ≡ q
    twice p q f is too (same e k) o = absurd (none_isnt (G p) f (ap G e ∙ here) is)
    twice p q f is too (other e k) (same d j) = absurd (none_isnt (G q) f (ap G d ∙ here) too)
    twice p q f is too (other e k) (other d j) = h.no_frame_twice p q f (sym (there p e) ∙ is) (sym (there q d) ∙ too)

-- A page goes into a frame in which no other page is.
pub in_placed : (n : ℕ) (C D : ℕ → Type 0) (F G : ℕ → Option ℕ) (page k : ℕ) → IsPlaced n C F → k < n
    → ((q : ℕ) → F q ≡ Some k → ⊥) → ((q : ℕ) → D q → (q ≡ page) ⊎ C q) → D page → ((q : ℕ) → C q → D q)
    → G page ≡ Some k → ((q : ℕ) → q ≢ page → G q ≡ F q) → IsPlaced n D G
in_placed n C D F G page k h low free back itself forth here there = record {
  placed = λ q d. placed_at q (which q page) (back q d);
  cached = λ q some. cached_at q some (which q page);
  in_range = λ q f is. in_range_at q f is (which q page);
  no_frame_twice = λ p q f is too. twice p q f is too (which p page) (which q page);
}
  where
    placed_at : (q : ℕ) → Which q page → (q ≡ page) ⊎ C q → IsSome (G q)
    placed_at q (same e f) was = is_some_of (G q) k (ap G e ∙ here)
    placed_at q (other e f) (inl was) = absurd (e was)
    placed_at q (other e f) (inr was) = subst (λ (x : Option ℕ). IsSome x) (sym (there q e)) (h.placed q was)

    cached_at : (q : ℕ) → IsSome (G q) → Which q page → D q
    cached_at q some (same e f) = subst D (sym e) itself
    cached_at q some (other e f) = forth q (h.cached q (subst (λ (x : Option ℕ). IsSome x) (there q e) some))

    found : (q f : ℕ) → G q ≡ Some f → q ≡ page → k ≡ f
    found q f is e = let both : Some k ≡ Some f = sym here ∙ ap G (sym e) ∙ is in cc

    in_range_at : (q f : ℕ) → G q ≡ Some f → Which q page → f < n
    in_range_at q f is (same e j) = subst (λ x. x < n) (found q f is e) low
    in_range_at q f is (other e j) = h.in_range q f (sym (there q e) ∙ is)

    taken : (p q f : ℕ) → G p ≡ Some f → p ≡ page → G q ≡ Some f → q ≢ page → ⊥
    taken p q f is e too d =
        free q (sym (there q d) ∙ too ∙ ap (λ (x : ℕ). Some x) (sym (found p f is e)))

    twice : (p q f : ℕ) → G p ≡ Some f → G q ≡ Some f → Which p page → Which q page → p ≡ q
    twice p q f is too (same e j) (same d i) = e ∙ sym d
    twice p q f is too (same e j) (other d i) = absurd (taken p q f is e too d)
    twice p q f is too (other e j) (same d i) = absurd (taken q p f too d is e)
    twice p q f is too (other e j) (other d i) = h.no_frame_twice p q f (sym (there p e) ∙ is) (sym (there q d) ∙ too)

-- Then no page is in the frame that it left.
pub left_free : (n : ℕ) (C : ℕ → Type 0) (F G : ℕ → Option ℕ) (v k : ℕ) → IsPlaced n C F → F v ≡ Some k → G v ≡ None
    → ((q : ℕ) → q ≢ v → G q ≡ F q) → (q : ℕ) → G q ≡ Some k → ⊥
left_free n C F G v k h was here there q e = go (which q v)
  where
    go : Which q v → ⊥
    go (same d f) = none_isnt (G q) k (ap G d ∙ here) e
    go (other d f) = d (h.no_frame_twice q v k (sym (there q d) ∙ e) was)
