-- Places that are taken by turns.
use Rattle.std.proofs.Common.{◌≡◌, ◌∙◌, ℕ, zero, suc, Bool, true, false, List, [], ◌∷◌, ◌++◌, length, Option, Some, None, refl, ap, subst, arith}
use Rattle.std.specs.Prelude.{IfSome, IfNone, replicate, ◌==◌, if◌then◌else◌, slice_get, slice_set, slice_index_or}
use Rattle.std.proofs.lemmas.Bool.Decides.{nat_tests}
use Rattle.pp_steps.specs.declared.pass.Pass.{Pass}
use Rattle.pp_steps.specs.declared.seats.Place.{Place}
use Rattle.pp_steps.specs.Seats.{EachSeated, who, seated_at, seated_in, with_seat}

module _ {T : Type 0} where
  seated_place : (o : Option (Place T)) (turn : ℕ) (s : T) → seated_in o turn ≡ Some s
      → o ≡ Some (record { turn = turn; seated = Some s })
  seated_place None turn s e = cc
  seated_place (Some p) turn s e = go (p.turn == turn) refl e
    where
      go : (b : Bool) → (p.turn == turn) ≡ b → (if b then p.seated else None) ≡ Some s
          → Some p ≡ Some (record { turn = turn; seated = Some s })
      go true is f =
          let same : p.turn ≡ turn = grind (arith, nat_tests) in
          λ i. Some (record { turn = same i; seated = f i })
      go false is f = cc

  get_default : (places : List (Place T)) (k : ℕ) (p d : Place T) → slice_get places k ≡ Some p
      → slice_index_or places k d ≡ p
  get_default [] k p d e = cc
  get_default (q ∷ qs) zero p d e = cc
  get_default (q ∷ qs) (suc k) p d e = get_default qs k p d e

  -- The place of the pass, of seats that are lent, is this one, and the one with the pass is in it.
  pub record Stands (inside places : List (Place T)) (pass : Pass) (s : T) (p : Place T) : Type 0 where
    pub view : inside ≡ places
    pub there : seated_at places pass ≡ Some s
    pub at : p ≡ slice_index_or inside pass.bell p

  place_is : (inside places : List (Place T)) (pass : Pass) (s : T) (p : Place T) → Stands inside places pass s p
      → p ≡ record { turn = pass.turn; seated = Some s }
  place_is inside places pass s p k =
      k.at ∙ ap (λ ps. slice_index_or ps pass.bell p) k.view
      ∙ get_default places pass.bell (record { turn = pass.turn; seated = Some s }) p
      (seated_place (slice_get places pass.bell) pass.turn s k.there)

  -- Another one has the place: the seats are those with it in the pass's place.
  pub seat_changed : (inside places after : List (Place T)) (pass : Pass) (s t : T) (p : Place T) → Stands inside places pass s p
      → after ≡ slice_set inside pass.bell (record { turn = p.turn; seated = Some t })
      → after ≡ with_seat places pass t
  seat_changed inside places after pass s t p k put =
      put ∙ ap (λ ps. slice_set ps pass.bell (record { turn = p.turn; seated = Some t })) k.view
      ∙ ap (λ (q : Place T). slice_set places pass.bell (record { turn = q.turn; seated = Some t }))
      (place_is inside places pass s p k)

  pub seated_same : (inside places : List (Place T)) (pass : Pass) (s r : T) (p : Place T) → Stands inside places pass s p
      → p.seated ≡ Some r → r ≡ s
  seated_same inside places pass s r p k f =
      let seated : p.seated ≡ Some s = ap (λ (q : Place T). q.seated) (place_is inside places pass s p k) in
      cc

  -- The place isn't empty.
  pub seated_here : (inside places : List (Place T)) (pass : Pass) (s : T) (p : Place T) → Stands inside places pass s p
      → p.seated ≡ None → ⊥
  seated_here inside places pass s p k f =
      let seated : p.seated ≡ Some s = ap (λ (q : Place T). q.seated) (place_is inside places pass s p k) in
      cc

  -- Where there are as many places as chairs, a chair that is home has a place.
  pub place_there : (peaks : List (Option ℕ)) (places : List (Place T)) (k : ℕ) → length places ≡ length peaks
      → slice_get peaks k ≡ Some None → (p : Place T) × slice_get places k ≡ Some p
  place_there [] places k e h = cc
  place_there (x ∷ xs) [] k e h = absurd (omega arith)
  place_there (x ∷ xs) (p ∷ ps) zero e h = (p, refl)
  place_there (x ∷ xs) (p ∷ ps) (suc k) e h = place_there xs ps k (omega arith) h

  -- What holds of each in a list holds of each in its front.
  pub each_front : (P : ℕ → T → Type 0) (front rest : List (Place T)) → EachSeated P (front ++ rest) → EachSeated P front
  each_front P [] rest all k = tt
  each_front P (p ∷ ps) rest all zero = all zero
  each_front P (p ∷ ps) rest all (suc k) = each_front (λ j. P (suc j)) ps rest (λ j. all (suc j)) k

  last_at : (front : List (Place T)) (p : Place T) → slice_get (front ++ p ∷ []) (length front) ≡ Some p
  last_at [] p = refl
  last_at (q ∷ qs) p = last_at qs p

  pub last_set : (front : List (Place T)) (p q : Place T) → slice_set (front ++ p ∷ []) (length front) q ≡ front ++ q ∷ []
  last_set [] p q = refl
  last_set (x ∷ xs) p q = ap (λ ys. x ∷ ys) (last_set xs p q)

  -- It holds of the last.
  pub each_last : (P : ℕ → T → Type 0) (front : List (Place T)) (p : Place T) → EachSeated P (front ++ p ∷ [])
      → IfSome p.seated (P (length front))
  each_last P front p all =
      subst (λ (o : Option (Place T)). IfSome (who o) (P (length front))) (last_at front p) (all (length front))

  -- In no place is anybody, so that it holds of each.
  pub none_seated : (P : ℕ → T → Type 0) (n : ℕ) → EachSeated P (replicate n (record { turn = 0; seated = None }))
  none_seated P zero k = tt
  none_seated P (suc n) zero = tt
  none_seated P (suc n) (suc k) = none_seated (λ j. P (suc j)) n k

-- Something is there, so that it isn't missing.
pub is_some_of : {A : Type 0} (o : Option A) (a : A) (P : Type 0) → o ≡ Some a → IfNone o P
is_some_of None a P e = cc
is_some_of (Some b) a P e = tt
