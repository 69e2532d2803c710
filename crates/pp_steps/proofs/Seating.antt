-- Who is seated, after a call.
use Rattle.std.proofs.Common.{◌≡◌, ℕ, zero, suc, Bool, true, false, List, [], ◌∷◌, Option, Some, None, refl, ap}
use Rattle.std.specs.Prelude.{IfSome, is_some, not, ◌&&◌, slice_get, slice_set, slice_index_or}
use Rattle.std.proofs.lemmas.Bool.{false≢true}
use Rattle.pp_steps.specs.declared.seats.Place.{Place}
use Rattle.pp_steps.specs.Seats.{who, EachSeated}

-- ---- each that is seated

module _ {T : Type 0} where
  on_some : (P Q : T → Type 0) (o : Option T) → ((s : T) → P s → Q s) → IfSome o P → IfSome o Q
  on_some P Q None f h = h
  on_some P Q (Some s) f h = f s h

  -- What holds of each, by what held.
  pub each_by : (P Q : ℕ → T → Type 0) (places : List (Place T)) → ((k : ℕ) (s : T) → P k s → Q k s) → EachSeated P places
      → EachSeated Q places
  each_by P Q places f all k = on_some (P k) (Q k) (who (slice_get places k)) (f k) (all k)

  -- After one place was given another.
  pub each_set : (P : ℕ → T → Type 0) (places : List (Place T)) (w : ℕ) (p : Place T) → EachSeated P places → IfSome p.seated (P w)
      → EachSeated P (slice_set places w p)
  each_set P [] w p all here k = all k
  each_set P (q ∷ qs) zero p all here zero = here
  each_set P (q ∷ qs) zero p all here (suc k) = all (suc k)
  each_set P (q ∷ qs) (suc w) p all here zero = all zero
  each_set P (q ∷ qs) (suc w) p all here (suc k) = each_set (λ j. P (suc j)) qs w p (λ j. all (suc j)) here k

  -- After one place was emptied: of the others by what held.
  pub each_but : (P Q : ℕ → T → Type 0) (places : List (Place T)) (w turn : ℕ)
      → ((k : ℕ) (s : T) → (k ≡ w → ⊥) → P k s → Q k s) → EachSeated P places
      → EachSeated Q (slice_set places w (record { turn = turn; seated = None }))
  each_but P Q [] w turn f all k = tt
  each_but P Q (q ∷ qs) zero turn f all zero = tt
  each_but P Q (q ∷ qs) zero turn f all (suc k) =
      on_some (P (suc k)) (Q (suc k)) (who (slice_get qs k)) (λ s p. f (suc k) s (λ e. cc) p) (all (suc k))
  each_but P Q (q ∷ qs) (suc w) turn f all zero =
      on_some (P zero) (Q zero) q.seated (λ s p. f zero s (λ e. cc) p) (all zero)
  each_but P Q (q ∷ qs) (suc w) turn f all (suc k) =
      each_but (λ j. P (suc j)) (λ j. Q (suc j)) qs w turn (λ j s n p. f (suc j) s (λ e. n (cc)) p) (λ j. all (suc j)) k

-- ---- whose chair is out

-- Whether the chair is out, and its worker isn't there.
abbrev pub out : List (Option ℕ) → List Bool → (chair : ℕ) → Bool
out peaks there k = is_some (slice_index_or peaks k None) && not (slice_index_or there k true)

no_and : (b : Bool) → (b && false) ≡ true → ⊥
no_and true e = false≢true e
no_and false e = false≢true e

-- One more is sent out.
pub out_begun : (peaks : List (Option ℕ)) (there : List Bool) (c peak k : ℕ) → out peaks there k ≡ true
    → out (slice_set peaks c (Some peak)) (slice_set there c false) k ≡ true
out_begun [] there c peak k e = absurd (false≢true e)
out_begun (p ∷ ps) [] c peak k e = absurd (no_and (is_some (slice_index_or (p ∷ ps) k None)) e)
out_begun (p ∷ ps) (t ∷ ts) zero peak zero e = refl
out_begun (p ∷ ps) (t ∷ ts) zero peak (suc k) e = e
out_begun (p ∷ ps) (t ∷ ts) (suc c) peak zero e = e
out_begun (p ∷ ps) (t ∷ ts) (suc c) peak (suc k) e = out_begun ps ts c peak k e

pub out_begun_self : (peaks : List (Option ℕ)) (there : List Bool) (c peak : ℕ) → slice_get peaks c ≡ Some None
    → slice_get there c ≡ Some true → out (slice_set peaks c (Some peak)) (slice_set there c false) c ≡ true
out_begun_self [] there c peak e f = cc
out_begun_self (p ∷ ps) [] c peak e f = cc
out_begun_self (p ∷ ps) (t ∷ ts) zero peak e f = refl
out_begun_self (p ∷ ps) (t ∷ ts) (suc c) peak e f = out_begun_self ps ts c peak e f

-- Another came home, or came and stays out.
pub out_came : (peaks : List (Option ℕ)) (there : List Bool) (c k : ℕ) → (k ≡ c → ⊥) → out peaks there k ≡ true
    → out (slice_set peaks c None) (slice_set there c true) k ≡ true
out_came [] there c k n e = absurd (false≢true e)
out_came (p ∷ ps) [] c k n e = absurd (no_and (is_some (slice_index_or (p ∷ ps) k None)) e)
out_came (p ∷ ps) (t ∷ ts) zero zero n e = absurd (n refl)
out_came (p ∷ ps) (t ∷ ts) zero (suc k) n e = e
out_came (p ∷ ps) (t ∷ ts) (suc c) zero n e = e
out_came (p ∷ ps) (t ∷ ts) (suc c) (suc k) n e = out_came ps ts c k (λ f. n (ap suc f)) e

pub out_stayed : (peaks : List (Option ℕ)) (there : List Bool) (c k : ℕ) → (k ≡ c → ⊥) → out peaks there k ≡ true
    → out peaks (slice_set there c true) k ≡ true
out_stayed [] there c k n e = absurd (false≢true e)
out_stayed (p ∷ ps) [] c k n e = absurd (no_and (is_some (slice_index_or (p ∷ ps) k None)) e)
out_stayed (p ∷ ps) (t ∷ ts) zero zero n e = absurd (n refl)
out_stayed (p ∷ ps) (t ∷ ts) zero (suc k) n e = e
out_stayed (p ∷ ps) (t ∷ ts) (suc c) zero n e = e
out_stayed (p ∷ ps) (t ∷ ts) (suc c) (suc k) n e = out_stayed ps ts c k (λ f. n (ap suc f)) e
