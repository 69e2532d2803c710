-- The places of parked workers.
use Rattle.std.proofs.Common.{◌≡◌, ◌∙◌, ℕ, zero, suc, ◌+◌, ◌<◌, ◌≤◌, Bool, true, false, cond, one-add, List, [], ◌∷◌}
use Rattle.std.proofs.Common.{length, Option, Some, None, refl, sym, ap, subst, arith}
use Rattle.std.specs.Prelude.{map, slice_get, slice_set, slice_index_or, replicate, is_some, is_none, position, nat_lt}
use Rattle.std.specs.Prelude.{IfSome}
use Rattle.std.specs.List.{position_or_len}
use Rattle.std.proofs.lemmas.Bool.Decides.{nat_tests}
use Rattle.std.proofs.Math.ListN.{length-set}
use Rattle.pp_vault.specs.declared.stage.Hand.{Hand}
use Rattle.pp_vault.specs.Stages.{stage_worker}
use Rattle.pp_pool.specs.declared.worker.Worker.{Worker}
use Rattle.pp_hall.specs.Posts.{ArePosts}

-- What is told of a place, by whether anything stands there.
pub there_at : {A : Type 0} (xs : List (Option A)) (w : ℕ) → slice_index_or (map is_some xs) w false ≡ is_some (slice_index_or xs w None)
there_at [] w = refl
there_at (x ∷ xs) zero = refl
there_at (x ∷ xs) (suc w) = there_at xs w

pub there_set : {A : Type 0} (xs : List (Option A)) (w : ℕ) (x : Option A)
    → map is_some (slice_set xs w x) ≡ slice_set (map is_some xs) w (is_some x)
there_set [] w x = refl
there_set (y ∷ ys) zero x = refl
there_set (y ∷ ys) (suc w) x = ap (λ bs. is_some y ∷ bs) (there_set ys w x)

-- Past the last place it is told that one is there.
pub past_is_there : {A : Type 0} (xs : List (Option A)) (w : ℕ) → length xs ≤ w → slice_index_or (map is_some xs) w true ≡ true
past_is_there [] w le = refl
past_is_there (x ∷ xs) zero le = absurd (omega arith)
past_is_there (x ∷ xs) (suc w) le = past_is_there xs w (omega arith)

pub within_is_there : {A : Type 0} (xs : List (Option A)) (w : ℕ) → w < length xs
    → slice_index_or (map is_some xs) w true ≡ is_some (slice_index_or xs w None)
within_is_there [] w le = absurd (omega arith)
within_is_there (x ∷ xs) zero le = refl
within_is_there (x ∷ xs) (suc w) le = within_is_there xs w (omega arith)

-- A fact of all that stands somewhere, after a write to one place.
pub if_set : {A : Type 0} (P : ℕ → A → Type 0) (xs : List (Option A)) (w : ℕ) (x : Option A)
    → ((v : ℕ) → IfSome (slice_index_or xs v None) (P v)) → IfSome x (P w)
    → (v : ℕ) → IfSome (slice_index_or (slice_set xs w x) v None) (P v)
if_set P [] w x all here v = all v
if_set P (y ∷ ys) zero x all here zero = here
if_set P (y ∷ ys) zero x all here (suc v) = all (suc v)
if_set P (y ∷ ys) (suc w) x all here zero = all zero
if_set P (y ∷ ys) (suc w) x all here (suc v) = if_set (λ k. P (suc k)) ys w x (λ k. all (suc k)) here v

-- What was found in a place, whatever else would have been found past the last one.
pub found_there : {A : Type 0} (xs : List (Option A)) (w : ℕ) (x : Option A) → w < length xs → x ≡ slice_index_or xs w x
    → x ≡ slice_index_or xs w None
found_there [] w x less e = absurd (omega arith)
found_there (y ∷ ys) zero x less e = e
found_there (y ∷ ys) (suc w) x less e = found_there ys w x (omega arith) e

-- Where each chair is home, so is each worker.
abbrev all_home : ℕ → List (Option ℕ)
all_home n = replicate n None

pub homes_at_first : (n w : ℕ) → slice_get (all_home n) w ≡ Some None → slice_get (replicate n true) w ≡ Some true
homes_at_first zero w e = cc
homes_at_first (suc n) zero e = refl
homes_at_first (suc n) (suc w) e = homes_at_first n w e

-- The chairs that are home have their workers, also after one was sent out, came home, or came and stays out.
pub homes_but : (peaks : List (Option ℕ)) (there : List Bool)
    → ((w : ℕ) → slice_get peaks w ≡ Some None → slice_get there w ≡ Some true) → (chair peak w : ℕ)
    → slice_get (slice_set peaks chair (Some peak)) w ≡ Some None → slice_get (slice_set there chair false) w ≡ Some true
homes_but [] there all chair peak w e = cc
homes_but (p ∷ ps) [] all zero peak zero e = cc
homes_but (p ∷ ps) [] all zero peak (suc w) e = all (suc w) e
homes_but (p ∷ ps) [] all (suc c) peak zero e = all zero e
homes_but (p ∷ ps) [] all (suc c) peak (suc w) e = homes_but ps [] (λ k f. all (suc k) f) c peak w e
homes_but (p ∷ ps) (t ∷ ts) all zero peak zero e = cc
homes_but (p ∷ ps) (t ∷ ts) all zero peak (suc w) e = all (suc w) e
homes_but (p ∷ ps) (t ∷ ts) all (suc c) peak zero e = all zero e
homes_but (p ∷ ps) (t ∷ ts) all (suc c) peak (suc w) e = homes_but ps ts (λ k f. all (suc k) f) c peak w e

pub homes_and : (peaks : List (Option ℕ)) (there : List Bool)
    → ((w : ℕ) → slice_get peaks w ≡ Some None → slice_get there w ≡ Some true) → (chair : ℕ)
    → slice_index_or there chair true ≡ false → (w : ℕ) → slice_get (slice_set peaks chair None) w ≡ Some None
    → slice_get (slice_set there chair true) w ≡ Some true
homes_and [] there all chair free w e = cc
homes_and (p ∷ ps) [] all chair free w e = cc
homes_and (p ∷ ps) (t ∷ ts) all zero free zero e = refl
homes_and (p ∷ ps) (t ∷ ts) all zero free (suc w) e = all (suc w) e
homes_and (p ∷ ps) (t ∷ ts) all (suc c) free zero e = all zero e
homes_and (p ∷ ps) (t ∷ ts) all (suc c) free (suc w) e = homes_and ps ts (λ k f. all (suc k) f) c free w e

pub stays_there : (there : List Bool) (chair w : ℕ) → slice_get there w ≡ Some true
    → slice_get (slice_set there chair true) w ≡ Some true
stays_there [] chair w e = cc
stays_there (t ∷ ts) zero zero e = refl
stays_there (t ∷ ts) zero (suc w) e = e
stays_there (t ∷ ts) (suc c) zero e = e
stays_there (t ∷ ts) (suc c) (suc w) e = stays_there ts c w e

-- The first chair that is home is home.
at_first : (peaks : List (Option ℕ)) → position_or_len is_none peaks < length peaks
    → slice_get peaks (position_or_len is_none peaks) ≡ Some None
at_first [] le = absurd (omega arith)
at_first (None ∷ ps) le = refl
at_first (Some p ∷ ps) le =
    let less : position_or_len is_none ps < length ps = omega arith in
    rw one-add (at_first ps less)

pub first_home_there : (peaks : List (Option ℕ)) (w : ℕ) → position is_none peaks ≡ Some w → slice_get peaks w ≡ Some None
first_home_there peaks w e = go (nat_lt (position_or_len is_none peaks) (length peaks)) refl e
  where
    go : (b : Bool) → nat_lt (position_or_len is_none peaks) (length peaks) ≡ b
        → ◌≡◌ {A = Option ℕ} (cond b (Some (position_or_len is_none peaks)) None) (Some w) → slice_get peaks w ≡ Some None
    go true is f =
        let same : position_or_len is_none peaks ≡ w = cc in
        ap (slice_get peaks) (sym same) ∙ at_first peaks (grind (arith, nat_tests))
    go false is f = cc

-- ---- parked workers

pub posts_set : {S D : Type 0} (places : List (Option (Worker S D))) (hands : List (Option Hand)) (devices : List D)
    (capacity chair : ℕ) (x : Option (Worker S D)) → ArePosts places hands devices capacity
    → IfSome x (λ post. stage_worker post.hand.stage ≡ Some chair) → ArePosts (slice_set places chair x) hands devices capacity
posts_set {S = S} {D = D} places hands devices capacity chair x h here =
    let same : length (slice_set places chair x) ≡ length places = length-set places chair x in
    record {
      own = if_set (λ (w : ℕ) (post : Worker S D). stage_worker post.hand.stage ≡ Some w) places chair x h.own here;
      free = λ w less. h.free w (omega arith);
      none = h.none;
      room = omega (arith, h.room);
    }

pub posts_taken : {S D : Type 0} (places : List (Option (Worker S D))) (hands : List (Option Hand)) (devices : List D)
    (capacity chair : ℕ) (x : Option (Worker S D)) → ArePosts places hands devices capacity → x ≡ None
    → ArePosts (slice_set places chair x) hands devices capacity
posts_taken {S = S} {D = D} places hands devices capacity chair x h none =
    posts_set places hands devices capacity chair x h
    (subst (λ (y : Option (Worker S D)). IfSome y (λ post. stage_worker post.hand.stage ≡ Some chair)) (sym none) tt)
