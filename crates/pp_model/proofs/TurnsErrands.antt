-- Errands and a flush in flight: whatever the device gives, the answer is possible. Where none is out, no page is in
-- flight.
use Rattle.std.proofs.Common.{◌≡◌, ℕ, suc, ◌<◌, Bool, true, false, Option, Some, None, List, [], ◌∷◌}
use Rattle.std.proofs.Common.{cond, length, refl, sym, ap, subst, arith}
use Rattle.std.specs.Prelude.{slice_get, sum_by, not, nat_lt, IsTrue, position, get_or}
use Rattle.std.specs.List.{position_or_len}
use Rattle.std.proofs.lemmas.Bool.Decides.{nat_tests}
use Rattle.std.proofs.lemmas.List.Sums.{sum_by-cons, fails_before_first}
use Rattle.std.proofs.lemmas.List.Quantifiers.{position-Some}
use Rattle.std.proofs.lemmas.Option.{slice_get-get_or, slice_get_within, get_or_from_slice_get}
use Rattle.pp_model.specs.declared.moves.Move.TheVariants as move
use Rattle.pp_model.specs.declared.moves.Came.{Came}
use Rattle.pp_model.specs.declared.moves.Came.TheVariants.{Fault, Image}
use Rattle.pp_model.specs.Pool.{Stage, acting, writing, reading, leaving, Running, Flush, State}
use Rattle.pp_model.specs.Holders.{times, in_flight, flies, errands_of, is_in_flight}
use Rattle.pp_model.specs.Answers.{write_where, write_in, write_by, is_misread, read_where, read_came, read_in, read_by}
use Rattle.pp_model.specs.Flushing.{is_clean, flushed_where, flushed_by}
use Rattle.pp_model.specs.Outcome.{Outcome}
use Rattle.pp_model.specs.Moves.{seat_of, is_refusal, IsPossible}
use Rattle.pp_model.specs.Turns.{CanAnswer, is_out, has_errand}

-- ---- the first that passes a test

-- What the first place that passes a test tells: it passes; and where there is none, no place does.
abbrev pub IsFirst : {A : Type 0} → (A → Bool) → List A → Option ℕ → Type 0
IsFirst {A} p xs None = (i : ℕ) (x : A) → slice_get xs i ≡ Some x → p x ≡ false
IsFirst {A} p xs (Some i) = (x : A) × (slice_get xs i ≡ Some x) × (p x ≡ true)

pub first_is : {A : Type 0} (p : A → Bool) (xs : List A) (d : A) → IsFirst p xs (position p xs)
first_is {A} p xs d = go (nat_lt (position_or_len p xs) (length xs)) refl
  where
    go : (b : Bool) → nat_lt (position_or_len p xs) (length xs) ≡ b
        → IsFirst p xs (cond b (Some (position_or_len p xs)) None)
    go true e =
        let first = position_or_len p xs in
        let lt : first < length xs = grind (arith, nat_tests) in
        let is : position p xs ≡ Some first = ap (λ b. cond b (Some first) None) e in
        (get_or xs first d, slice_get-get_or xs first d lt, (position-Some p xs first d is).1)
    go false e = λ i x at.
        let within : i < length xs = slice_get_within xs i x at in
        let before : i < position_or_len p xs = grind (arith, nat_tests) in
        subst (λ y. p y ≡ false) (get_or_from_slice_get xs i x d at) (fails_before_first p xs i d before)

-- ---- errands

-- The outcome isn't a refusal.
abbrev pub Passes : Outcome → Type 0
Passes o = IsTrue (not (is_refusal o.reply))

-- No answer to an errand is refused.
write_passes : (s : State) (w : ℕ) (r : Running) (slot page v : ℕ) (ok : Bool)
    → Passes (write_where s w r slot page v ok)
write_passes s w r slot page v true = refl
write_passes s w r slot page v false = refl

tested_passes : (s : State) (w : ℕ) (r : Running) (slot page stamp : ℕ) (b : Bool)
    → Passes (read_where s w r slot page stamp b)
tested_passes s w r slot page stamp true = refl
tested_passes s w r slot page stamp false = refl

came_passes : (s : State) (w : ℕ) (r : Running) (slot page : ℕ) (c : Came) → Passes (read_came s w r slot page c)
came_passes s w r slot page Fault = refl
came_passes s w r slot page (Image named stamp) =
    tested_passes s w r slot page stamp (is_misread s page named stamp)

-- Whatever the device gives for an errand that is out, the answer is possible.
pub an_errand_can_be_answered : (s : State) (w : ℕ) (r : Running) (g : Stage) → seat_of s w ≡ Some (Some r)
    → r.stage ≡ g → is_out g ≡ true → CanAnswer s w g
an_errand_can_be_answered s w r acting e f out = cc
an_errand_can_be_answered s w r (writing slot page v) e f out = λ ok.
    subst (λ o. Passes (write_by s w ok o)) (sym e)
    (subst (λ g. Passes (write_in s w ok r g)) (sym f) (write_passes s w r slot page v ok))
an_errand_can_be_answered s w r (reading slot page) e f out = λ c.
    subst (λ o. Passes (read_by s w c o)) (sym e)
    (subst (λ g. Passes (read_in s w c r g)) (sym f) (came_passes s w r slot page c))
an_errand_can_be_answered s w r (leaving given) e f out = cc

-- ---- the flush

-- No end of a flush is refused.
over_passes : (s : State) (page : ℕ) (b : Bool) → Passes (flushed_where s page b)
over_passes s page true = refl
over_passes s page false = refl

-- A flush in flight can end, written or not.
pub a_flush_can_end : (s : State) (f : Flush) → s.flush ≡ Some f → (ok : Bool) → IsPossible s (move.FlushDone ok)
a_flush_can_end s f e ok =
    subst (λ o. Passes (flushed_by s ok o)) (sym e) (over_passes s f.page (is_clean s ok f))

-- ---- no errand out

-- A sum of nothings is nothing.
pub all_zero : {A : Type 0} (f : A → ℕ) (xs : List A) → ((i : ℕ) (x : A) → slice_get xs i ≡ Some x → f x ≡ 0)
    → sum_by f xs ≡ 0
all_zero f [] none = refl
all_zero f (x ∷ xs) none = omega (arith, sum_by-cons f x xs, none 0 x refl, all_zero f xs (λ i. none (suc i)))

-- No worker's device has anything to do.
abbrev pub NoErrand : State → Type 0
NoErrand s = (w : ℕ) (x : Option Running) → seat_of s w ≡ Some x → has_errand x ≡ false

-- A worker without an errand has no page in flight.
nothing_flies : (q : ℕ) (g : Stage) → is_out g ≡ false → times q (in_flight g) ≡ 0
nothing_flies q acting e = refl
nothing_flies q (writing slot page v) e = cc
nothing_flies q (reading slot page) e = cc
nothing_flies q (leaving given) e = refl

seat_flies_none : (q : ℕ) (x : Option Running) → has_errand x ≡ false → times q (flies x) ≡ 0
seat_flies_none q None e = refl
seat_flies_none q (Some r) e = nothing_flies q r.stage e

-- Where no errand is out, no page is in flight.
pub no_page_flies_without_errands : (s : State) → NoErrand s → (q : ℕ) → is_in_flight s q ≡ false
no_page_flies_without_errands s none q =
    let zero : errands_of s q ≡ 0 =
    all_zero (λ x. times q (flies x)) s.seats (λ i x e. seat_flies_none q x (none i x e)) in
    grind (arith, nat_tests)
