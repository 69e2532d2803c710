-- The slots that the statements of a document name, and the ways in which they name them.
use Rattle.std.proofs.Common.{◌≡◌, ◌≢◌, ◌⊎◌, inl, inr, ℕ, zero, suc, ◌+◌, ◌<◌, ◌≤◌, Bool, true, false, nat_lt}
use Rattle.std.proofs.Common.{List, [], ◌∷◌, ◌++◌, length, get_or, AllPairs, Some, sym, ap, ◌∙◌, arith, not}
use Rattle.std.specs.List.{slice_get}
use Rattle.std.proofs.lemmas.Bool.{false≢true, cases_lt}
use Rattle.std.proofs.lemmas.Bool.Decides.{nat_tests}
use Rattle.std.proofs.lemmas.Option.{slice_get_within, slice_get-get_or, get_or_from_slice_get}
use Rattle.serde_json.specs.Data.{Data}
use Rattle.pp_plan.specs.Numbering.{in_byte_order}
use Rattle.pp_plan.specs.Faults.{Written, NamesSlot, IsNamedBefore, IsMixed}
use Rattle.pp_plan.proofs.Places.{Has, AreApart}
use Rattle.pp_plan.proofs.Order.{rises_short, order_rises, order_length, order_from, order_has}
use Rattle.pp_plan.proofs.Found.{beq_is}
use Rattle.pp_plan.proofs.Causes.{NamesAs, names_as, names_slot}
use Rattle.std.specs.Bool.{beq}

-- ---- lists

pub append_left : {A : Type 0} (xs ys : List A) (k : ℕ) (x : A) → slice_get xs k ≡ Some x → slice_get (xs ++ ys) k ≡ Some x
append_left [] ys k x e = absurd cc
append_left (y ∷ xs) ys zero x e = e
append_left (y ∷ xs) ys (suc k) x e = append_left xs ys k x e

pub append_right : {A : Type 0} (xs ys : List A) (k m : ℕ) → m ≡ length xs + k → slice_get (xs ++ ys) m ≡ slice_get ys k
append_right [] ys k m e = ap (slice_get ys) (omega (arith, e))
append_right (x ∷ xs) ys k zero e = absurd (omega (arith, e))
append_right (x ∷ xs) ys k (suc m) e = append_right xs ys k m (omega (arith, e))

-- names that differ are at different places, and the other way round
differ_apart : (xs : List (List ℕ)) → AllPairs (λ a b. a ≢ b) xs → AreApart xs
differ_apart xs differ i j n a b = by (cases_lt i j)
  where
    one : (k : ℕ) → slice_get xs k ≡ Some n → get_or xs k [] ≡ n
    one k is = get_or_from_slice_get xs k n [] is

    by : (i < j) ⊎ (j ≤ i) → i ≡ j
    by (inl below) = absurd (differ i j [] below (slice_get_within xs j n b) (one i a ∙ sym (one j b)))
    by (inr above) =
        elim (cases_lt j i) as (λ _. i ≡ j) [
          | inl below ↦ absurd (differ j i [] below (slice_get_within xs i n a) (one j b ∙ sym (one i a)))
          | inr least ↦
              omega (arith, above, least)
        ]

pub apart_differ : (xs : List (List ℕ)) → AreApart xs → AllPairs (λ a b. a ≢ b) xs
apart_differ xs apart i j d below within same =
    let here : slice_get xs j ≡ Some (get_or xs j d) = slice_get-get_or xs j d within in
    let there : slice_get xs i ≡ Some (get_or xs j d) = slice_get-get_or xs i d (omega (arith, below, within))
    ∙ ap (λ (x : List ℕ). Some x) same in
    let e : i ≡ j = apart i j (get_or xs j d) there here in
    omega (arith, below, e)

-- different names that all stand in a list are no more than it has
pub no_more : (others xs : List (List ℕ)) → AllPairs (λ a b. a ≢ b) others → AreApart xs
    → ((n : List ℕ) → Has others n → Has xs n) → length others ≤ length xs
no_more others xs differ apart within =
    let a =
    rises_short (in_byte_order xs) (in_byte_order others) (order_rises others (differ_apart others differ))
    (order_rises xs apart) (λ n h. order_has xs n (within n (order_from others n h))) in
    let b = order_length others in
    let c = order_length xs in
    omega (arith, a, b, c)

pub no_room : (n m : ℕ) → nat_lt n m ≡ false → m ≤ n
no_room n m e = grind (arith, nat_tests)

-- ---- the ways in which slots are named

-- the statement names the slot in one of the two ways, and a way is one of the two
pub before_as : (ss : List Written) (n : ℕ) (name : List ℕ) → IsNamedBefore NamesSlot ss n name
    → (b : Bool) × IsNamedBefore (NamesAs b) ss n name
before_as ss n name (j, below, (s, there, names)) = let (b, way) = names_as s.value name names in
    (b, (j, below, (s, there, way)))

pub before_slot : (ss : List Written) (n : ℕ) (b : Bool) (name : List ℕ) → IsNamedBefore (NamesAs b) ss n name
    → IsNamedBefore NamesSlot ss n name
before_slot ss n b name (j, below, (s, there, way)) = (j, below, (s, there, names_slot b s.value name way))

-- a slot that is named in two ways
pub is_mixed : (ss : List Written) (n : ℕ) (d : Data) (b c : Bool) (name : List ℕ) → beq c b ≡ false → NamesAs b d name
    → IsNamedBefore (NamesAs c) ss n name → IsMixed ss n d
is_mixed ss n d true true name other now before = absurd (false≢true (sym other))
is_mixed ss n d true false name other now before = inr (name, now, before)
is_mixed ss n d false true name other now before = inl (name, now, before)
is_mixed ss n d false false name other now before = absurd (false≢true (sym other))

pub mixed_as : (ss : List Written) (n : ℕ) (d : Data) → IsMixed ss n d
    → (b : Bool) × (name : List ℕ) × NamesAs b d name × IsNamedBefore (NamesAs (not b)) ss n name
mixed_as ss n d (inl (name, now, before)) = (false, name, now, before)
mixed_as ss n d (inr (name, now, before)) = (true, name, now, before)

pub two_ways : (a b c : Bool) → beq a b ≡ true → b ≡ c → a ≡ not c → ⊥
two_ways a b c alike same other = by a b (beq_is a b alike) c same other
  where
    by : (a b : Bool) → a ≡ b → (c : Bool) → b ≡ c → a ≡ not c → ⊥
    by a b e true f g = false≢true (sym g ∙ e ∙ f)
    by a b e false f g = false≢true (sym (e ∙ f) ∙ g)
