-- How many slots hold something: at most all, and what it becomes where one slot changes.
use Rattle.std.proofs.Common.{◌≡◌, ◌∙◌, ℕ, zero, suc, ◌+◌, ◌≤◌, ◌<◌, Bool, true, false, eqb, cond, Option, Some, None}
use Rattle.std.proofs.Common.{[], refl, ap, arith}
use Rattle.std.specs.Prelude.{is_some, if◌then◌else◌}
use Rattle.std.proofs.lemmas.Bool.{eqb-true}
use Rattle.std.proofs.lemmas.Bool.Decides.{nat_tests}
use Rattle.pp_cert.specs.Held.{Holding, Holdings, holding_at}
use Rattle.pp_model.specs.Holders.{held_slots}

-- One for a slot that holds something.
abbrev pub count_of : Option Holding → ℕ
count_of o = if is_some o then 1 else 0

one_most : (o : Option Holding) → count_of o ≤ 1
one_most None = omega arith
one_most (Some h) = omega arith

held_zero : (hs : Holdings) → held_slots zero hs ≡ 0
unfolding held_slots
held_zero hs = refl

held_more : (n : ℕ) (hs : Holdings) → held_slots (suc n) hs ≡ count_of (holding_at hs n) + held_slots n hs
unfolding held_slots
held_more n hs = refl

pub few_held : (n : ℕ) (hs : Holdings) → held_slots n hs ≤ n
few_held zero hs = omega (arith, held_zero hs)
few_held (suc n) hs = omega (arith, held_more n hs, one_most (holding_at hs n), few_held n hs)

pub none_held : (n : ℕ) → held_slots n [] ≡ 0
none_held zero = held_zero []
none_held (suc n) = omega (arith, held_more n [], none_held n)

-- Where the first slots hold the same, as many of them hold something.
same_held : (n : ℕ) (hs ks : Holdings) → ((k : ℕ) → k < n → holding_at ks k ≡ holding_at hs k)
    → held_slots n ks ≡ held_slots n hs
same_held zero hs ks e = omega (arith, held_zero hs, held_zero ks)
same_held (suc n) hs ks e =
    omega (
      arith,
      held_more n hs,
      held_more n ks,
      ap count_of (e n (omega arith)),
      same_held n hs ks (λ k lt. e k (omega (arith, lt))),
    )

-- The slot has this from now on, and each other slot what it had.
abbrev pub Sets : (slot : ℕ) → Option Holding → (hs ks : Holdings) → Type 0
Sets slot now hs ks = (k : ℕ) → holding_at ks k ≡ cond (eqb k slot) now (holding_at hs k)

others_stay : (n : ℕ) (now : Option Holding) (hs ks : Holdings) → Sets n now hs ks → (k : ℕ) → k < n
    → holding_at ks k ≡ holding_at hs k
others_stay n now hs ks sets k below =
    let apart : eqb k n ≡ false = grind (arith, nat_tests) in
    sets k ∙ ap (λ b. cond b now (holding_at hs k)) apart

-- One slot more, by whether it is the one that changes.
held_step : (n slot : ℕ) (now : Option Holding) (hs ks : Holdings) → slot < suc n → Sets slot now hs ks
    → (slot < n → held_slots n ks + count_of (holding_at hs slot) ≡ held_slots n hs + count_of now) → (b : Bool)
    → eqb n slot ≡ b → held_slots (suc n) ks + count_of (holding_at hs slot) ≡ held_slots (suc n) hs + count_of now
held_step n slot now hs ks lt sets below true e =
    let here : n ≡ slot = eqb-true n slot e in
    let same = same_held n hs ks (λ k less. others_stay slot now hs ks sets k (omega (arith, here, less))) in
    omega (
      arith,
      held_more n hs,
      held_more n ks,
      ap count_of (sets n ∙ ap (λ b. cond b now (holding_at hs n)) e),
      ap (λ k. count_of (holding_at hs k)) here,
      same,
    )
held_step n slot now hs ks lt sets below false e =
    let still : slot < n = grind (arith, nat_tests) in
    omega (
      arith,
      held_more n hs,
      held_more n ks,
      ap count_of (sets n ∙ ap (λ b. cond b now (holding_at hs n)) e),
      below still,
    )

pub held_set : (n slot : ℕ) (now : Option Holding) (hs ks : Holdings) → slot < n → Sets slot now hs ks
    → held_slots n ks + count_of (holding_at hs slot) ≡ held_slots n hs + count_of now
held_set zero slot now hs ks lt sets = absurd (omega (arith, lt))
held_set (suc n) slot now hs ks lt sets =
    held_step n slot now hs ks lt sets (λ still. held_set n slot now hs ks still sets) (eqb n slot) refl

counts_step : (n slot : ℕ) (hs : Holdings) (h : Holding) → slot < suc n → holding_at hs slot ≡ Some h
    → (slot < n → 1 ≤ held_slots n hs) → (b : Bool) → eqb n slot ≡ b → 1 ≤ held_slots (suc n) hs
counts_step n slot hs h lt e below true f =
    let here : n ≡ slot = eqb-true n slot f in
    omega (arith, held_more n hs, ap count_of e, ap (λ k. count_of (holding_at hs k)) here)
counts_step n slot hs h lt e below false f =
    let still : slot < n = grind (arith, nat_tests) in omega (arith, held_more n hs, below still)

-- A slot that holds something counts.
pub counts_one : (n slot : ℕ) (hs : Holdings) (h : Holding) → slot < n → holding_at hs slot ≡ Some h
    → 1 ≤ held_slots n hs
counts_one zero slot hs h lt e = absurd (omega (arith, lt))
counts_one (suc n) slot hs h lt e =
    counts_step n slot hs h lt e (λ still. counts_one n slot hs h still e) (eqb n slot) refl
