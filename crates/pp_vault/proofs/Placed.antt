-- Places with nothing in them, and hands of workers that are idle.
use Rattle.std.proofs.Common.{◌≡◌, ◌∙◌, ℕ, zero, suc, ◌<◌, ◌≤◌, Bool, true, false, Option, Some, None, List, [], ◌∷◌}
use Rattle.std.proofs.Common.{length, replicate, nat_lt, refl, sym, ap, subst, arith}
use Rattle.std.specs.Prelude.{IfSome}
use Rattle.std.proofs.lemmas.Bool.{false≢true}
use Rattle.std.proofs.lemmas.Bool.Decides.{nat_tests}
use Rattle.std.proofs.lemmas.List.{get_or-replicate, length-replicate, get_or_past}
use Rattle.pp_vault.specs.declared.guards.Guard.{Guard}
use Rattle.pp_vault.specs.Holding.{slot_by, placed, all_free, no_guards, GuardPlaces}

module _ {T : Type 0} where
  -- Places that are all free are only their number.
  pub none_placed : (xs : List (Option T)) (n : ℕ) → length xs ≡ n
      → ((i : ℕ) → i < n → placed xs i ≡ None) → xs ≡ replicate n None
  none_placed [] zero long each = refl
  none_placed (x ∷ xs) zero long each = absurd (omega (arith, long))
  none_placed [] (suc n) long each = absurd (omega (arith, long))
  none_placed (x ∷ xs) (suc n) long each =
      let first : x ≡ None = each 0 (omega arith) in
      let rest : xs ≡ replicate n None =
      none_placed xs n (omega (arith, long)) (λ i low. each (suc i) (omega (arith, low))) in
      ap (λ o. o ∷ xs) first ∙ ap (λ l. None ∷ l) rest

  pub free_none : (xs : List (Option T)) (n : ℕ) → length xs ≡ n → all_free xs ≡ true → xs ≡ replicate n None
  free_none [] zero long free = refl
  free_none (x ∷ xs) zero long free = absurd (omega (arith, long))
  free_none [] (suc n) long free = absurd (omega (arith, long))
  free_none (None ∷ xs) (suc n) long free = ap (λ l. None ∷ l) (free_none xs n (omega (arith, long)) free)
  free_none (Some x ∷ xs) (suc n) long free = absurd (false≢true free)

none_by : {T : Type 0} (n slot : ℕ) (b : Bool) → nat_lt slot n ≡ b → placed {T = T} (replicate n None) slot ≡ None
none_by {T} n slot true at =
    let low : slot < n = grind (arith, nat_tests) in
    get_or-replicate {A = Option T} n slot None None low
none_by {T} n slot false at =
    let high : n ≤ slot = grind (arith, nat_tests) in
    get_or_past {X = Option T} (replicate n None) slot None
    (omega (arith, high, length-replicate {A = Option T} n None))

pub none_there : {T : Type 0} (n slot : ℕ) → placed {T = T} (replicate n None) slot ≡ None
none_there n slot = none_by n slot (nat_lt slot n) refl

pub no_guard_places : GuardPlaces no_guards
no_guard_places =
    record {
      long = length-replicate {A = Option Guard} 32 None;
      each = λ slot. subst (λ o. IfSome o (λ guard. slot_by guard ≡ slot)) (sym (none_there {T = Guard} 32 slot)) tt;
    }
