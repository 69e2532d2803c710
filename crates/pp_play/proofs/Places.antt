-- Places of guards and of hands.
use Rattle.std.proofs.Common.{◌≡◌, ◌∙◌, ℕ, ◌<◌, ◌≤◌, Bool, true, false, Option, Some, None, List, length, nat_lt}
use Rattle.std.proofs.Common.{refl, sym, ap, arith}
use Rattle.std.specs.Prelude.{is_none, slice_set}
use Rattle.std.proofs.lemmas.Bool.{false≢true}
use Rattle.std.proofs.lemmas.Bool.Decides.{nat_tests}
use Rattle.std.proofs.lemmas.List.{get_or_past}
use Rattle.std.proofs.lemmas.Grind.{common_steps}
use Rattle.pp_vault.specs.Holding.{placed, is_free}

-- A place that was emptied is free.
pub freed : {T : Type 0} (places : List (Option T)) (n : ℕ) → n < length places
    → is_free (slice_set places n None) n ≡ true
freed places n low = grind (arith, common_steps)

pub free_here : {T : Type 0} (places : List (Option T)) (n : ℕ) → placed places n ≡ None → length places ≡ 32 → n < 32
    → is_free places n ≡ true
free_here places n none long low = grind (arith, common_steps, none, long)

-- So is one from which something was taken.
there_by : {T : Type 0} (places : List (Option T)) (n : ℕ) (x : T) (b : Bool) → nat_lt n (length places) ≡ b
    → placed places n ≡ Some x → n < length places
there_by places n x true at e = grind (arith, nat_tests)
there_by places n x false at e =
    let past : length places ≤ n = grind (arith, nat_tests) in
    absurd (false≢true (ap is_none (sym e ∙ get_or_past places n None past)))

pub is_within : {T : Type 0} (places : List (Option T)) (n : ℕ) (x : T) → placed places n ≡ Some x → n < length places
is_within places n x e = there_by places n x (nat_lt n (length places)) refl e

pub taken_free : {T : Type 0} (places : List (Option T)) (n : ℕ) (x : T) → placed places n ≡ Some x
    → is_free (slice_set places n None) n ≡ true
taken_free places n x e = freed places n (is_within places n x e)
