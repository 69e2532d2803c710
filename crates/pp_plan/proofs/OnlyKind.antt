-- The walk over the kinds that finds the only one whose first key a value has.
use Rattle.std.proofs.Common.{◌≡◌, ℕ, suc, ◌+◌, ◌<◌, Bool, true, false, cond, List, ◌∷◌, ◌++◌, length, drop, get_or}
use Rattle.std.proofs.Common.{Option, Some, None, is_some, sym, ap, ◌∙◌, add-one}
use Rattle.std.specs.Option.{option_to_list}
use Rattle.std.specs.List.{filter}
use Rattle.std.proofs.Math.Seq.{drop-cons}
use Rattle.pp_plan.specs.declared.kind.Kind.{Kind}
use Rattle.pp_plan.specs.Shapes.{only_one}

-- What is left of a filtered list, where the next one passes, and where it doesn't.
from : (p : Kind → Bool) (ks : List Kind) (i : ℕ) (k : Kind) (b : Bool) → i < length ks → p (get_or ks i k) ≡ b
    → filter p (drop i ks) ≡ cond b (get_or ks i k ∷ filter p (drop (i + 1) ks)) (filter p (drop (i + 1) ks))
from p ks i k b within is =
    ap (filter p) (drop-cons ks i k within)
    ∙ ap (λ (c : Bool). cond c (get_or ks i k ∷ filter p (drop (suc i) ks)) (filter p (drop (suc i) ks))) is
    ∙ ap (λ (j : ℕ). cond b (get_or ks i k ∷ filter p (drop j ks)) (filter p (drop j ks))) (sym (add-one i))

-- The first one that passes is kept.
pub kind_kept : (p : Kind → Bool) (ks : List Kind) (i : ℕ) (k : Kind) (found now all : Option Kind)
    → i < length ks → true ≡ p (get_or ks i k) → false ≡ is_some found → now ≡ Some (get_or ks i k)
    → only_one (option_to_list found ++ filter p (drop i ks)) ≡ all
    → only_one (option_to_list now ++ filter p (drop (i + 1) ks)) ≡ all
kind_kept p ks i k None now all within passes first is before =
    ap (λ (o : Option Kind). only_one (option_to_list o ++ filter p (drop (i + 1) ks))) is
    ∙ ap only_one (sym (from p ks i k true within (sym passes))) ∙ before
kind_kept p ks i k (Some j) now all within passes first is before = absurd cc

-- One that doesn't pass is left out.
pub kind_left : (p : Kind → Bool) (ks : List Kind) (i : ℕ) (k : Kind) (found now all : Option Kind)
    → i < length ks → false ≡ p (get_or ks i k) → now ≡ found
    → only_one (option_to_list found ++ filter p (drop i ks)) ≡ all
    → only_one (option_to_list now ++ filter p (drop (i + 1) ks)) ≡ all
kind_left p ks i k found now all within fails is before =
    ap (λ (o : Option Kind). only_one (option_to_list o ++ filter p (drop (i + 1) ks))) is
    ∙ ap (λ (js : List Kind). only_one (option_to_list found ++ js)) (sym (from p ks i k false within (sym fails)))
    ∙ before
